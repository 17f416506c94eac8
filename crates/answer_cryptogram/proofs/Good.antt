-- Of an answer that has no reason the cryptogram by place is the one that it gives.
-- Assumes nothing.
use mathlib.Core.Path.{◌≡◌, refl, sym, ap, ◌∙◌}
use mathlib.Core.Bool.{Bool}
use mathlib.Core.List.{List, [], ◌∷◌}
use Prim.Native.Nat.{ℕ}
use lib.ListN.{take, get_or}
use Rattle.slices.specs.Choice.{pick}
use Rattle.slices.proofs.Choice.{pick_ap}
use Rattle.decide_cryptogram.specs.Cryptograms.{given_by}
use Rattle.decide_cryptogram.specs.Cryptograms.{Given}
use Rattle.answer_common.specs.Answer.{is_one, inside}
use Rattle.answer_common.specs.Forms.{template, joined, both_forms}
use Rattle.answer_common.specs.Named.{direct, value_of}
use Rattle.answer_common.proofs.Good.{answered, form_by}
use Rattle.answer_cryptogram.specs.Cryptogram.{information_of, cryptogram_of, cryptogram_read, cryptogram_lines, cryptogram_reason}

-- of the joined bytes only the first counts
first_one : (v : List ℕ) → get_or (take 1 v) 0 0 ≡ get_or v 0 0
first_one [] = refl
first_one (x ∷ v) = refl

pub cryptogram_good : (allowed : Given → Bool) (a : List ℕ) → cryptogram_reason allowed a ≡ 0 → cryptogram_read a ≡ cryptogram_of a
unfolding cryptogram_reason cryptogram_read cryptogram_of information_of
cryptogram_good allowed a good =
    let j = inside joined a in
    let t = value_of (direct template a 0x9F27) in
    let front : List ℕ → ℕ = λ v. get_or v 0 0 in
    ap given_by
    (ap front (form_by (answered a both_forms (cryptogram_lines allowed a) good) refl 0 1 0x9F27)
    ∙ (pick_ap front (is_one joined a) (take 1 j) t
    ∙ (ap (λ (x : ℕ). pick (is_one joined a) x (front t)) (first_one j) ∙ sym (pick_ap front (is_one joined a) j t))))
