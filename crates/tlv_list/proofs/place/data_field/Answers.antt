-- `place::data_field` meets its contract: without two bytes nothing is left, else all but the last two.
-- Assumes nothing.
use mathlib.Core.Path.{◌≡◌, sym, ap}
use mathlib.Core.List.{List}
use Prim.Native.Nat.{ℕ, ◌-◌}
use lib.ListN.{length, take}
use Rattle.tlv_list.specs.Place.{data_field}
use native.Mathlib.Omega.{arith}
use Rattle.tlv_list.proofs.place.data_field.Goals as goal

cut : (a : List ℕ) (n : ℕ) → length a - 2 ≡ n → take n a ≡ data_field a
unfolding data_field
cut a n e = sym (ap (λ (k : ℕ). take k a) e)

pub returns-then-answer-lt2 : goal.returns-then-answer-lt2
returns-then-answer-lt2 c = cut c.args.answer.now 0 (omega arith)

pub returns : goal.returns
returns c =
    let a = c.args.answer.now in
    cut a (length a - 2 - 0) (omega arith)
