-- The four counts together are the entries: each entry has just one of the four verdicts. Assumes nothing.
use mathlib.Core.Path.{◌≡◌, refl, sym, ap, ◌∙◌}
use mathlib.Core.Bool.{true, false≢true}
use mathlib.Core.List.{List, [], ◌∷◌, ◌++◌}
use Prim.Native.Nat.{ℕ, zero, suc, ◌+◌}
use native.Mathlib.Nat.{add-zero}
use native.Mathlib.Omega.{arith}
use lib.Dec.{eqb}
use lib.ListN.{length}
use Rattle.slices.specs.Choice.{pick}
use Rattle.slices.proofs.Choice.{pick_yes, pick_no, either}
use Rattle.book_block.specs.Entries.{pass, fail, inconclusive, unreadable, is_verdict}
use Rattle.book_block.specs.declared.Entry.{Entry}
use Rattle.book.specs.Counting.{count_of, end_of, total_of}
use Rattle.book_laws.proofs.Back.{verdict_most}
use Rattle.book_laws.proofs.Written.{Holds}

-- what one entry adds to a count
hit : ℕ → ℕ → ℕ
hit v mine = pick (eqb v mine) 1 0

one_hit : (v : ℕ) → is_verdict v ≡ true → hit v pass + hit v fail + hit v inconclusive + hit v unreadable ≡ 1
unfolding hit pick is_verdict
one_hit zero h = absurd (false≢true h)
one_hit (suc zero) h = refl
one_hit (suc (suc zero)) h = refl
one_hit (suc (suc (suc zero))) h = refl
one_hit (suc (suc (suc (suc zero)))) h = refl
one_hit (suc (suc (suc (suc (suc v))))) h = absurd (omega (arith, verdict_most (suc (suc (suc (suc (suc v))))) h))

count_first : (v : ℕ) (e : Entry) (es : List Entry) → count_of v (e ∷ es) ≡ count_of v es + hit e.verdict v
unfolding count_of hit
count_first v e es =
    either (eqb e.verdict v)
    (λ y. pick_yes _ _ _ y ∙ sym (ap (λ (n : ℕ). count_of v es + n) (pick_yes _ _ _ y)))
    (λ n. pick_no _ _ _ n ∙ (sym (add-zero (count_of v es)) ∙ sym (ap (λ (k : ℕ). count_of v es + k) (pick_no _ _ _ n))))

total_none : total_of (end_of []) ≡ 0
unfolding end_of count_of
total_none = refl

pub total_length : (done es : List Entry) → Holds done es → total_of (end_of es) ≡ length es
unfolding end_of Holds
total_length done [] h = total_none
total_length done (e ∷ es) h =
    let rest = total_length (done ++ (e ∷ [])) es h.1 in
    let one = one_hit e.verdict h.0.verdict in
    let a = count_first pass e es in
    let b = count_first fail e es in
    let c = count_first inconclusive e es in
    let d = count_first unreadable e es in
    omega arith
