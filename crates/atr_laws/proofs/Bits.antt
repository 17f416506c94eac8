-- The bits carry the whole list: a rule is in the set exactly where it is broken.
-- Assumes nothing.
use mathlib.Core.Path.{◌≡◌, refl, sym, ap, ◌∙◌}
use mathlib.Core.Bool.{Bool, true, false}
use mathlib.Core.List.{List, [], ◌∷◌}
use Prim.Native.Nat.{ℕ, zero, suc, ◌+◌, ◌*◌, ◌-◌, ◌/◌, ◌%◌, ◌^◌, ◌≤◌, ◌<◌}
use native.Mathlib.Nat.{pow-succ', div-div-eq-div-mul, zero-div}
use native.Mathlib.Omega.{arith}
use lib.Dec.{eqb}
use lib.ListN.{get_or}
use borrow.Author.Tests.{le-ltb}
use Rattle.slices.proofs.Choice.{pick_no}
use Rattle.atr_characters.specs.Data.{one_if}
use Rattle.atr_rules.specs.Names.{numbers}
use Rattle.atr_rules.specs.Lines.{Line, set_of}
use Rattle.atr_sets.specs.Sets.{has_rule}
use Rattle.atr_laws.specs.Readings.{broken_of}

one_eqb : (b : Bool) → eqb (one_if b) 1 ≡ b
one_eqb true = refl
one_eqb false = refl

at_most : (b : Bool) → one_if b ≤ 1
at_most true = omega arith
at_most false = omega arith

-- the bit of a place is the test at that place
bit_at : (xs : List Line) (k : ℕ) → eqb (set_of xs / 2 ^ k % 2) 1 ≡ get_or (broken_of xs) k false
unfolding set_of broken_of
bit_at [] k = ap (λ (q : ℕ). eqb (q % 2) 1) (zero-div (2 ^ k))
bit_at (x ∷ xs) zero =
    let few = at_most x.broken in
    let lowest : (one_if x.broken + 2 * set_of xs) / 1 % 2 ≡ one_if x.broken = omega arith in
    ap (λ (b : ℕ). eqb b 1) lowest ∙ one_eqb x.broken
bit_at (x ∷ xs) (suc k) =
    let few = at_most x.broken in
    let n = one_if x.broken + 2 * set_of xs in
    let half : (one_if x.broken + 2 * set_of xs) / 2 ≡ set_of xs = omega arith in
    let moved = ap (λ (p : ℕ). n / p) (pow-succ' 2 k) ∙ (sym (div-div-eq-div-mul n 2 (2 ^ k)) ∙ ap (λ (q : ℕ). q / 2 ^ k) half) in
    ap (λ (q : ℕ). eqb (q % 2) 1) moved ∙ bit_at xs k

pub broken_has : (xs : List Line) (k : ℕ) → k < numbers → has_rule (set_of xs) (k + 1) ≡ get_or (broken_of xs) k false
unfolding has_rule
broken_has xs k h =
    let same : k + 1 - 1 ≡ k = omega arith in
    pick_no _ _ _ (le-ltb (k + 1) 1 (omega arith))
    ∙ (pick_no _ _ _ (le-ltb numbers (k + 1) (omega arith))
    ∙ (ap (λ (j : ℕ). eqb (set_of xs / 2 ^ j % 2) 1) same ∙ bit_at xs k))
