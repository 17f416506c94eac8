-- `tape_read::read::is_zero` meets its contract: a byte more joined is a byte less left.
-- Assumes nothing.
use mathlib.Core.Path.{◌≡◌, refl, sym, ap, ◌∙◌}
use mathlib.Core.Bool.{Bool, true, false, ◌&&◌, and_assoc}
use mathlib.Core.List.{List}
use Prim.Native.Nat.{ℕ, ◌+◌, ◌≤◌, ◌<◌}
use native.Mathlib.Numerals.{add-one}
use native.Mathlib.Omega.{arith}
use borrow.Author.Tests.{eqb-true, eqb-false, ne_eqb}
use lib.Bits.{bit_or, or_zero_l, or_add_and, and_le_r}
use lib.Dec.{eqb}
use lib.ListN.{length, get_or, drop, drop_of_length-le}
use lib.Seq.{drop-cons}
use Rattle.slices.proofs.Choice.{either}
use Rattle.tape_read.specs.Blocks.{all_zero}
use Rattle.tape_read.proofs.read.is_zero.Goals as goal

-- two numbers joined are zero where both are
join_zero : (a b : ℕ) → eqb (bit_or a b) 0 ≡ (eqb a 0 && eqb b 0)
join_zero a b =
    either (eqb a 0)
    (λ y.
    ap (λ (x : ℕ). eqb (bit_or x b) 0) (eqb-true a 0 y)
    ∙ (ap (λ (x : ℕ). eqb x 0) (or_zero_l b) ∙ sym (ap (λ (t : Bool). t && eqb b 0) y)))
    (λ n.
    ne_eqb (bit_or a b) 0 (λ z. eqb-false a 0 n (omega (arith, z, or_add_and a b, and_le_r a b)))
    ∙ sym (ap (λ (t : Bool). t && eqb b 0) n))

module _ (s : List ℕ) (i : ℕ) (there : i < length s) where
  zero_next : all_zero (drop i s) ≡ (eqb (get_or s i 0) 0 && all_zero (drop (i + 1) s))
  unfolding all_zero
  zero_next = ap all_zero (drop-cons s i 0 there) ∙ ap (λ (k : ℕ). eqb (get_or s i 0) 0 && all_zero (drop k s)) (sym (add-one i))

  join_next : (bits : ℕ) → (eqb (bit_or bits (get_or s i 0)) 0 && all_zero (drop (i + 1) s)) ≡ (eqb bits 0 && all_zero (drop i s))
  join_next bits =
      ap (λ (t : Bool). t && all_zero (drop (i + 1) s)) (join_zero bits (get_or s i 0))
      ∙ (and_assoc (eqb bits 0) (eqb (get_or s i 0) 0) (all_zero (drop (i + 1) s)) ∙ ap (λ (t : Bool). eqb bits 0 && t) (sym zero_next))

-- at the end
join_end : (s : List ℕ) (i bits : ℕ) → length s ≤ i → (eqb bits 0 && all_zero (drop i s)) ≡ eqb bits 0
unfolding all_zero
join_end s i bits h = ap (λ (l : List ℕ). eqb bits 0 && all_zero l) (drop_of_length-le s h) ∙ last (eqb bits 0)
  where
    last : (t : Bool) → (t && true) ≡ t
    last true = refl
    last false = refl

pub loop-b-preserved : goal.loop-b-preserved
loop-b-preserved c = let l = c.loop-b in join_next c.args.s.now l.b-index c.loop-b-test.true l.bits ∙ l.invariant

pub returns : goal.returns
returns c =
    let l = c.loop-b in
    sym (join_end c.args.s.now l.b-index l.bits (omega arith)) ∙ l.invariant
