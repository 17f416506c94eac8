-- `first_alone` meets its contract: three parts of START fill the shorter one.
-- Assumes nothing.
use mathlib.Core.Path.{◌≡◌, sym, ap, ◌∙◌}
use mathlib.Core.List.{List}
use Prim.Native.Nat.{ℕ, ◌+◌, ◌≤◌}
use native.Mathlib.Omega.{arith}
use lib.ListN.{length, length-take, length-drop, take, drop}
use borrow.Author.Tests.{eq-eqb, ne_eqb}
use Rattle.slices.specs.Writing.{laid, zeros}
use Rattle.slices.proofs.Choice.{pick_yes, pick_no}
use Rattle.slices.proofs.Writing.{zeros_length}
use Rattle.start_choosing.specs.Start.{is_listing, with_first_alone, alone_in}
use Rattle.start_choosing.proofs.Laying.{three_laid}
use Rattle.start_choosing.proofs.first_alone.Goals as goal

-- a part of START that is there has its own length
whole : (n p : ℕ) (s : List ℕ) → length s ≡ 207 → p + n ≤ 207 → length (take n (drop p s)) ≡ n
whole n p s size fits = simp (length-take, length-drop) (omega arith)

pub returns-then-s-ne-LISTING : goal.returns-then-s-ne-LISTING
unfolding alone_in is_listing zeros
returns-then-s-ne-LISTING c = sym (pick_no _ _ _ (ne_eqb (length c.args.s.now) 207 c.if-s-ne-LISTING.true))

pub returns : goal.returns
unfolding alone_in is_listing with_first_alone zeros
returns c =
    let l3 = c.lay-3.ensures in
    let p3 = c.part-3.ensures in
    let l2 = c.lay-2.ensures in
    let p2 = c.part-2.ensures in
    let l1 = c.lay.ensures in
    let p1 = c.part.ensures in
    let s = c.args.s.now in
    let size : length s ≡ 207 = c.if-s-ne-LISTING.false in
    let a = take 57 (drop 0 s) in
    let b = take 17 (drop 58 s) in
    let d = take 3 (drop 202 s) in
    let first : _ ≡ laid a 0 (zeros 77) = l1 ∙ ap (λ (x : List ℕ). laid x 0 (zeros 77)) p1 in
    let second : _ ≡ laid b 57 (laid a 0 (zeros 77)) = l2 ∙ (λ i. laid (p2 i) 57 (first i)) in
    let third : _ ≡ laid d 74 (laid b 57 (laid a 0 (zeros 77))) = l3 ∙ (λ i. laid (p3 i) 74 (second i)) in
    third
    ∙ (three_laid a b d (zeros 77) 57 74 (whole 57 0 s size (omega arith)) (ap (λ (n : ℕ). 57 + n) (whole 17 58 s size (omega arith)))
    (ap (λ (n : ℕ). 74 + n) (whole 3 202 s size (omega arith)) ∙ sym (zeros_length 77))
    ∙ sym (pick_yes _ _ _ (eq-eqb (length s) 207 size)))
