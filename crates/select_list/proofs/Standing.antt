-- Where an application stands, by the terminal and by its priority indicator; and what a row's last byte says of both.
-- Assumes nothing.
use mathlib.Core.Path.{◌≡◌, refl, sym, ap, ◌∙◌}
use mathlib.Core.Bool.{Bool, true, false, not, ◌&&◌}
use Prim.Native.Nat.{ℕ, ◌+◌, ◌%◌, ◌≤◌, ◌<◌}
use native.Mathlib.Omega.{arith}
use lib.Dec.{eqb, leb}
use borrow.Author.Tests.{le-leb, lt-leb}
use Rattle.slices.proofs.Choice.{pick_yes, pick_no, picked, either}
use Rattle.select_list.specs.Order.{priority, confirms, standing_of}
use Rattle.select_list.specs.Steps.{mark_of}

pub priority_most : (b : ℕ) → priority b ≤ 16
unfolding priority
priority_most b = picked (λ (n : ℕ). n ≤ 16) (eqb (b % 16) 0) 16 (b % 16) (λ y. omega arith) (λ n. omega arith)

-- where the shopper can choose, by the priority alone
pub standing_chosen : (b : ℕ) → standing_of true b ≡ priority b
unfolding standing_of
standing_chosen b =
    ap (λ (n : ℕ). priority b + n) (pick_no _ _ _ refl) ∙ (let e : priority b + 0 ≡ priority b = omega arith in e)

-- where he cannot, also by the confirmation
pub standing_confirmed : (b : ℕ) → confirms b ≡ true → standing_of false b ≡ priority b + 32
unfolding standing_of
standing_confirmed b e = ap (λ (n : ℕ). priority b + n) (pick_yes _ _ _ e)

pub standing_free : (b : ℕ) → confirms b ≡ false → standing_of false b ≡ priority b
unfolding standing_of
standing_free b e =
    ap (λ (n : ℕ). priority b + n) (pick_no _ _ _ e) ∙ (let z : priority b + 0 ≡ priority b = omega arith in z)

pub standing_most : (choice : Bool) (b : ℕ) → standing_of choice b < 128
unfolding standing_of
standing_most choice b =
    let z = priority_most b in
    picked (λ (n : ℕ). priority b + n < 128) (not choice && confirms b) 32 0 (λ y. omega arith) (λ n. omega arith)

-- both are read off a row's last byte
module _ (choice : Bool) (b : ℕ) where
  pub mark_standing : mark_of choice b % 128 ≡ standing_of choice b
  unfolding mark_of
  mark_standing =
      let z = standing_most choice b in
      picked (λ (n : ℕ). (standing_of choice b + n) % 128 ≡ standing_of choice b) (confirms b) 128 0 (λ y. omega arith) (λ n. omega arith)

  pub mark_confirms : leb 128 (mark_of choice b) ≡ confirms b
  unfolding mark_of
  mark_confirms =
      let z = standing_most choice b in
      either (confirms b)
      (λ y.
      ap (λ (n : ℕ). leb 128 (standing_of choice b + n)) (pick_yes _ _ _ y)
      ∙ (le-leb 128 (standing_of choice b + 128) (omega arith) ∙ sym y))
      (λ n.
      ap (λ (m : ℕ). leb 128 (standing_of choice b + m)) (pick_no _ _ _ n)
      ∙ (lt-leb 128 (standing_of choice b + 0) (omega arith) ∙ sym n))
