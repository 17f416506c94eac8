-- A list of tests with a number each, read from the top (`first_of`): a line whose test holds is the answer, one whose test fails leaves it
-- to the lines below. In two lists, one after the other, the first decides unless none of its lines applies.
-- Assumes nothing.
use mathlib.Core.Path.{◌≡◌, refl, sym, ap₂, ◌∙◌}
use mathlib.Core.Bool.{Bool, true, false}
use mathlib.Core.List.{List, [], ◌∷◌, ◌++◌}
use Prim.Native.Nat.{ℕ}
use Rattle.slices.specs.Choice.{pick, first_of}
use Rattle.slices.proofs.Choice.{pick_yes, pick_no, either}

-- in these r is what the code found for the test t
module _ {r t : Bool} (e : r ≡ t) (n : ℕ) (lines : List (Bool × ℕ)) where
  pub line_yes : r ≡ true → first_of ((t, n) ∷ lines) ≡ n
  unfolding first_of
  line_yes h = pick_yes _ _ _ (sym e ∙ h)

  pub line_no : r ≡ false → first_of ((t, n) ∷ lines) ≡ first_of lines
  unfolding first_of
  line_no h = pick_no _ _ _ (sym e ∙ h)

-- the last line does not apply either
pub last_no : {r t : Bool} (e : r ≡ t) (n : ℕ) → r ≡ false → first_of ((t, n) ∷ []) ≡ 0
unfolding first_of
last_no e n h = line_no e n [] h

-- two lists of lines that agree from a line on
pub one_more_lem : {t t' : Bool} (n : ℕ) (x y : List (Bool × ℕ)) → t ≡ t' → first_of x ≡ first_of y → first_of ((t, n) ∷ x)
    ≡ first_of ((t', n) ∷ y)
unfolding first_of
one_more_lem n x y e f = ap₂ (λ (t : Bool) (r : ℕ). pick t n r) e f

-- every line has a number
abbrev pub Numbered : List (Bool × ℕ) → Type 0
Numbered [] = Unit {0}
Numbered (line ∷ lines) = (line.1 ≡ 0 → ⊥) × Numbered lines

-- where no reason applies, no line's test holds
pub line_clear : (t : Bool) (n : ℕ) (lines : List (Bool × ℕ)) → (n ≡ 0 → ⊥) → first_of ((t, n) ∷ lines) ≡ 0
    → (t ≡ false) × (first_of lines ≡ 0)
unfolding first_of
line_clear t n lines k e = either t (λ y. absurd (k (sym (pick_yes _ _ _ y) ∙ e))) (λ f. (f, sym (pick_no _ _ _ f) ∙ e))

pub lines_clear : (xs ys : List (Bool × ℕ)) → Numbered xs → first_of xs ≡ 0 → first_of (xs ++ ys) ≡ first_of ys
lines_clear [] ys k e = refl
lines_clear (x ∷ xs) ys k e =
    let clear = line_clear x.0 x.1 xs k.0 e in
    line_no refl x.1 (xs ++ ys) clear.0 ∙ lines_clear xs ys k.1 clear.1

pub lines_decide : (xs ys : List (Bool × ℕ)) → (first_of xs ≡ 0 → ⊥) → first_of (xs ++ ys) ≡ first_of xs
unfolding first_of
lines_decide [] ys k = absurd (k refl)
lines_decide (x ∷ xs) ys k =
    either x.0
    (λ y. pick_yes _ _ _ y ∙ sym (pick_yes _ _ _ y))
    (λ n. pick_no _ _ _ n ∙ (lines_decide xs ys (λ e. k (pick_no _ _ _ n ∙ e)) ∙ sym (pick_no _ _ _ n)))
