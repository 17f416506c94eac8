-- The list is in order, and those that stand alike stand as they joined: whoever joins stands behind them. Nobody else is moved, added or
-- lost (`placed_at_lem` and `without_at` of `Placing`).
-- Assumes nothing.
use mathlib.Core.Path.{◌≡◌, refl, sym, ap, ◌∙◌}
use mathlib.Core.List.{List, [], ◌∷◌, ◌++◌}
use Prim.Native.Nat.{ℕ, zero, suc, ◌≤◌}
use native.Mathlib.Omega.{arith}
use lib.Dec.{eqb, leb}
use borrow.Author.Tests.{leb-true, leb-false, eq-eqb, ne_eqb}
use Rattle.slices.proofs.Choice.{pick_yes, pick_no, picked, either}
use Rattle.select_list.specs.Order.{Candidate, placed, without}
use Rattle.select_list.specs.Ordered.{Behind, Ordered, those}

-- behind a later one is behind an earlier one
pub behind_less : (s t : ℕ) (l : List Candidate) → s ≤ t → Behind t l → Behind s l
behind_less s t [] h o = o
behind_less s t (d ∷ l) h o = (omega arith, behind_less s t l h o.1)

pub placed_behind : (s : ℕ) (c : Candidate) (l : List Candidate) → s ≤ c.standing → Behind s l → Behind s (placed c l)
unfolding placed
placed_behind s c [] h o = (h, o)
placed_behind s c (d ∷ l) h o =
    picked (Behind s) (leb d.standing c.standing) (d ∷ placed c l) (c ∷ d ∷ l)
    (λ y. (o.0, placed_behind s c l h o.1))
    (λ n. (h, o))

pub placed_ordered : (c : Candidate) (l : List Candidate) → Ordered l → Ordered (placed c l)
unfolding placed
placed_ordered c [] o = (o, o)
placed_ordered c (d ∷ l) o =
    picked Ordered (leb d.standing c.standing) (d ∷ placed c l) (c ∷ d ∷ l)
    (λ y. (placed_behind d.standing c l (leb-true _ _ y) o.0, placed_ordered c l o.1))
    (λ n.
    let later = leb-false d.standing c.standing n in
    ((omega arith, behind_less c.standing d.standing l (omega arith) o.0), o))

without_behind : (s i : ℕ) (l : List Candidate) → Behind s l → Behind s (without i l)
unfolding without
without_behind s zero [] o = o
without_behind s (suc i) [] o = o
without_behind s zero (d ∷ l) o = o.1
without_behind s (suc i) (d ∷ l) o = (o.0, without_behind s i l o.1)

pub without_ordered : (i : ℕ) (l : List Candidate) → Ordered l → Ordered (without i l)
unfolding without
without_ordered zero [] o = o
without_ordered (suc i) [] o = o
without_ordered zero (d ∷ l) o = o.1
without_ordered (suc i) (d ∷ l) o = (without_behind d.standing i l o.0, without_ordered i l o.1)

none_there : (s : ℕ) (l : List Candidate) → Behind (suc s) l → those s l ≡ []
unfolding those
none_there s [] o = refl
none_there s (d ∷ l) o =
    let h = o.0 in
    pick_no _ _ _ (ne_eqb d.standing s (λ e. absurd (omega arith))) ∙ none_there s l o.1

-- who joins stands behind its equals
pub equals_as_joined : (c : Candidate) (l : List Candidate) → Ordered l
    → those c.standing (placed c l) ≡ those c.standing l ++ (c ∷ [])
unfolding placed those
equals_as_joined c [] o = pick_yes _ _ _ (eq-eqb c.standing c.standing refl)
equals_as_joined c (d ∷ l) o =
    either (leb d.standing c.standing)
    (λ y.
    ap (those c.standing) (pick_yes _ _ _ y)
    ∙ either (eqb d.standing c.standing)
    (λ same. pick_yes _ _ _ same ∙ (ap (λ x. d ∷ x) (equals_as_joined c l o.1) ∙ sym (ap (λ x. x ++ (c ∷ [])) (pick_yes _ _ _ same))))
    (λ other. pick_no _ _ _ other ∙ (equals_as_joined c l o.1 ∙ sym (ap (λ x. x ++ (c ∷ [])) (pick_no _ _ _ other)))))
    (λ n.
    let later = leb-false d.standing c.standing n in
    let nobody = none_there c.standing (d ∷ l) (omega arith, behind_less (suc c.standing) d.standing l (omega arith) o.0) in
    ap (those c.standing) (pick_no _ _ _ n)
    ∙ (pick_yes _ _ _ (eq-eqb c.standing c.standing refl) ∙ (ap (λ x. c ∷ x) nobody ∙ sym (ap (λ x. x ++ (c ∷ [])) nobody))))

-- and the others stay as they were
pub others_stay : (s : ℕ) (c : Candidate) (l : List Candidate) → (c.standing ≡ s → ⊥) → those s (placed c l) ≡ those s l
unfolding placed those
others_stay s c [] h = pick_no _ _ _ (ne_eqb _ _ h)
others_stay s c (d ∷ l) h =
    picked (λ x. those s x ≡ those s (d ∷ l)) (leb d.standing c.standing) (d ∷ placed c l) (c ∷ d ∷ l)
    (λ y.
    either (eqb d.standing s)
    (λ same. pick_yes _ _ _ same ∙ (ap (λ x. d ∷ x) (others_stay s c l h) ∙ sym (pick_yes _ _ _ same)))
    (λ other. pick_no _ _ _ other ∙ (others_stay s c l h ∙ sym (pick_no _ _ _ other))))
    (λ n. pick_no _ _ _ (ne_eqb _ _ h))
