-- Where the shopper cannot choose, the first of the terminal's order, unless it wants a confirmation, is the first without one in 02's
-- order; and where the first wants one, all do.
-- Assumes nothing.
use mathlib.Core.Path.{◌≡◌, refl, sym, ap, ap₂, ◌∙◌}
use mathlib.Core.Bool.{Bool, true, false}
use mathlib.Core.List.{List, [], ◌∷◌}
use Prim.Native.Nat.{ℕ, suc, ◌≤◌, ◌<◌}
use native.Mathlib.Omega.{arith}
use lib.Dec.{leb}
use lib.ListN.{take}
use borrow.Author.Tests.{leb-false, lt-leb}
use Rattle.slices.specs.Choice.{pick}
use Rattle.slices.proofs.Choice.{pick_yes, pick_no, picked, either}
use Rattle.select_answers.specs.Directory.{Met}
use Rattle.select_list.specs.Order.{Candidate, confirms, candidate_of, placed}
use Rattle.select_list.specs.Ordered.{Behind, Ordered}
use Rattle.select_list.specs.Kept.{candidate_in, candidate_at}
use Rattle.start_list.specs.Rows.{mark_in}
use Rattle.select_list.proofs.InOrder.{behind_less, placed_ordered}
use Rattle.select_list.proofs.Standing.{priority_most, standing_chosen, standing_confirmed, standing_free}
use Rattle.select_laws.specs.Free.{free_of, joined_in}

-- those that want a confirmation stand behind all others
abbrev Parted : List Candidate → Type 0
Parted [] = Unit {0}
Parted (c ∷ l) = ((c.confirm ≡ true → 16 < c.standing) × (c.confirm ≡ false → c.standing ≤ 16)) × Parted l

abbrev who : Bool → Met → Candidate
who choice m = candidate_of choice m.name m.indicator

who_parted : (m : Met)
    → ((who false m).confirm ≡ true → 16 < (who false m).standing) × ((who false m).confirm ≡ false → (who false m).standing ≤ 16)
unfolding candidate_of
who_parted m =
    let most = priority_most m.indicator in (
      λ e. let z = standing_confirmed m.indicator e in omega (arith, z),
      λ e. let z = standing_free m.indicator e in omega (arith, z),
    )

placed_parted : (c : Candidate) (l : List Candidate) → (c.confirm ≡ true → 16 < c.standing) × (c.confirm ≡ false → c.standing ≤ 16)
    → Parted l → Parted (placed c l)
unfolding placed
placed_parted c [] e p = (e, p)
placed_parted c (d ∷ l) e p =
    picked Parted (leb d.standing c.standing) (d ∷ placed c l) (c ∷ d ∷ l)
    (λ y. (p.0, placed_parted c l e p.1))
    (λ n. (e, p))

-- behind one that wants a confirmation nobody is free
none_free : (l : List Candidate) → Behind 17 l → Parted l → free_of l ≡ []
unfolding free_of
none_free [] b p = refl
none_free (c ∷ l) b p =
    either c.confirm
    (λ y. pick_yes _ _ _ y ∙ none_free l b.1 p.1)
    (λ n. let low = p.0.1 n in let high = b.0 in absurd (omega arith))

first_of : (l : List Candidate) → Ordered l → Parted l → pick (candidate_at l 0).confirm [] (take 1 l) ≡ take 1 (free_of l)
unfolding free_of candidate_at candidate_in mark_in
first_of [] o p = pick_no _ _ _ refl
first_of (c ∷ l) o p =
    either c.confirm
    (λ y.
    let high = p.0.0 y in
    pick_yes _ _ _ y
    ∙ sym (ap (take 1) (pick_yes _ _ _ y ∙ none_free l (behind_less 17 c.standing l (omega arith) o.0) p.1)))
    (λ n. pick_no _ _ _ n ∙ sym (ap (take 1) (pick_no _ _ _ n)))

-- who joins among the free, joins among all
placed_front : (c : Candidate) (l : List Candidate) → Behind (suc c.standing) l → placed c l ≡ c ∷ l
unfolding placed
placed_front c [] b = refl
placed_front c (d ∷ l) b = let later = b.0 in pick_no _ _ _ (lt-leb d.standing c.standing (omega arith))

behind_free : (s : ℕ) (l : List Candidate) → Behind s l → Behind s (free_of l)
unfolding free_of
behind_free s [] b = b
behind_free s (d ∷ l) b =
    picked (Behind s) d.confirm (free_of l) (d ∷ free_of l) (λ y. behind_free s l b.1) (λ n. (b.0, behind_free s l b.1))

bound_placed : (c : Candidate) (l : List Candidate) → c.confirm ≡ true → free_of (placed c l) ≡ free_of l
unfolding placed free_of
bound_placed c [] e = pick_yes _ _ _ e
bound_placed c (d ∷ l) e =
    picked (λ x. free_of x ≡ free_of (d ∷ l)) (leb d.standing c.standing) (d ∷ placed c l) (c ∷ d ∷ l)
    (λ y. ap (λ x. pick d.confirm x (d ∷ x)) (bound_placed c l e))
    (λ n. pick_yes _ _ _ e)

free_placed : (c : Candidate) (l : List Candidate) → Ordered l → c.confirm ≡ false → free_of (placed c l) ≡ placed c (free_of l)
unfolding placed free_of
free_placed c [] o e = pick_no _ _ _ e
free_placed c (d ∷ l) o e =
    either (leb d.standing c.standing)
    (λ y.
    ap free_of (pick_yes _ _ _ y)
    ∙ either d.confirm
    (λ k. pick_yes _ _ _ k ∙ (free_placed c l o.1 e ∙ sym (ap (placed c) (pick_yes _ _ _ k))))
    (λ k.
    pick_no _ _ _ k
    ∙ (ap (λ x. d ∷ x) (free_placed c l o.1 e) ∙ sym (ap (placed c) (pick_no _ _ _ k) ∙ pick_yes _ _ _ y))))
    (λ n.
    let later = leb-false d.standing c.standing n in
    ap free_of (pick_no _ _ _ n)
    ∙ (pick_no _ _ _ e
    ∙ sym (placed_front c (free_of (d ∷ l))
    (behind_free (suc c.standing) (d ∷ l) (omega arith, behind_less (suc c.standing) d.standing l (omega arith) o.0)))))

-- without a confirmation one stands alike for both terminals
free_alike : (m : Met) → confirms m.indicator ≡ false → who false m ≡ who true m
unfolding candidate_of
free_alike m e =
    λ i.
    record {
      name = m.name;
      standing = (standing_free m.indicator e ∙ sym (standing_chosen m.indicator)) i;
      confirm = confirms m.indicator;
    }

one_more_lem : (m : Met) (l l' : List Candidate) → Ordered l → Ordered l' → free_of l ≡ free_of l'
    → free_of (placed (who false m) l) ≡ free_of (placed (who true m) l')
unfolding candidate_of
one_more_lem m l l' o o' e =
    either (confirms m.indicator)
    (λ y. bound_placed (who false m) l y ∙ (e ∙ sym (bound_placed (who true m) l' y)))
    (λ n.
    free_placed (who false m) l o n
    ∙ (ap₂ (λ (c : Candidate) (x : List Candidate). placed c x) (free_alike m n) e ∙ sym (free_placed (who true m) l' o' n)))

free_both : (ms : List Met) (l l' : List Candidate) → Ordered l → Ordered l' → free_of l ≡ free_of l'
    → free_of (joined_in false ms l) ≡ free_of (joined_in true ms l')
unfolding joined_in
free_both [] l l' o o' e = e
free_both (m ∷ ms) l l' o o' e =
    free_both ms (placed (who false m) l) (placed (who true m) l') (placed_ordered (who false m) l o) (placed_ordered (who true m) l' o')
    (one_more_lem m l l' o o' e)

in_order : (ms : List Met) (l : List Candidate) → Ordered l → Parted l → Ordered (joined_in false ms l) × Parted (joined_in false ms l)
unfolding joined_in
in_order [] l o p = (o, p)
in_order (m ∷ ms) l o p =
    in_order ms (placed (who false m) l) (placed_ordered (who false m) l o) (placed_parted (who false m) l (who_parted m) p)

-- the first of the terminal's order, unless it wants a confirmation, and the first free one of 02's order
pub first_free : (ms : List Met)
    → pick (candidate_at (joined_in false ms []) 0).confirm [] (take 1 (joined_in false ms [])) ≡ take 1 (free_of (joined_in true ms []))
first_free ms =
    let both = in_order ms [] tt tt in
    first_of (joined_in false ms []) both.0 both.1 ∙ ap (take 1) (free_both ms [] [] tt tt refl)
