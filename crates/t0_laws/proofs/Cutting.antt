-- However a capture is cut into pieces, the outcome is the same: an exchange that is over takes no byte, and one that is not goes on
-- with the next piece as if it had followed at once. Assumes nothing.
use mathlib.Core.Path.{◌≡◌, refl, sym, ap, ◌∙◌}
use mathlib.Core.Bool.{true, false}
use mathlib.Core.List.{List, [], ◌∷◌, ◌++◌}
use Prim.Native.Nat.{ℕ}
use Rattle.slices.proofs.Choice.{pick_yes, pick_no, either}
use Rattle.t0.specs.Steps.{step_of}
use Rattle.t0_pieces.specs.Pieces.{is_closed}
use Rattle.t0_laws.specs.Outcomes.{Outcome, stepped_to, playing, in_pieces, joined}

pub stopped : (o : Outcome) (bs : List ℕ) → is_closed o.state ≡ true → playing o bs ≡ o
unfolding playing
stopped o [] e = refl
stopped o (b ∷ bs) e = pick_yes _ _ _ e

pub going : (o : Outcome) (b : ℕ) (bs : List ℕ) → is_closed o.state ≡ false
    → playing o (b ∷ bs) ≡ playing (stepped_to o (step_of o.state b o.out o.answer)) bs
unfolding playing
going o b bs e = pick_no _ _ _ e

pub cut : (o : Outcome) (x y : List ℕ) → playing o (x ++ y) ≡ playing (playing o x) y
unfolding playing
cut o [] y = refl
cut o (b ∷ x) y =
    let next = stepped_to o (step_of o.state b o.out o.answer) in
    either (is_closed o.state)
    (λ e. stopped o (b ∷ (x ++ y)) e ∙ sym (ap (λ (z : Outcome). playing z y) (stopped o (b ∷ x) e) ∙ stopped o y e))
    (λ e. going o b (x ++ y) e ∙ (cut next x y ∙ sym (ap (λ (z : Outcome). playing z y) (going o b x e))))

pub pieces_joined : (o : Outcome) (ps : List (List ℕ)) → in_pieces o ps ≡ playing o (joined ps)
unfolding in_pieces joined playing
pieces_joined o [] = refl
pieces_joined o (p ∷ ps) = pieces_joined (playing o p) ps ∙ sym (cut o p (joined ps))

-- two cuttings of one capture
pub cut_anyhow : (o : Outcome) (ps qs : List (List ℕ)) → joined ps ≡ joined qs → in_pieces o ps ≡ in_pieces o qs
cut_anyhow o ps qs e = pieces_joined o ps ∙ (ap (playing o) e ∙ sym (pieces_joined o qs))
