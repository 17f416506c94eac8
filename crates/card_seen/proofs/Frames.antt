-- The lines that every answer is asked first, from what is seen of it: size, status, and the one object.
-- Assumes nothing.
use mathlib.Core.Path.{◌≡◌, refl, sym, ◌∙◌}
use mathlib.Core.Bool.{Bool, true, not, ◌||◌}
use mathlib.Core.List.{List, [], ◌∷◌, ◌++◌}
use Prim.Native.Nat.{ℕ}
use lib.Dec.{eqb}
use lib.ListN.{get_or}
use Rattle.slices.specs.Choice.{first_of}
use Rattle.slices.proofs.Choice.{pick_yes}
use Rattle.slices.proofs.Lines.{one_more_lem}
use Rattle.answer_common.specs.Answer.{status_bad, outer_bad, frame}
use Rattle.card_seen.specs.Seen.{Place, expected_at, status_of, Seen, seen}

unfoldable pub frame_by : Seen → List (Bool × ℕ)
frame_by v =
    (v.size_wrong, 1)
    ∷ (not (eqb (get_or v.status 0 0) 0x90) || not (eqb (get_or v.status 1 0) 0x00), 2)
    ∷ (v.form_wrong, 3)
    ∷ []

module _ (p : Place) (a : List ℕ) where
  -- where the lines that follow agree
  pub lines_seen : (x y : List (Bool × ℕ)) → first_of x ≡ first_of y
      → first_of (frame (expected_at p) a ++ x) ≡ first_of (frame_by (seen p a) ++ y)
  unfolding frame frame_by seen status_of status_bad
  lines_seen x y e = one_more_lem 1 _ _ refl (one_more_lem 2 _ _ refl (one_more_lem 3 x y refl e))

  -- or do not matter, since the object is not the expected one
  pub lines_unseen : (x y : List (Bool × ℕ)) → outer_bad (expected_at p) a ≡ true
      → first_of (frame (expected_at p) a ++ x) ≡ first_of (frame_by (seen p a) ++ y)
  unfolding frame frame_by seen status_of status_bad first_of
  lines_unseen x y e =
      one_more_lem 1 ((status_bad a, 2) ∷ (outer_bad (expected_at p) a, 3) ∷ x)
      ((status_bad a, 2) ∷ (outer_bad (expected_at p) a, 3) ∷ y) refl
      (one_more_lem 2 ((outer_bad (expected_at p) a, 3) ∷ x) ((outer_bad (expected_at p) a, 3) ∷ y) refl
      (pick_yes _ _ _ e ∙ sym (pick_yes _ _ _ e)))
