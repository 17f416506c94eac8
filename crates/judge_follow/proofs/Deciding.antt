-- Two tests in a row, read as the code reads them.
-- Assumes nothing.
use mathlib.Core.Path.{◌≡◌, sym, ◌∙◌}
use mathlib.Core.Bool.{Bool, true, false}
use Prim.Native.Nat.{ℕ}
use lib.Dec.{eqb}
use borrow.Author.Tests.{eq-eqb, ne_eqb}
use Rattle.slices.specs.Choice.{pick}
use Rattle.slices.proofs.Choice.{pick_yes, pick_no}

module _ {A : Type 0} (kind due : ℕ) (test : Bool) (yes no : A) where
  -- another kind
  pub other_kind : (kind ≡ due → ⊥) → no ≡ pick (eqb kind due) (pick test yes no) no
  other_kind h = sym (pick_no _ _ _ (ne_eqb kind due h))

  -- the kind that is due, and its payload fails the test
  pub test_fails : kind ≡ due → test ≡ false → no ≡ pick (eqb kind due) (pick test yes no) no
  test_fails e t = sym (pick_yes _ _ _ (eq-eqb kind due e) ∙ pick_no _ _ _ t)

  pub test_holds : kind ≡ due → test ≡ true → yes ≡ pick (eqb kind due) (pick test yes no) no
  test_holds e t = sym (pick_yes _ _ _ (eq-eqb kind due e) ∙ pick_yes _ _ _ t)
