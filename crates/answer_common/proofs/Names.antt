-- The names that count for a terminal are names of the one table.
-- Assumes nothing.
use mathlib.Core.Path.{◌≡◌, sym, ◌∙◌}
use mathlib.Core.Bool.{true, false≢true}
use mathlib.Core.List.{List, [], ◌∷◌, ◌++◌, map}
use Prim.Native.Nat.{ℕ}
use lib.Dec.{eqb}
use Rattle.slices.specs.Tables.{any_of}
use Rattle.slices.specs.Tests.{is_some}
use Rattle.slices.proofs.Choice.{pick_yes, pick_no, picked, either}
use Rattle.start_fields.specs.Reading.{Terminal}
use Rattle.answer_common.specs.Content.{Row, record_names, rows_for, names_for}
use Rattle.answer_common.specs.Named.{listed}

pub listed_more : (name : ℕ) (x y : List ℕ) → listed name x ≡ true → listed name (x ++ y) ≡ true
unfolding listed any_of
listed_more name [] y l = absurd (false≢true l)
listed_more name (n ∷ x) y l =
    either (eqb name n) (λ e. pick_yes _ _ _ e) (λ e. pick_no _ _ _ e ∙ listed_more name x y (sym (pick_no _ _ _ e) ∙ l))

pub named_somewhere : (t : Terminal) (name : ℕ) → listed name (names_for t) ≡ true → listed name record_names ≡ true
unfolding names_for rows_for
named_somewhere t name =
    picked (λ (rows : List Row). listed name (map (λ r. r.tag) rows) ≡ true → listed name record_names ≡ true)
    (is_some t.capabilities) _ _ (λ e l. l) (λ e l. listed_more name _ (0x8E ∷ 0x9F42 ∷ []) l)
