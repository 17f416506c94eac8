-- An application's FCI: 84, A5, 87 and 9F38 count.
-- Assumes nothing.
use mathlib.Core.Path.{refl}
use mathlib.Core.List.{[], ◌∷◌, ◌++◌}
use Rattle.numbers.specs.Tables.{command, answer}
use Rattle.tape_read.specs.Entries.{entry}
use Rattle.rulebook.specs.Roles.{given}
use Rattle.rulebook.proofs.Made.{with_number}
use Rattle.card_seen.specs.Seen as seen
use Rattle.card_seen.proofs.Freedoms.{viewed}
use Rattle.card_worked.specs.Matters.{others, besides, seen_beside, place_due, reason_said}
use Rattle.card_worked.proofs.Cards.{differ}
use Rattle.card_choosing.specs.Places.{place_at, place_of}
use Rattle.card_choosing_worked.specs.Theorem.{MattersAt}
use Rattle.card_choosing_worked.proofs.Cards.{reached, missing, fci, name_ending, telling, application_of}
use Rattle.card_choosing_worked.proofs.Cards.{select_aid, select_name}
use Rattle.card_choosing_worked.proofs.Cards.{begins, sends, pair}

-- ---- the final SELECT: GPO, or the other application

-- the other's name: it falls out
pub name_counts : MattersAt seen.application 0x84
unfolding reached viewed place_due place_of place_at given others besides seen_beside reason_said
name_counts =
    pair 0x84 sends seen.application (application_of 1 1) (application_of 2 1) [] (entry command with_number) (select_name 2)
    refl refl refl refl refl refl (differ 0 _ _ refl) refl refl

-- none: it falls out
pub template_counts : MattersAt seen.application 0xA5
unfolding reached viewed place_due place_of place_at given others besides seen_beside reason_said
template_counts =
    pair 0xA5 sends seen.application (application_of 1 1) (fci 0x08 (name_ending 1) []) [] (entry command with_number) (select_name 2)
    refl refl refl refl refl refl (differ 0 _ _ refl) refl refl

-- two bytes are asked for and not four
pub list_counts : MattersAt seen.application 0x9F38
unfolding reached viewed place_due place_of place_at given others besides seen_beside reason_said
list_counts =
    pair 0x9F38 sends seen.application (application_of 1 1) (fci 0x13 (name_ending 1) (telling 1 2)) [] (entry command with_number)
    (entry command (0x80 ∷ 0xA8 ∷ 0x00 ∷ 0x00 ∷ 0x04 ∷ 0x83 ∷ 0x02 ∷ 0x11 ∷ 0x22 ∷ 0x00 ∷ []))
    refl refl refl refl refl refl (differ 4 _ _ refl) refl refl

-- ---- a SELECT from the list of AIDs, where the card has no environment: who is selected for good

-- with a priority behind the second's
pub priority_counts : MattersAt seen.application 0x87
unfolding reached viewed place_due place_of place_at given others besides seen_beside reason_said
priority_counts =
    pair 0x87 (begins ++ (entry answer missing ∷ select_aid 0 ∷ [])) seen.application (application_of 1 1) (application_of 1 3)
    (select_aid 2 ∷ entry answer (application_of 2 2) ∷ select_aid 2 ∷ entry answer missing ∷ []) (select_name 1)
    (select_name 2)
    refl refl refl refl refl refl (differ 10 _ _ refl) refl refl
