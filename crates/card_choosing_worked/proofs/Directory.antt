-- The environment and its directory: 84, A5 and 88 of the one, and 61, 4F, 87 and 9D of the other count.
-- Assumes nothing.
use mathlib.Core.Path.{refl}
use mathlib.Core.List.{[], ◌∷◌, ◌++◌}
use Rattle.rulebook.specs.Roles.{given}
use Rattle.card_seen.specs.Seen as seen
use Rattle.card_seen.proofs.Freedoms.{viewed}
use Rattle.card_worked.specs.Matters.{others, besides, seen_beside, place_due, reason_said}
use Rattle.card_worked.proofs.Cards.{differ}
use Rattle.card_choosing.specs.Places.{place_at, place_of}
use Rattle.card_choosing_worked.specs.Theorem.{MattersAt}
use Rattle.card_choosing_worked.proofs.Cards.{reached, fci, environment_name, filed, directory}
use Rattle.card_choosing_worked.proofs.Cards.{record_of, passed_over, listed, two_listed, read_record, select_aid, select_name}
use Rattle.card_choosing_worked.proofs.Cards.{begins, opens, closes, pair}

-- ---- the environment, whose directory's first record is read next

-- another name than the one sent: the terminal goes by its list of AIDs
pub name_counts : MattersAt seen.environment 0x84
unfolding reached viewed place_due place_of place_at given others besides seen_beside reason_said
name_counts =
    pair 0x84 begins seen.environment directory (fci 0x0C (0x84 ∷ 0x05 ∷ 0xA0 ∷ 0 ∷ 0 ∷ 0 ∷ 3 ∷ []) (filed 1)) [] (read_record 1 0x0C)
    (select_aid 0)
    refl refl refl refl refl refl (differ 1 _ _ refl) refl refl

-- none
pub template_counts : MattersAt seen.environment 0xA5
unfolding reached viewed place_due place_of place_at given others besides seen_beside reason_said
template_counts =
    pair 0xA5 begins seen.environment directory (fci 0x10 environment_name []) [] (read_record 1 0x0C) (select_aid 0)
    refl refl refl refl refl refl (differ 1 _ _ refl) refl refl

-- file 2 and not 1
pub file_counts : MattersAt seen.environment 0x88
unfolding reached viewed place_due place_of place_at given others besides seen_beside reason_said
file_counts =
    pair 0x88 begins seen.environment directory (fci 0x15 environment_name (filed 2)) [] (read_record 1 0x0C) (read_record 1 0x14)
    refl refl refl refl refl refl (differ 3 _ _ refl) refl refl

-- ---- a record of its directory: what is selected when it has ended

-- without its first application
pub entry_counts : MattersAt seen.directory 0x61
unfolding reached viewed place_due place_of place_at given others besides seen_beside reason_said
entry_counts =
    pair 0x61 opens seen.directory two_listed (record_of 0x12 (passed_over ++ listed 2 2)) closes (select_name 1) (select_name 2)
    refl refl refl refl refl refl (differ 10 _ _ refl) refl refl

-- under another name
pub entry_name_counts : MattersAt seen.directory 0x4F
unfolding reached viewed place_due place_of place_at given others besides seen_beside reason_said
entry_name_counts =
    pair 0x4F opens seen.directory two_listed (record_of 0x1F (passed_over ++ (listed 5 1 ++ listed 2 2))) closes (select_name 1)
    (select_name 5)
    refl refl refl refl refl refl (differ 10 _ _ refl) refl refl

-- with a priority behind the second's
pub entry_priority_counts : MattersAt seen.directory 0x87
unfolding reached viewed place_due place_of place_at given others besides seen_beside reason_said
entry_priority_counts =
    pair 0x87 opens seen.directory two_listed (record_of 0x1F (passed_over ++ (listed 1 3 ++ listed 2 2))) closes (select_name 1)
    (select_name 2)
    refl refl refl refl refl refl (differ 10 _ _ refl) refl refl

-- an entry with neither 4F nor 9D is a fault: the terminal goes by its list of AIDs
pub entry_note_counts : MattersAt seen.directory 0x9D
unfolding reached viewed place_due place_of place_at given others besides seen_beside reason_said
entry_note_counts =
    pair 0x9D opens seen.directory two_listed (record_of 0x1C (0x61 ∷ 0x00 ∷ (listed 1 1 ++ listed 2 2))) [] (read_record 2 0x0C)
    (select_aid 0)
    refl refl refl refl refl refl (differ 1 _ _ refl) refl refl
