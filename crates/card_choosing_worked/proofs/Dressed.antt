-- Two whole sessions of the rules with choosing, no answer of which has the bytes of the other's: '00' bytes, other length forms, objects
-- that are not named, another 9D; from GPO on as in `card_worked`. Both are sessions, and what is seen of each answer is the same.
-- Assumes nothing.
use mathlib.Core.Path.{refl}
use mathlib.Core.List.{List, ◌∷◌, ◌++◌}
use Prim.Native.Nat.{ℕ}
use Rattle.numbers.specs.Tables.{answer}
use Rattle.tape_read.specs.Entries.{Entry, entry}
use Rattle.sessions.proofs.Running.{run_session}
use Rattle.rulebook_choosing.specs.Session.{rules}
use Rattle.card_seen.specs.Given as today
use Rattle.card_seen.specs.Under.{none, asked, answered, said_both, decided_both}
use Rattle.card_seen.proofs.Freedoms.{viewed}
use Rattle.card_worked.specs.Dressed.{answers_differ, DressedUnder}
use Rattle.card_worked.proofs.Dressed.{plain_onward, dressed_onward}
use Rattle.card_choosing.specs.Places.{place_at, place_of, view}
use Rattle.card_choosing_worked.proofs.Cards.{reached, ok, no_record, environment_name, directory, name_ending, application_of}
use Rattle.card_choosing_worked.proofs.Cards.{listed, two_listed, read_record, select_name, begins}

-- the environment, the directory's one record and its end, the application; and from GPO on
abbrev session_of : List ℕ → List ℕ → List ℕ → List ℕ → List Entry → List Entry
session_of a b c d es =
    begins
    ++ (entry answer a
    ∷ read_record 1 0x0C ∷ entry answer b
    ∷ read_record 2 0x0C ∷ entry answer c
    ∷ select_name 1 ∷ entry answer d
    ∷ es)

abbrev plain_session : List Entry
plain_session = session_of directory two_listed no_record (application_of 1 1) plain_onward

abbrev dressed_session : List Entry
dressed_session =
    session_of
    (0x6F ∷ 0x81 ∷ 0x19 ∷ (environment_name ++ (0x00 ∷ 0xA5 ∷ 0x06 ∷ 0x50 ∷ 0x01 ∷ 0x41 ∷ 0x88 ∷ 0x01 ∷ 0x01 ∷ ok)))
    (0x00 ∷ 0x70 ∷ 0x25 ∷ 0x61 ∷ 0x05 ∷ 0x9D ∷ 0x00 ∷ 0x50 ∷ 0x01 ∷ 0x41 ∷ 0x00 ∷ 0x50 ∷ 0x01 ∷ 0x41
    ∷ (listed 1 1 ++ (listed 2 2 ++ ok)))
    (0x00 ∷ no_record)
    (0x6F ∷ 0x16
    ∷ (name_ending 1 ++ (0xA5 ∷ 0x0C ∷ 0x87 ∷ 0x81 ∷ 0x01 ∷ 0x01 ∷ 0x84 ∷ 0x00 ∷ 0x9F ∷ 0x38 ∷ 0x03 ∷ 0x9F ∷ 0x37 ∷ 0x04 ∷ ok)))
    dressed_onward

pub whole_pair : DressedUnder rules view
unfolding reached viewed today.place_of place_at place_of answers_differ
whole_pair = record {
  plain = plain_session;
  dressed = dressed_session;
  plain_session_lem = run_session rules _ refl;
  dressed_session_lem = run_session rules _ refl;
  same_given =
      said_both _ (asked _ _ (answered _ _ refl (asked _ _ (answered _ _ refl (asked _ _ (answered _ _ refl (asked _ _ (answered _ _ refl
      (asked _ _ (answered _ _ refl (asked _ _ (answered _ _ refl
      (said_both _ (asked _ _ (answered _ _ refl (said_both _ (asked _ _ (answered _ _ refl (decided_both _ _ none)))))))))))))))))));
  other_bytes = refl;
}
