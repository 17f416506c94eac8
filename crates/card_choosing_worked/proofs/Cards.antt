-- What the pairs of sessions are made of: a terminal that lists one AID and takes every name that begins with it, whose shopper cannot
-- choose; and a card with a directory of two applications, behind an entry of no application.
-- Assumes nothing.
use mathlib.Core.Path.{◌≡◌, refl}
use mathlib.Core.Bool.{true}
use mathlib.Core.List.{List, [], ◌∷◌, ◌++◌}
use mathlib.Core.Option.{Option, some}
use Prim.Native.Nat.{ℕ}
use lib.ListN.{take, drop}
use Rattle.slices.specs.Writing.{zeros}
use Rattle.numbers.specs.Tables.{start, command, answer}
use Rattle.tape_read.specs.Entries.{Entry, entry}
use Rattle.select_answers.specs.Files.{environment}
use Rattle.select_search.specs.Search.{begun, with_list}
use Rattle.select_search.specs.Directory.{joined_all}
use Rattle.select_search.specs.Listing.{from_first, next_aid, joined_by, compared, after_listed}
use Rattle.sessions.specs.Machine.{Machine, at, done, run}
use Rattle.sessions.proofs.Running.{run_session}
use Rattle.rulebook.specs.Situation.{Situation}
use Rattle.rulebook.specs.Roles.{given}
use Rattle.rulebook.specs.Later.{AskedLater, HeardLater, as_was, command_later, turn_later, kind_later}
use Rattle.rulebook.proofs.Made.{start_of}
use Rattle.rulebook_choosing.specs.Choosing.{Choosing}
use Rattle.rulebook_choosing.specs.Session.{rules}
use Rattle.rulebook_choosing.proofs.Falling.{computed}
use Rattle.card_seen.specs.Seen.{Place, seen}
use Rattle.card_choosing.specs.Places.{place_of}
use Rattle.card_worked.specs.Matters.{seen_beside, place_due, reason_said}
use Rattle.card_worked.proofs.Cards.{five, ending}
use Rattle.card_choosing_worked.specs.Theorem.{MattersAt}

-- ---- how a session is read to its end by computation

abbrev pub Reached : Type 0
Reached = Option (Machine (AskedLater Choosing) (HeardLater Choosing) Situation)

unfoldable pub reached : List Entry → Reached
unfolding computed begun with_list joined_all from_first next_aid joined_by compared after_listed as_was command_later turn_later kind_later
reached es = run rules es (at rules.opens)

-- ---- the terminal and the card

abbrev base : List ℕ
base = start_of 2

-- the AID A000000003, partial; no choice
abbrev pub listing : List ℕ
listing = take 57 base ++ (1 ∷ (take 17 (drop 57 base) ++ (1 ∷ (zeros 126 ++ (take 3 (drop 74 base) ++ (0 ∷ 1 ∷ []))))))

abbrev pub ok : List ℕ
ok = 0x90 ∷ 0x00 ∷ []

abbrev pub missing : List ℕ
missing = 0x6A ∷ 0x82 ∷ []

abbrev pub no_record : List ℕ
no_record = 0x6A ∷ 0x83 ∷ []

-- an FCI: 84 and A5, each as it stands
abbrev pub fci : ℕ → List ℕ → List ℕ → List ℕ
fci size name inner = 0x6F ∷ size ∷ (name ++ (inner ++ ok))

-- the environment's, with the directory's file
abbrev pub environment_name : List ℕ
environment_name = 0x84 ∷ 0x0E ∷ environment

abbrev pub filed : ℕ → List ℕ
filed file = 0xA5 ∷ 0x03 ∷ 0x88 ∷ 0x01 ∷ file ∷ []

abbrev pub directory : List ℕ
directory = fci 0x15 environment_name (filed 1)

-- an application's, whose name is the AID and a byte more; in A5 its priority, and a list that asks for some bytes of the unpredictable
-- number
abbrev pub name_ending : ℕ → List ℕ
name_ending last = 0x84 ∷ 0x06 ∷ 0xA0 ∷ 0 ∷ 0 ∷ 0 ∷ 3 ∷ last ∷ []

abbrev pub telling : ℕ → ℕ → List ℕ
telling priority size = 0xA5 ∷ 0x09 ∷ 0x87 ∷ 0x01 ∷ priority ∷ 0x9F ∷ 0x38 ∷ 0x03 ∷ 0x9F ∷ 0x37 ∷ size ∷ []

abbrev pub application_of : ℕ → ℕ → List ℕ
application_of last priority = fci 0x13 (name_ending last) (telling priority 4)

-- a directory record, by its entries: one of no application, and applications by the last byte of their name and their priority
abbrev pub record_of : ℕ → List ℕ → List ℕ
record_of size entries = 0x70 ∷ size ∷ (entries ++ ok)

abbrev pub passed_over : List ℕ
passed_over = 0x61 ∷ 0x03 ∷ 0x9D ∷ 0x01 ∷ 0x41 ∷ []

abbrev pub listed : ℕ → ℕ → List ℕ
listed last priority =
    0x61 ∷ 0x0B ∷ 0x4F ∷ 0x06 ∷ 0xA0 ∷ 0 ∷ 0 ∷ 0 ∷ 3 ∷ last ∷ 0x87 ∷ 0x01 ∷ priority ∷ []

abbrev pub two_listed : List ℕ
two_listed = record_of 0x1F (passed_over ++ (listed 1 1 ++ listed 2 2))

-- ---- what is asked of it

abbrev pub read_record : ℕ → ℕ → Entry
read_record number place = entry command (0x00 ∷ 0xB2 ∷ number ∷ place ∷ 0x00 ∷ [])

-- by the AID, the first occurrence (0) or the next (2)
abbrev pub select_aid : ℕ → Entry
select_aid next = entry command (0x00 ∷ 0xA4 ∷ 0x04 ∷ next ∷ 0x05 ∷ 0xA0 ∷ 0 ∷ 0 ∷ 0 ∷ 3 ∷ 0x00 ∷ [])

abbrev pub select_name : ℕ → Entry
select_name last = entry command (0x00 ∷ 0xA4 ∷ 0x04 ∷ 0x00 ∷ 0x06 ∷ 0xA0 ∷ 0 ∷ 0 ∷ 0 ∷ 3 ∷ last ∷ 0x00 ∷ [])

-- up to the answer of the environment, of the directory's first record, and of the application that is selected for good
abbrev pub begins : List Entry
begins = entry start listing ∷ entry command (0x00 ∷ 0xA4 ∷ 0x04 ∷ 0x00 ∷ 0x0E ∷ (environment ++ (0x00 ∷ []))) ∷ []

abbrev pub opens : List Entry
opens = begins ++ (entry answer directory ∷ read_record 1 0x0C ∷ [])

-- behind that record there is none
abbrev pub closes : List Entry
closes = read_record 2 0x0C ∷ entry answer no_record ∷ []

abbrev pub sends : List Entry
sends = opens ++ (entry answer two_listed ∷ (closes ++ (select_name 1 ∷ [])))

-- ---- a pair of sessions, each of which ends with its next answer

abbrev pub ends : List Entry
ends = ending (five 0) 0

unfoldable pub pair : (name : ℕ) (before : List Entry) (place : Place) (one other : List ℕ) (middle : List Entry) (asked otherwise : Entry)
    → place_due place_of (reached before) ≡ some place → seen_beside name (seen place one) ≡ seen_beside name (seen place other)
    → given asked ≡ true → given otherwise ≡ true → reason_said asked ≡ 0 → reason_said otherwise ≡ 0 → (asked ≡ otherwise → ⊥)
    → reached (before ++ (entry answer one ∷ (middle ++ (asked ∷ ends)))) ≡ some done
    → reached (before ++ (entry answer other ∷ (middle ++ (otherwise ∷ ends)))) ≡ some done → MattersAt place name
unfolding reached
pair name before place one other middle asked otherwise due alone first_given second_given first_reason second_reason apart session
    another = (
      record {
        before = before;
        place = place;
        due = due;
        one = one;
        other = other;
        alone = alone;
        middle = middle;
        asked = asked;
        otherwise = otherwise;
        first_given = first_given;
        second_given = second_given;
        first_reason = first_reason;
        second_reason = second_reason;
        apart = apart;
        rest = ends;
        more = ends;
        session = run_session rules _ session;
        another = run_session rules _ another;
      },
      refl,
    )
