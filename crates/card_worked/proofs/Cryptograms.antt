-- GENERATE AC: 9F27, 9F36, 9F26 and 9F10 count. 9F27 by its two bits; the three others by being there with a right length, since no rule
-- asks for their values.
-- Assumes nothing.
use mathlib.Core.Path.{◌≡◌, refl}
use mathlib.Core.Bool.{true}
use mathlib.Core.List.{List, [], ◌∷◌, ◌++◌}
use mathlib.Core.Option.{some}
use Prim.Native.Nat.{ℕ}
use Rattle.numbers.specs.Tables.{answer}
use Rattle.tape_read.specs.Entries.{Entry, entry}
use Rattle.sessions.specs.Machine.{run}
use Rattle.rulebook.specs.Phase.{opens}
use Rattle.rulebook.specs.Session.{rules, Session}
use Rattle.rulebook.specs.Machine.{at}
use Rattle.rulebook.specs.Roles.{given}
use Rattle.rulebook.proofs.Opening.{reached}
use Rattle.rulebook.proofs.Made.{reads as reads_all}
use Rattle.card_seen.specs.Seen.{generation, seen}
use Rattle.card_seen.specs.Given.{place_of}
use Rattle.card_seen.proofs.Freedoms.{viewed}
use Rattle.card_worked.specs.Matters.{others, besides, seen_beside, place_due, reason_said, Matters}
use Rattle.card_worked.proofs.Cards.{giving, counter, cryptogram, issuer, decides, tvr, differ}
use Rattle.card_worked.proofs.Records.{generates}

owed : place_due place_of (run rules generates (at opens)) ≡ some generation
unfolding reached place_due place_of
owed = refl

-- a TC: approved
abbrev approving : List ℕ
approving = giving 0x18 0x40 (counter ++ (cryptogram ++ issuer))

abbrev approved : Entry
approved = decides 1 0 (tvr 0 0) 0x60

plain_session_lem : Session (generates ++ (entry answer approving ∷ approved ∷ []))
unfolding reached
plain_session_lem = reads_all _ refl

-- another answer, which differs in an object alone, and with it the decision
pair : (name reason : ℕ) (other : List ℕ) (otherwise : Entry)
    → seen_beside name (seen generation approving) ≡ seen_beside name (seen generation other)
    → given approved ≡ true → given otherwise ≡ true → reason_said approved ≡ 0 → reason_said otherwise ≡ reason
    → (approved ≡ otherwise → ⊥) → Session (generates ++ (entry answer other ∷ otherwise ∷ [])) → Matters name reason
pair name reason other otherwise alone first_given second_given first_reason second_reason apart another = record {
  before = generates;
  place = generation;
  due = owed;
  one = approving;
  other = other;
  alone = alone;
  middle = [];
  asked = approved;
  otherwise = otherwise;
  first_given = first_given;
  second_given = second_given;
  first_reason = first_reason;
  second_reason = second_reason;
  apart = apart;
  rest = [];
  more = [];
  session = plain_session_lem;
  another = another;
}

-- an AAC: declined
pub information_counts : Matters 0x9F27 0
unfolding reached viewed given others besides seen_beside reason_said
information_counts =
    pair 0x9F27 0 (giving 0x18 0x00 (counter ++ (cryptogram ++ issuer))) (decides 2 0 (tvr 0 0) 0x60) refl refl refl refl refl
    (differ 0 _ _ refl) (reads_all _ refl)

-- a byte too few, or 33 bytes: reason 5, and the TSI's bit is not set
abbrev ended : Entry
ended = decides 3 5 (tvr 0 0) 0x40

pub counter_counts : Matters 0x9F36 5
unfolding reached viewed given others besides seen_beside reason_said
counter_counts =
    pair 0x9F36 5 (giving 0x17 0x40 (0x9F ∷ 0x36 ∷ 0x01 ∷ 0x00 ∷ (cryptogram ++ issuer))) ended refl refl refl refl refl
    (differ 0 _ _ refl) (reads_all _ refl)

pub cryptogram_counts : Matters 0x9F26 5
unfolding reached viewed given others besides seen_beside reason_said
cryptogram_counts =
    pair 0x9F26 5 (giving 0x17 0x40 (counter ++ (0x9F ∷ 0x26 ∷ 0x07 ∷ 1 ∷ 2 ∷ 3 ∷ 4 ∷ 5 ∷ 6 ∷ 7 ∷ issuer))) ended refl refl refl refl refl
    (differ 0 _ _ refl) (reads_all _ refl)

abbrev long : List ℕ
long =
    0x9F ∷ 0x10 ∷ 0x21
    ∷ 0 ∷ 0 ∷ 0 ∷ 0 ∷ 0 ∷ 0 ∷ 0 ∷ 0 ∷ 0 ∷ 0 ∷ 0 ∷ 0 ∷ 0 ∷ 0 ∷ 0 ∷ 0 ∷ 0 ∷ 0 ∷ 0 ∷ 0 ∷ 0 ∷ 0 ∷ 0 ∷ 0 ∷ 0 ∷ 0 ∷ 0 ∷ 0 ∷ 0 ∷ 0 ∷ 0 ∷ 0 ∷ 0 ∷ []

pub issuer_counts : Matters 0x9F10 5
unfolding reached viewed given others besides seen_beside reason_said
issuer_counts =
    pair 0x9F10 5 (giving 0x38 0x40 (counter ++ (cryptogram ++ long))) ended refl refl refl refl refl (differ 0 _ _ refl) (reads_all _ refl)
