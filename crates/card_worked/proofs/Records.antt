-- READ RECORD: each of the eleven objects that records name counts by its value. Eight of them stand in the first GENERATE AC, since 8C
-- asks for them or is filled there (expiry, effective date and version set a bit of the TVR besides); 8E and 9F42 set bits of the TVR,
-- which stand there too; 8D is filled in the second.
-- Assumes nothing.
use mathlib.Core.Path.{◌≡◌, refl}
use mathlib.Core.Bool.{true}
use mathlib.Core.List.{List, [], ◌∷◌, ◌++◌}
use mathlib.Core.Option.{some}
use Prim.Native.Nat.{ℕ}
use Rattle.numbers.specs.Tables.{command, answer, host}
use Rattle.tape_read.specs.Entries.{Entry, entry}
use Rattle.slices.specs.Tables.{beside}
use Rattle.answer_common.specs.Content.{record_names}
use Rattle.answer_common.proofs.Present.{Each}
use Rattle.sessions.specs.Machine.{run}
use Rattle.rulebook.specs.Phase.{opens}
use Rattle.rulebook.specs.Session.{rules, Session}
use Rattle.rulebook.specs.Machine.{at}
use Rattle.rulebook.specs.Roles.{given}
use Rattle.rulebook.proofs.Opening.{reached}
use Rattle.rulebook.proofs.Made.{reads as reads_all}
use Rattle.card_seen.specs.Seen.{reading, seen}
use Rattle.card_seen.specs.Given.{place_of}
use Rattle.card_seen.proofs.Freedoms.{viewed}
use Rattle.card_worked.specs.Matters.{others, besides, seen_beside, place_due, reason_said, Matters}
use Rattle.card_worked.proofs.Cards.{differ, five, profile, giving, counter, cryptogram, issuer, reads, verified, tvr, ending}

-- ---- a record with all of them, and what is asked with it

-- all that records name; a row that is put in front of the others is told instead of theirs
abbrev pub Told : Type 0
Told = List (ℕ × List ℕ)

-- 8C asks for 82, 5A, 5F24, 5F25, 9F08, 9F0D, 9F0E, 9F0F and, last, some bytes of the TVR
abbrev pub first_list : ℕ → List ℕ
first_list size =
    0x82 ∷ 0x02 ∷ 0x5A ∷ 0x02 ∷ 0x5F ∷ 0x24 ∷ 0x03 ∷ 0x5F ∷ 0x25 ∷ 0x03 ∷ 0x9F ∷ 0x08 ∷ 0x02
    ∷ 0x9F ∷ 0x0D ∷ 0x05 ∷ 0x9F ∷ 0x0E ∷ 0x05 ∷ 0x9F ∷ 0x0F ∷ 0x05 ∷ 0x95 ∷ size ∷ []

-- 8D asks for some bytes of the unpredictable number
abbrev pub second_list : ℕ → List ℕ
second_list size = 0x9F ∷ 0x37 ∷ size ∷ []

-- 8E with no amounts and one rule, which applies to an amount over the first one that is in the application's currency
abbrev pub verification_list : ℕ → List ℕ
verification_list method = 0 ∷ 0 ∷ 0 ∷ 0 ∷ 0 ∷ 0 ∷ 0 ∷ 0 ∷ method ∷ 0x07 ∷ []

abbrev pub plain : Told
plain =
    (0x5A, 0x12 ∷ 0x34 ∷ [])
    ∷ (0x5F24, 0x30 ∷ 0x12 ∷ 0x31 ∷ [])
    ∷ (0x5F25, 0x20 ∷ 0x01 ∷ 0x01 ∷ [])
    ∷ (0x9F08, 0x00 ∷ 0x02 ∷ [])
    ∷ (0x8C, first_list 0x05)
    ∷ (0x8D, second_list 0x04)
    ∷ (0x9F0D, five 0)
    ∷ (0x9F0E, five 0)
    ∷ (0x9F0F, five 0)
    ∷ (0x8E, verification_list 0x1F)
    ∷ (0x9F42, 0x08 ∷ 0x26 ∷ [])
    ∷ []

abbrev value_in : ℕ → Told → List ℕ
value_in tag t = beside [] tag t

abbrev pub record_size : ℕ
record_size = 0x5D

abbrev pub record_with : Told → List ℕ
record_with t =
    0x70 ∷ record_size
    ∷ 0x5A ∷ 0x02 ∷ (value_in 0x5A t
    ++ (0x5F ∷ 0x24 ∷ 0x03 ∷ (value_in 0x5F24 t
    ++ (0x5F ∷ 0x25 ∷ 0x03 ∷ (value_in 0x5F25 t
    ++ (0x9F ∷ 0x08 ∷ 0x02 ∷ (value_in 0x9F08 t
    ++ (0x8C ∷ 0x18 ∷ (value_in 0x8C t
    ++ (0x8D ∷ 0x03 ∷ (value_in 0x8D t
    ++ (0x9F ∷ 0x0D ∷ 0x05 ∷ (value_in 0x9F0D t
    ++ (0x9F ∷ 0x0E ∷ 0x05 ∷ (value_in 0x9F0E t
    ++ (0x9F ∷ 0x0F ∷ 0x05 ∷ (value_in 0x9F0F t
    ++ (0x8E ∷ 0x0A ∷ (value_in 0x8E t
    ++ (0x9F ∷ 0x42 ∷ 0x02 ∷ (value_in 0x9F42 t ++ (0x90 ∷ 0x00 ∷ []))))))))))))))))))))))

-- the first GENERATE AC: what 8C asks for, in its order
abbrev pub asks : List ℕ → Told → List ℕ → Entry
asks aip t tvr =
    entry command (0x80 ∷ 0xAE ∷ 0x40 ∷ 0x00 ∷ 0x20
    ∷ (aip ++ (value_in 0x5A t ++ (value_in 0x5F24 t ++ (value_in 0x5F25 t ++ (value_in 0x9F08 t
    ++ (value_in 0x9F0D t ++ (value_in 0x9F0E t ++ (value_in 0x9F0F t ++ (tvr ++ (0x00 ∷ [])))))))))))

-- up to the answer to GENERATE AC
abbrev pub generates : List Entry
generates = reads ++ (entry answer (record_with plain) ∷ verified ∷ asks profile plain (tvr 0 0) ∷ [])

-- ---- the pairs

abbrev asked : Entry
asked = asks profile plain (tvr 0 0)

-- from the record on: the results, the first GENERATE AC, and an answer that ends it
abbrev later : List ℕ → Entry → List ℕ → List Entry
later told asking tvr' = reads ++ (entry answer told ∷ verified ∷ asking ∷ ending tvr' 0x40)

plain_session_lem : Session (later (record_with plain) asked (tvr 0 0))
unfolding reached
plain_session_lem = reads_all _ refl

owed : place_due place_of (run rules reads (at opens)) ≡ some (reading record_names)
unfolding reached place_due place_of
owed = refl

-- a record with another value under a name, and with it another first GENERATE AC
module _ (name : ℕ) (value : List ℕ) (otherwise : Entry) (tvr' : List ℕ) where
  abbrev told : List ℕ
  told = record_with ((name, value) ∷ plain)

  pair : seen_beside name (seen (reading record_names) (record_with plain)) ≡ seen_beside name (seen (reading record_names) told)
      → given asked ≡ true → given otherwise ≡ true → reason_said asked ≡ 0 → reason_said otherwise ≡ 0 → (asked ≡ otherwise → ⊥)
      → Session (later told otherwise tvr') → Matters name 0
  pair alone first_given second_given first_reason second_reason apart another = record {
    before = reads;
    place = reading record_names;
    due = owed;
    one = record_with plain;
    other = told;
    alone = alone;
    middle = verified ∷ [];
    asked = asked;
    otherwise = otherwise;
    first_given = first_given;
    second_given = second_given;
    first_reason = first_reason;
    second_reason = second_reason;
    apart = apart;
    rest = ending (tvr 0 0) 0x40;
    more = ending tvr' 0x40;
    session = plain_session_lem;
    another = another;
  }

-- the request with another value in it, or with another TVR
abbrev with' : ℕ → List ℕ → List ℕ → Entry
with' name value tvr' = asks profile ((name, value) ∷ plain) tvr'

number_counts : Matters 0x5A 0
unfolding reached viewed given others besides seen_beside reason_said
number_counts =
    let v : List ℕ = 0x12 ∷ 0x35 ∷ [] in
    pair 0x5A v (with' 0x5A v (tvr 0 0)) (tvr 0 0) refl refl refl refl refl (differ 8 _ _ refl) (reads_all _ refl)

-- expired the day before
expiry_counts : Matters 0x5F24 0
unfolding reached viewed given others besides seen_beside reason_said
expiry_counts =
    let v : List ℕ = 0x25 ∷ 0x06 ∷ 0x29 ∷ [] in
    pair 0x5F24 v (with' 0x5F24 v (tvr 0x40 0)) (tvr 0x40 0) refl refl refl refl refl (differ 9 _ _ refl) (reads_all _ refl)

-- effective the day after
effective_counts : Matters 0x5F25 0
unfolding reached viewed given others besides seen_beside reason_said
effective_counts =
    let v : List ℕ = 0x25 ∷ 0x07 ∷ 0x01 ∷ [] in
    pair 0x5F25 v (with' 0x5F25 v (tvr 0x20 0)) (tvr 0x20 0) refl refl refl refl refl (differ 12 _ _ refl) (reads_all _ refl)

version_counts : Matters 0x9F08 0
unfolding reached viewed given others besides seen_beside reason_said
version_counts =
    let v : List ℕ = 0x00 ∷ 0x03 ∷ [] in
    pair 0x9F08 v (with' 0x9F08 v (tvr 0x80 0)) (tvr 0x80 0) refl refl refl refl refl (differ 16 _ _ refl) (reads_all _ refl)

default_counts : Matters 0x9F0D 0
unfolding reached viewed given others besides seen_beside reason_said
default_counts =
    pair 0x9F0D (five 1) (with' 0x9F0D (five 1) (tvr 0 0)) (tvr 0 0) refl refl refl refl refl (differ 21 _ _ refl) (reads_all _ refl)

denial_counts : Matters 0x9F0E 0
unfolding reached viewed given others besides seen_beside reason_said
denial_counts =
    pair 0x9F0E (five 1) (with' 0x9F0E (five 1) (tvr 0 0)) (tvr 0 0) refl refl refl refl refl (differ 26 _ _ refl) (reads_all _ refl)

online_counts : Matters 0x9F0F 0
unfolding reached viewed given others besides seen_beside reason_said
online_counts =
    pair 0x9F0F (five 1) (with' 0x9F0F (five 1) (tvr 0 0)) (tvr 0 0) refl refl refl refl refl (differ 31 _ _ refl) (reads_all _ refl)

-- a rule that always fails
verification_counts : Matters 0x8E 0
unfolding reached viewed given others besides seen_beside reason_said
verification_counts =
    pair 0x8E (verification_list 0x00) (asks profile plain (tvr 0 0x80)) (tvr 0 0x80) refl refl refl refl refl (differ 34 _ _ refl)
    (reads_all _ refl)

-- not the currency of the transaction, so that the rule does not apply
currency_counts : Matters 0x9F42 0
unfolding reached viewed given others besides seen_beside reason_said
currency_counts =
    pair 0x9F42 (0x08 ∷ 0x40 ∷ []) (asks profile plain (tvr 0 0x80)) (tvr 0 0x80) refl refl refl refl refl (differ 34 _ _ refl)
    (reads_all _ refl)

-- the TVR in four bytes and not in five
abbrev asks_less : Entry
asks_less =
    entry command (0x80 ∷ 0xAE ∷ 0x40 ∷ 0x00 ∷ 0x1F ∷ 0x10 ∷ 0x00 ∷ 0x12 ∷ 0x34 ∷ 0x30 ∷ 0x12 ∷ 0x31 ∷ 0x20 ∷ 0x01 ∷ 0x01 ∷ 0x00 ∷ 0x02
    ∷ (five 0 ++ (five 0 ++ (five 0 ++ (0x80 ∷ 0 ∷ 0 ∷ 0 ∷ 0x00 ∷ [])))))

first_list_counts : Matters 0x8C 0
unfolding reached viewed given others besides seen_beside reason_said
first_list_counts =
    pair 0x8C (first_list 0x04) asks_less (tvr 0 0) refl refl refl refl refl (differ 4 _ _ refl) (reads_all _ refl)

-- the unpredictable number in two bytes and not in four, at the second GENERATE AC
second_list_counts : Matters 0x8D 0
unfolding reached viewed given others besides seen_beside reason_said
second_list_counts = record {
  before = reads;
  place = reading record_names;
  due = owed;
  one = record_with plain;
  other = record_with ((0x8D, second_list 0x02) ∷ plain);
  alone = refl;
  middle = verified ∷ asked ∷ entry answer (giving 0x18 0x80 (counter ++ (cryptogram ++ issuer))) ∷ entry host (1 ∷ 0x30 ∷ 0x30 ∷ []) ∷ [];
  asked = entry command (0x80 ∷ 0xAE ∷ 0x40 ∷ 0x00 ∷ 0x04 ∷ 0x11 ∷ 0x22 ∷ 0x33 ∷ 0x44 ∷ 0x00 ∷ []);
  otherwise = entry command (0x80 ∷ 0xAE ∷ 0x40 ∷ 0x00 ∷ 0x02 ∷ 0x11 ∷ 0x22 ∷ 0x00 ∷ []);
  first_given = refl;
  second_given = refl;
  first_reason = refl;
  second_reason = refl;
  apart = differ 4 _ _ refl;
  rest = ending (tvr 0 0) 0x60;
  more = ending (tvr 0 0) 0x60;
  session = reads_all _ refl;
  another = reads_all _ refl;
}

-- one name after the other
also : {A B : Type 0} → A → B → A × B
also a b = (a, b)

-- a pair for each, in their order
pub each_counts : Each (λ (name : ℕ). Matters name 0) record_names
each_counts =
    also number_counts (also expiry_counts (also effective_counts (also version_counts (also first_list_counts (also
    second_list_counts (also default_counts (also denial_counts (also online_counts (also verification_counts (also
    currency_counts tt))))))))))
