-- What is known of each thing that somebody other than the card says: its kind is one that a tape can hold and none of the card's, the
-- kernel's and the silence's, and there is something to say. What is known of each word is known of it by the crate of the words.
-- Assumes nothing.
use mathlib.Core.Path.{◌≡◌, refl}
use mathlib.Core.Bool.{true}
use mathlib.Core.List.{List, [], ◌∷◌}
use Prim.Native.Nat.{ℕ, ◌≤◌}
use native.Mathlib.Omega.{arith}
use Rattle.slices.specs.Choice.{pick}
use Rattle.slices.specs.Tests.{every, between}
use Rattle.start_fields.specs.Reading.{reading_of}
use Rattle.start_fields.specs.Layout.{is_length}
use Rattle.start_valid.specs.Start.{valid_kind, valid_digits, valid_random}
use Rattle.start_valid.specs.Start.{valid_percentages, valid_threshold, valid_aid, valid_start}
use Rattle.decimal_dates.specs.Decimal.{decimal_from, decimal, decimal_byte, digits_only, zeros_only}
use Rattle.decimal_dates.specs.Dates.{month_and_day, valid_start_date}
use Rattle.numbers.specs.Tables.{is_kind}
use Rattle.tape_read.specs.Entries.{payload_most}
use Rattle.decide_verification.proofs.Laws.{wanted_few}
use Rattle.words.specs.declared.Word.{Word}
use Rattle.words.specs.declared.Word.TheVariants.{Host, Results}
use Rattle.words.proofs.Laws.{other_kind, kind_readable, can_say as can_say_word}
use Rattle.sessions.specs.Session.{is_payload}
use Rattle.sessions.specs.Kept.{OtherKind}
use Rattle.sessions.proofs.Payloads.{payload}
use Rattle.rulebook.specs.Situation.{Situation}
use Rattle.rulebook.specs.Phase.{Heard, terminal, says, due_kind}
use Rattle.rulebook.specs.Turn.{wanted_in, allowed}

pub other_kinds : (h : Heard) → OtherKind (due_kind h)
unfolding due_kind
other_kinds terminal = record { no_command = refl; no_answer = refl; no_silence = refl; no_decision = refl }
other_kinds (says word s) = other_kind word

pub kinds_readable : (h : Heard) → is_kind (due_kind h) ≡ true
unfolding due_kind is_kind
kinds_readable terminal = refl
kinds_readable (says word s) = kind_readable word

-- no more are ever wanted than a payload has room for
pub wanted_most : (word : Word) (s : Situation) → wanted_in word s ≤ payload_most
unfolding wanted_in
wanted_most Host s = omega arith
wanted_most Results s = omega (arith, wanted_few s.facts)

-- a valid START: type 2, amount 7500, floor limit 10000, threshold 5000, an AID of five bytes
abbrev pub sample : List ℕ
sample =
    2
    ∷ 0 ∷ 0 ∷ 0 ∷ 0 ∷ 0x75 ∷ 0
    ∷ 0 ∷ 0 ∷ 0 ∷ 0 ∷ 0 ∷ 0
    ∷ 0x08 ∷ 0x26 ∷ 0x08 ∷ 0x26
    ∷ 0x25 ∷ 0x06 ∷ 0x30
    ∷ 0
    ∷ 0x11 ∷ 0x22 ∷ 0x33 ∷ 0x44
    ∷ 0 ∷ 0 ∷ 0 ∷ 1 ∷ 0 ∷ 0
    ∷ 40 ∷ 10
    ∷ 0 ∷ 0 ∷ 0 ∷ 0 ∷ 0x50 ∷ 0
    ∷ 70
    ∷ 0 ∷ 2
    ∷ 0 ∷ 0 ∷ 0 ∷ 0 ∷ 0
    ∷ 0 ∷ 0 ∷ 0 ∷ 0 ∷ 0
    ∷ 0 ∷ 0 ∷ 0 ∷ 0 ∷ 0
    ∷ 5
    ∷ 0xA0 ∷ 0 ∷ 0 ∷ 0 ∷ 3 ∷ 0 ∷ 0 ∷ 0 ∷ 0 ∷ 0 ∷ 0 ∷ 0 ∷ 0 ∷ 0 ∷ 0 ∷ 0
    ∷ []

pub sample_valid : valid_start sample ≡ true
unfolding valid_start every pick between is_length valid_kind valid_digits digits_only decimal_byte valid_start_date month_and_day
    valid_random
    valid_percentages valid_threshold valid_aid zeros_only reading_of decimal decimal_from
sample_valid = refl

pub sample_payload : is_payload sample ≡ true
unfolding is_payload
sample_payload = refl

pub can_say : (h : Heard) → (p : List ℕ) × ((allowed h p ≡ true) × (is_payload p ≡ true))
unfolding allowed
can_say terminal = (sample, (sample_valid, sample_payload))
can_say (says word s) =
    let said = can_say_word word (wanted_in word s) (wanted_most word s) in
    (said.payload, (said.allowed, payload said.payload said.short said.bytes))
