-- What is shut out where cardholder verification is due, or is not (02, R-7): each breaks the rules at the entry named. The sessions that
-- stand beside them are in `Verified`.
-- Assumes nothing.
use mathlib.Core.Path.{refl}
use mathlib.Core.List.{List, [], ◌∷◌, ◌++◌}
use Prim.Native.Nat.{ℕ}
use Rattle.slices.specs.Tests.{is_some}
use Rattle.numbers.specs.Tables.{command, silence, decision, results}
use Rattle.tape_read.specs.Entries.{Entry, entry}
use Rattle.rulebook.specs.Session.{BreaksAt}
use Rattle.rulebook.proofs.Opening.{reached}
use Rattle.rulebook.proofs.Made.{short_of, given, aac, tc, exchange, breaks, is_phase, silent}
use Rattle.rulebook_worked.proofs.Verified.{start_for, pin, both, supported, record_of, list_of}
use Rattle.rulebook_worked.proofs.Verified.{tvr, asked_with, read_up_to, settles, denied_up_to}

-- a list of one rule, offline PIN
abbrev told : List ℕ
told = record_of tvr (list_of (0x01 ∷ 0x00 ∷ []))

-- and of two, the PIN or else signature
abbrev two_rules : List Entry
two_rules = read_up_to (start_for both) supported (record_of tvr (list_of (0x41 ∷ 0x00 ∷ 0x1E ∷ 0x00 ∷ [])))

abbrev due_after : List Entry
due_after = read_up_to (start_for pin) supported told

-- ---- results where none are due

-- START has 74 bytes
pub old_start : BreaksAt (read_up_to (short_of 2) supported told ++ (entry results (1 ∷ []) ∷ [])) 7
unfolding reached is_some
old_start = breaks (read_up_to (short_of 2) supported told) (entry results (1 ∷ [])) [] refl refl refl

-- the AIP has not its bit; no record told 8E
pub not_supported : BreaksAt (read_up_to (start_for pin) 0x00 told ++ (entry results (1 ∷ []) ∷ [])) 7
unfolding reached is_some
not_supported = breaks (read_up_to (start_for pin) 0x00 told) (entry results (1 ∷ [])) [] refl refl refl

pub not_told : BreaksAt (read_up_to (start_for pin) supported (record_of tvr []) ++ (entry results [] ∷ [])) 7
unfolding reached is_some
not_told = breaks (read_up_to (start_for pin) supported (record_of tvr [])) (entry results []) [] refl refl refl

-- they are due once
pub twice : BreaksAt (due_after ++ (entry results (1 ∷ []) ∷ entry results (1 ∷ []) ∷ [])) 8
unfolding reached is_some
twice = breaks (due_after ++ (entry results (1 ∷ []) ∷ [])) (entry results (1 ∷ [])) [] refl refl refl

-- ---- results that are none

-- a byte of 5; one too few, and one too many
pub no_result : BreaksAt (due_after ++ (entry results (5 ∷ []) ∷ [])) 7
unfolding reached is_some
no_result = breaks due_after (entry results (5 ∷ [])) [] refl refl refl

pub too_few : BreaksAt (two_rules ++ (entry results (1 ∷ []) ∷ [])) 7
unfolding reached is_some
too_few = breaks two_rules (entry results (1 ∷ [])) [] refl refl refl

pub too_many : BreaksAt (two_rules ++ (entry results (1 ∷ 0 ∷ 0 ∷ []) ∷ [])) 7
unfolding reached is_some
too_many = breaks two_rules (entry results (1 ∷ 0 ∷ 0 ∷ [])) [] refl refl refl

-- ---- results left out

-- the first request before them, whatever its byte 3
pub request_first : BreaksAt (due_after ++ exchange (asked_with tc 0x00) (given tc)) 7
unfolding reached is_some
request_first = breaks due_after (entry command (asked_with tc 0x00)) _ refl refl refl

-- a silence
pub silence_there : BreaksAt (due_after ++ (entry silence [] ∷ [])) 7
unfolding reached is_phase
silence_there = silent due_after [] refl

-- reason 9 before them
abbrev broken_off : List Entry
broken_off = read_up_to (start_for pin) supported (record_of (0x95 ∷ 0x01 ∷ 0x9F ∷ []) (list_of (0x01 ∷ 0x00 ∷ [])))

pub list_first : BreaksAt (broken_off ++ settles 3 9 0x00 0x00) 7
unfolding reached is_some
list_first = breaks broken_off (entry decision (3 ∷ 9 ∷ 0x80 ∷ 0 ∷ 0 ∷ 0 ∷ 0 ∷ 0 ∷ 0 ∷ [])) [] refl refl refl

-- ---- what they set left out

-- verification failed, and the denial code has the bit: no TC, though the TVR that is sent be right; and no other TVR, though AAC be
abbrev failed : List Entry
failed = denied_up_to ++ (entry results (0 ∷ []) ∷ [])

pub chosen_without : BreaksAt (failed ++ exchange (asked_with tc 0x80) (given tc)) 8
unfolding reached is_some
chosen_without = breaks failed (entry command (asked_with tc 0x80)) _ refl refl refl

pub sent_without : BreaksAt (failed ++ exchange (asked_with aac 0x00) (given aac)) 8
unfolding reached is_some
sent_without = breaks failed (entry command (asked_with aac 0x00)) _ refl refl refl

-- a decision without b7 of the TSI
abbrev approved : List Entry
approved = due_after ++ (entry results (1 ∷ []) ∷ exchange (asked_with tc 0x00) (given tc))

pub not_noted : BreaksAt (approved ++ settles 1 0 0x00 0x20) 10
unfolding reached is_some
not_noted = breaks approved (entry decision (1 ∷ 0 ∷ 0x80 ∷ 0 ∷ 0 ∷ 0 ∷ 0 ∷ 0x20 ∷ 0 ∷ [])) [] refl refl refl
