-- Which STARTs are valid: 01, "Terminal data (START, 74 bytes)", its last sentence, a definition for each condition; 02, R-7.
-- Assumes nothing.
use Rattle.std.specs.Prelude.{Bool, true, List, [], ◌∷◌, ℕ, leb, ltb, eqb, length, drop}
use Rattle.std.proofs.Math.Option.{Option, some, none}
use Rattle.slices.specs.Choice.{pick}
use Rattle.slices.specs.Tests.{every, between}
use Rattle.decimal_dates.specs.Decimal.{digits_only, zeros_only}
use Rattle.decimal_dates.specs.Dates.{valid_start_date}
use Rattle.start_fields.specs.Layout.{full_length, is_length, aid_room}
use Rattle.start_fields.specs.Reading.{Terminal, reading_of, floor_limit_of, threshold_of, digits_in, aid_length_in, aid_room_in}

-- type 0-2
unfoldable pub valid_kind : Terminal → Bool
valid_kind t = leb t.kind 2

-- decimal digits at 1-20, 25-30 and 33-38
unfoldable pub valid_digits : List ℕ → Bool
valid_digits s = every (digits_only (digits_in s) ∷ digits_only (reading_of s).floor_limit ∷ digits_only (reading_of s).threshold ∷ [])

-- random number 1-99
unfoldable pub valid_random : Terminal → Bool
valid_random t = between 1 99 t.random

-- target percentage <= maximum target percentage <= 99
unfoldable pub valid_percentages : Terminal → Bool
valid_percentages t = every (leb t.target t.maximum ∷ leb t.maximum 99 ∷ [])

-- threshold zero, or below the floor limit
unfoldable pub valid_threshold : Terminal → Bool
valid_threshold t = pick (eqb (threshold_of t) 0) true (ltb (threshold_of t) (floor_limit_of t))

-- an AID of n bytes in its room: 5-16 of them, zeros after it
unfoldable pub valid_aid : ℕ → List ℕ → Bool
valid_aid n room = every (between 5 aid_room n ∷ zeros_only (drop n room) ∷ [])

-- all that is asked of a START, in 01's order; what Terminal Capabilities say is free (02, R-7)
abbrev pub start_tests : List ℕ → List Bool
start_tests s =
    is_length (length s)
    ∷ valid_kind (reading_of s)
    ∷ valid_digits s
    ∷ valid_start_date (reading_of s).date
    ∷ valid_random (reading_of s)
    ∷ valid_percentages (reading_of s)
    ∷ valid_threshold (reading_of s)
    ∷ valid_aid (aid_length_in s) (aid_room_in s)
    ∷ []

unfoldable pub valid_start : List ℕ → Bool
valid_start s = every (start_tests s)

-- the terminal data that a START hands over: none where it is not valid
unfoldable pub terminal_of : List ℕ → Option Terminal
terminal_of s = pick (valid_start s) (some (reading_of s)) none

-- a START that a session can be begun with: refusal 3 asks for the longer one, and the shorter is only judged (02, R-7)
unfoldable pub begins_session : List ℕ → Bool
begins_session s = every (eqb (length s) full_length ∷ valid_start s ∷ [])
