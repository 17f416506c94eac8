-- Long values that are kept by value. Every one has a reading: its length counts as far as its array goes, and what lies behind
-- it, or beside a flag that is not set, says nothing.
-- Assumes nothing.
use Rattle.std.specs.Prelude.{true, false, List, [], ℕ, length, take}
use Rattle.std.proofs.Math.Option.{Option, some, none, get_or}
use Rattle.slices.specs.Choice.{pick}
use Rattle.slices.specs.Writing.{laid, zeros}
use Rattle.answer_common.specs.Answer.{value_most}
use Rattle.session_records.specs.declared.Run.{Run}

-- a value of so many bytes
abbrev pub fixed : ℕ → List ℕ → List ℕ
fixed n v = laid v 0 (zeros n)

-- the most bytes that a run keeps
abbrev pub longest : ℕ
longest = value_most

unfoldable pub no_run : Run
no_run = record { bytes = zeros longest; len = 0; there = false }

unfoldable pub kept_run : List ℕ → Run
kept_run s = record { bytes = laid s 0 (zeros longest); len = length s; there = true }

unfoldable pub run_held : Run → Option (List ℕ)
run_held r = pick r.there (some (take r.len r.bytes)) none

-- its bytes; none where it is not there
unfoldable pub in_run : Run → List ℕ
in_run r = get_or (run_held r) []
