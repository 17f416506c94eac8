-- `records::read_all` meets its contract. The loop's invariant: what is found from here on is what is found of all.
-- Assumes nothing.
use mathlib.Core.Path.{◌≡◌}
use mathlib.Core.List.{List}
use Prim.Native.Nat.{ℕ}
use lib.ListN.{length}
use Rattle.slices.specs.Writing.{zeros}
use Rattle.session_records.specs.Slots.{end}
use Rattle.answer_afl.specs.Entries.{to_read}
use Rattle.answer_afl.specs.Cursor.{remaining}
use Rattle.rulebook.specs.Turn.{read_on}
use Rattle.verdict.specs.declared.Finding.{Finding}
use Rattle.quick_said.specs.Said.{found_from}
use Rattle.quick_ask.specs.Standing.{situation_in}
use Rattle.quick_follow.proofs.records.read_all.Given as goal

abbrev pub from : List ℕ → List ℕ → List ℕ → List (ℕ × ℕ) → ℕ → ℕ → List ℕ → Finding
from start profile told left k z t = found_from (read_on (situation_in start told profile (zeros 5) (zeros 2)) left) k z t

abbrev pub invariant-loop-names : goal.invariant-loop-names
invariant-loop-names l =
    (length l.told ≡ end) × (from l.start l.profile l.told (remaining l.afl l.c) l.k l.zeros l.tape
    ≡ from l.start l.profile (zeros end) (to_read l.afl) 5 l.zeros l.tape)

abbrev pub decreases-loop-names : goal.decreases-loop-names
decreases-loop-names l = length (remaining l.afl l.c)
