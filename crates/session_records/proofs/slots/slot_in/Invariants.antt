-- `slots::slot_in` meets its contract. The loop's invariant: the names that are left, placed from `at` on, decide as all do.
-- Assumes nothing.
use mathlib.Core.Path.{◌≡◌}
use mathlib.Core.List.{List}
use Prim.Native.Nat.{ℕ, ◌+◌, ◌≤◌}
use lib.ListN.{drop}
use Rattle.slices.specs.Tables.{beside}
use Rattle.session_records.specs.Slots.{end, rooms_of, told_from, nowhere, placed, total}
use Rattle.session_records.specs.declared.Slot.{Slot}
use Rattle.session_records.proofs.slots.slot_in.Given as goal

abbrev pub from : ℕ → ℕ → List ℕ → Slot
from tag at names = beside nowhere tag (placed at (rooms_of names))

abbrev pub invariant-loop-name : goal.invariant-loop-name
invariant-loop-name l = (l.at + total (rooms_of (drop l.name-index l.names)) ≤ end)
    × (from l.tag l.at (drop l.name-index l.names) ≡ from l.tag told_from l.names)
