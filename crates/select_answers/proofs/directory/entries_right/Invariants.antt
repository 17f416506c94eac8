-- `directory::entries_right` meets its contract. The loop's invariant: the entries from p on decide as all of them do.
-- Assumes nothing.
use mathlib.Core.Path.{◌≡◌}
use mathlib.Core.Bool.{Bool}
use mathlib.Core.List.{List, map}
use Prim.Native.Nat.{ℕ, ◌-◌}
use lib.ListN.{length}
use Rattle.slices.specs.Tests.{every}
use Rattle.tlv_list.specs.Place.{places_from, object_at}
use Rattle.answer_common.specs.Named.{standing}
use Rattle.select_answers.specs.Directory.{entry_right, entries}
use Rattle.select_answers.proofs.directory.entries_right.Given as goal

abbrev pub right : List ℕ → Bool
right e = entry_right (standing e)

abbrev pub from : List ℕ → ℕ → Bool
from s p = every (map right (entries (map (object_at s) (places_from s p))))

abbrev pub invariant-loop-tag : goal.invariant-loop-tag
invariant-loop-tag l = from l.s l.p ≡ from l.s 0

abbrev pub decreases-loop-tag : goal.decreases-loop-tag
decreases-loop-tag l = length l.s - l.p
