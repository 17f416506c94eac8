-- `moving::move_up` meets its contract. The loop's invariant: the bytes from i on stand in their new place, and the others as they did.
-- Assumes nothing.
use mathlib.Core.Path.{◌≡◌}
use mathlib.Core.List.{List}
use Prim.Native.Nat.{ℕ, ◌+◌, ◌≤◌}
use lib.ListN.{length, take, drop}
use Rattle.slices.specs.Writing.{put}
use Rattle.select_list.proofs.moving.move_up.Given as goal

abbrev pub moved : List ℕ → ℕ → ℕ → List ℕ
moved d at n = take n (drop at d)

abbrev pub invariant-loop-i : goal.invariant-loop-i
invariant-loop-i l =
    (l.i ≤ l.n) × (l.at + l.by + l.n ≤ length l.initial.buf) × (length l.buf ≡ length l.initial.buf)
    × (l.buf ≡ put (drop l.i (moved l.initial.buf l.at l.n)) (l.at + l.by + l.i) l.initial.buf)

abbrev pub decreases-loop-i : goal.decreases-loop-i
decreases-loop-i l = l.i
