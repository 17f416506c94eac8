-- `moving::move_down` meets its contract. The loop's invariant: the first i bytes stand in their new place, and the others as they did.
-- Assumes nothing.
use mathlib.Core.Path.{◌≡◌}
use mathlib.Core.List.{List}
use Prim.Native.Nat.{ℕ, ◌+◌, ◌≤◌}
use lib.ListN.{length, take, drop}
use lib.Seq.{paste}
use Rattle.select_list.proofs.moving.move_down.Given as goal

abbrev pub moved : List ℕ → ℕ → ℕ → List ℕ
moved d from n = take n (drop from d)

abbrev pub invariant-loop-i : goal.invariant-loop-i
invariant-loop-i l =
    (l.i ≤ l.n) × (l.at + l.by + l.n ≤ length l.initial.buf) × (length l.buf ≡ length l.initial.buf)
    × (l.buf ≡ paste l.initial.buf l.at (moved l.initial.buf (l.at + l.by) l.n) l.i)
