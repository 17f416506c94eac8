-- `decide_tvr::bits::join` meets its contract. The loop's invariant: the bytes before i are joined, and the others as they were.
-- Assumes nothing.
use Rattle.std.proofs.Common.{◌≡◌, ℕ, ◌<◌, ◌≤◌, length, get_or}
use lib.Bits.{bit_or}
use Rattle.decide_tvr.proofs.bits.join.Given as goal

abbrev pub invariant-loop-i : goal.invariant-loop-i
invariant-loop-i g l =
    ((k : ℕ) → k < l.i → get_or l.all k 0 ≡ bit_or (get_or l.fn.a k 0) (get_or l.fn.b k 0))
    × ((k : ℕ) → l.i ≤ k → get_or l.all k 0 ≡ get_or l.fn.a k 0)
    × (length l.all ≡ length l.fn.a)
