-- `text_hex::unhex` meets its contract. The loop's invariant: the first n bytes that the text stands for are in their
-- place, and the text from character 2 n on stands for the others. Assumes nothing.
use mathlib.Core.Path.{◌≡◌}
use Prim.Native.Nat.{◌*◌, ◌≤◌}
use lib.ListN.{length, drop}
use lib.Seq.{paste}
use Rattle.text_hex.specs.Digits.{unhexed}
use Rattle.text_hex.proofs.unhex.Given as goal

abbrev pub invariant-loop-n : goal.invariant-loop-n
invariant-loop-n l =
    (l.n ≤ length (unhexed l.src))
    × (length l.dst ≡ length l.initial.dst)
    × (drop l.n (unhexed l.src) ≡ unhexed (drop (2 * l.n) l.src))
    × (l.dst ≡ paste l.initial.dst 0 (unhexed l.src) l.n)
