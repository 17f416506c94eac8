-- `text_hex::hex` meets its contract. The loop's invariant: the text of the first i bytes stands at the start of the
-- buffer, and the rest of it is as it was. Assumes nothing.
use mathlib.Core.Path.{◌≡◌}
use Prim.Native.Nat.{◌*◌, ◌≤◌}
use lib.ListN.{length, take}
use Rattle.slices.specs.Writing.{put}
use Rattle.text_hex.specs.Digits.{hexed}
use Rattle.text_hex.proofs.hex.Given as goal

abbrev pub invariant-loop-i : goal.invariant-loop-i
invariant-loop-i l =
    (2 * l.i ≤ length l.initial.dst) × (length l.dst ≡ length l.initial.dst)
    × (l.dst ≡ put (hexed (take l.i l.src)) 0 l.initial.dst)
