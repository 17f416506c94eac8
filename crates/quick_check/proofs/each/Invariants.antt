-- `quick_check::each` meets its contract. The loop's invariant: with the tapes that are left, each buffer becomes what it becomes with all
-- of them. Assumes nothing.
use mathlib.Core.Path.{◌≡◌}
use mathlib.Core.List.{List}
use Prim.Native.Nat.{ℕ, ◌≤◌}
use lib.ListN.{length}
use Rattle.quick_check.specs.Damages.{damage_in}
use Rattle.quick_check.proofs.Many.{told}
use Rattle.quick_check.proofs.each.Given as goal

abbrev pub place : List ℕ → ℕ
place t = (damage_in t).place

abbrev pub code : List ℕ → ℕ
code t = (damage_in t).code

abbrev pub invariant-loop-i : goal.invariant-loop-i
invariant-loop-i l =
    (l.from ≤ length l.bytes)
    × (length l.places ≡ length l.initial.places)
    × (length l.codes ≡ length l.initial.codes)
    × (told place l.bytes l.ends l.from l.i l.places ≡ told place l.bytes l.ends 0 0 l.initial.places)
    × (told code l.bytes l.ends l.from l.i l.codes ≡ told code l.bytes l.ends 0 0 l.initial.codes)
