-- Demand 3 in one theorem, from the verdict to the entries and back, by the rules with choosing: a readable tape has one verdict, each
-- verdict is defined by what the entries are, and these leave nothing out. It holds under any rules (Exactly of verdict_under).
-- Assumes nothing.
use mathlib.Core.Path.{◌≡◌}
use mathlib.Core.List.{List}
use Prim.Native.Nat.{ℕ}
use Rattle.tape_read.specs.Entries.{Entry}
use Rattle.tape_read.specs.Tapes.{entries, unreadable, read_tape}
use Rattle.rulebook_choosing.proofs.Kept.{kept}
use Rattle.verdict.specs.Saying.{says}
use Rattle.verdict.specs.declared.Verdict.TheVariants.{Unreadable}
use Rattle.verdict.specs.declared.Ruling.{Ruling}
use Rattle.verdict_under.proofs.Exactly as Under
use Rattle.verdict_choosing.specs.Exactly.{Exactly}
use Rattle.verdict_choosing.specs.Judged.{Judged}

-- demand 3, for every readable tape
pub readable_exactly : (t : List ℕ) (es : List Entry) (a : Ruling) → read_tape t ≡ entries es → Judged t a → Exactly es a
readable_exactly = Under.readable_exactly kept

-- and for every other: its place and code
pub unreadable_exactly : (t : List ℕ) (place code : ℕ) (a : Ruling) → read_tape t ≡ unreadable place code → Judged t a
    → a ≡ says Unreadable place code
unreadable_exactly = Under.unreadable_exactly kept
