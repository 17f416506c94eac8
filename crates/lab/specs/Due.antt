-- What is due after the entries of a tape, as numbers and bytes (demand 3; 02, R-8). Of an unreadable tape nothing is: its entries are none.
-- Assumes nothing.
use Rattle.std.specs.Prelude.{List, [], ◌∷◌, Option, None, Some, ℕ}
use Rattle.tape_read.specs.Tapes.{Reading, entries, unreadable}
use Rattle.rulebook_due.specs.After.{due_after}
use Rattle.judge_due.specs.declared.DueNext.{DueNext}
use Rattle.judge_due.specs.Telling.{Handed, told}

-- the numbers, and the buffer afterwards
pub record Lent : Type 0 where
  pub next : List ℕ
  pub buffer : List ℕ

abbrev pub lent : List ℕ → List ℕ → Lent
lent next out = record { next = next; buffer = out }

-- the kind of no entry: the tape is unreadable
abbrev pub no_tape : ℕ
no_tape = 254

-- the kind of the entry that is due and the number beside it; kind 0 where nothing is due
abbrev pub in_numbers : Option DueNext → List ℕ
in_numbers None = 0 ∷ 0 ∷ []
in_numbers (Some d) = d.kind ∷ d.size ∷ []

-- what is due as `judge_due` tells it, in numbers
abbrev pub laid_due : Handed → Lent
laid_due h = lent (in_numbers h.due) h.buffer

unfoldable pub due_on : Reading → List ℕ → Lent
due_on (entries es) out = laid_due (told (due_after es) out)
due_on (unreadable place code) out = lent (no_tape ∷ code ∷ []) out
