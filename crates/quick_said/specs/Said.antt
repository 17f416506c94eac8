-- What is found of a tape from one of its blocks on (02, R-14), where the entries before it have led the rulebook's machine to a phase.
-- Nobody need believe it: it is put together of what finds the verdict (Progress of verdict_judged) and the fourth number (Summing of
-- rulebook_zeros), and from the first block on it is the finding of the whole tape (proofs/Whole).
-- Assumes nothing.
use Rattle.std.specs.Prelude.{List, map, ℕ, ◌+◌, ◌*◌, ◌-◌, ◌/◌, length, drop}
use Rattle.tape_read.specs.Entries.{Entry, block_size}
use Rattle.tape_read.specs.Blocks.{entry_in}
use Rattle.tape_read.specs.Tapes.{cut}
use Rattle.dol_fill.specs.Filled.{summed}
use Rattle.rulebook.specs.Phase.{Phase}
use Rattle.rulebook.specs.Machine.{at}
use Rattle.rulebook_zeros.specs.Summing.{new_in, zeros_from}
use Rattle.verdict.specs.Saying.{finds}
use Rattle.verdict.specs.declared.Finding.{Finding}
use Rattle.verdict_judged.specs.Progress.{Progress, reached, closed, broken, reads_all, concluded}

-- what the blocks hold from one of them on, good or not
unfoldable pub entries_from : ℕ → List ℕ → List Entry
entries_from k t = map entry_in (cut (length t / block_size - k) (drop (k * block_size) t))

-- the list entries filled with zeros in the command that is due, and in those that entries make due
unfoldable pub zeros_after : Progress → List Entry → ℕ
zeros_after (reached σ n) es = new_in σ + zeros_from es σ
zeros_after (closed n) es = 0
zeros_after (broken place) es = 0

-- what is found of entries, where those before them came to this and filled so many list entries with zeros
unfoldable pub said_from : Progress → ℕ → List Entry → Finding
said_from m zeros es = finds (concluded (reads_all m es)) (summed zeros (zeros_after m es))

-- what is found of a tape from block k on, where an entry has just led to a phase
unfoldable pub found_from : Phase → ℕ → ℕ → List ℕ → Finding
found_from p k zeros t = said_from (reached (at p) k) zeros (entries_from k t)
