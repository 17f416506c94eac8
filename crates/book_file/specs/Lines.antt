-- The entry that a line of the judge's gives a book. Assumes nothing.
use Rattle.std.specs.Prelude.{◌&&◌, List, [], ℕ, ◌-◌, ltb, eqb, get_or}
use Rattle.slices.specs.Choice.{pick}
use Rattle.text_lines.specs.Lines.{line_end}
use Rattle.book_block.specs.declared.Entry.{Entry}
use Rattle.book_line.specs.Lines.{entry_said}

-- what the line says; no verdict where a space stands at its end, which the judge never writes
unfoldable pub entry_in : ℕ → List ℕ → Entry
entry_in tape s =
    pick (ltb 0 (line_end s 0) && eqb (get_or s (line_end s 0 - 1) 0) 0x20) (entry_said tape []) (entry_said tape s)
