-- What an answer tells of the entries of a readable tape, and they of it, verdict by verdict (Exactly of verdict_under), by the rules
-- of 01. Demand 3.
-- Assumes nothing.
use Rattle.std.specs.Prelude.{List}
use Rattle.tape_read.specs.Entries.{Entry}
use Rattle.rulebook.specs.Session.{rules}
use Rattle.verdict.specs.declared.Ruling.{Ruling}
use Rattle.verdict_under.specs.Exactly as Under

abbrev pub Exactly : List Entry → Ruling → Type 0
Exactly = Under.Exactly rules
