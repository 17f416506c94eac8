-- `command::missing` meets its contract: what counts of START's bytes is lent on.
-- Assumes nothing.
use mathlib.Core.Path.{ap, ◌∙◌}
use mathlib.Core.List.{List}
use Prim.Native.Nat.{ℕ}
use Rattle.start_fields.specs.Reading.{reading_of}
use Rattle.dol_fill.specs.Filled.{unsupplied}
use Rattle.session_records.specs.Slots.{told_in}
use Rattle.session_moves.proofs.command.missing.Goals as goal

pub returns : goal.returns
returns c =
    let a = c.args in
    c.unsupplied.ensures ∙ ap (λ (x : List ℕ). unsupplied (reading_of x) (told_in a.known.now) a.list.now)
    c.part.ensures
