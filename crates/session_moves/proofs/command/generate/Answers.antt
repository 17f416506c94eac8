-- `command::generate` meets its contract: the request is written as its byte.
-- Assumes nothing.
use mathlib.Core.Path.{ap, ap₂, ◌∙◌}
use mathlib.Core.List.{List}
use Prim.Native.Nat.{ℕ}
use lib.ListN.{length}
use Rattle.slices.specs.Writing.{laid}
use Rattle.start_fields.specs.Reading.{reading_of}
use Rattle.dol_fill.specs.Filled.{filling}
use Rattle.commands.specs.Commands.{cryptogram_command, size_in}
use Rattle.session_records.specs.Slots.{told_in}
use Rattle.session_moves.proofs.command.generate.Goals as goal

pub returns : goal.returns
returns c =
    let a = c.args in
    let buf = a.buf.now in
    let same = ap₂ (λ (p : ℕ) (x : List ℕ). cryptogram_command p (filling (reading_of x) (told_in a.known.now) a.list.now))
    c.p1.ensures c.part.ensures in record {
      size = c.cryptogram.ensures.size
          ∙ ap (size_in (length buf)) same;
      buffer = c.cryptogram.ensures.buffer
          ∙ ap (λ (x : List ℕ). laid x 0 buf) same;
    }
