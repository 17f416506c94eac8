-- `records::read` meets its contract.
-- Assumes nothing.
use mathlib.Core.Path.{◌∙◌}
use native.Mathlib.Omega.{arith}
use Rattle.commands.specs.Commands.{record_command}
use Rattle.quick_meet.specs.Meeting.{exchange_met}
use Rattle.quick_follow.proofs.records.read.Goals as goal

pub overflow_cast-number : goal.overflow_cast-number
overflow_cast-number c = omega (arith, c.record-number.ensures.1)

pub overflow_cast-file : goal.overflow_cast-file
overflow_cast-file c = omega (arith, c.file-file.ensures.1)

pub returns : goal.returns
returns c =
    let args = c.args in
    c.«record».ensures
    ∙ (λ i. exchange_met (record_command (c.record-number.ensures.0 i) (c.file-file.ensures.0 i)) args.k args.tape.now)
