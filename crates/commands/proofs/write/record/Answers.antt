-- `write::record` meets its contract: the five bytes are the definition's own.
-- Assumes nothing.
use mathlib.Core.Path.{refl, ◌∙◌}
use Rattle.commands.specs.Commands.{record_command}
use Rattle.commands.proofs.Sizes.{unissued, issued}
use Rattle.slices.proofs.Writing.{laid_fits}
use native.Mathlib.Omega.{arith}
use Rattle.commands.proofs.write.record.Goals as goal

pub returns-then-buf-lt5 : goal.returns-then-buf-lt5
unfolding record_command
returns-then-buf-lt5 c =
    let a = c.args in
    let both = unissued (record_command a.number a.file) a.buf.now (omega arith) in
    record { size = both.0; buffer = both.1 }

pub returns : goal.returns
unfolding record_command
returns c =
    let a = c.args in
    let h = c.if-buf-lt5.false in
    let both = issued (record_command a.number a.file) a.buf.now c.lay.new.buf 5 refl (omega arith)
    (c.lay.ensures ∙ laid_fits (record_command a.number a.file) 0 a.buf.now (omega arith)) in
    record { size = both.0; buffer = both.1 }
