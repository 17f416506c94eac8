-- `ask::select` meets its contract: the command is written, and met.
-- Assumes nothing.
use mathlib.Core.Path.{ap, ◌∙◌}
use mathlib.Core.List.{List}
use Prim.Native.Nat.{ℕ}
use Rattle.slices.specs.Writing.{zeros}
use Rattle.start_fields.specs.Reading.{reading_of}
use Rattle.commands.specs.Commands.{longest, select_command}
use Rattle.commands.proofs.Shapes.{aid_most, select_most}
use Rattle.quick_meet.specs.Meeting.{exchange_met}
use Rattle.quick_ask.proofs.Written.{written_there}
use Rattle.quick_ask.proofs.ask.select.Goals as goal

pub returns : goal.returns
unfolding zeros
returns c =
    let args = c.args in
    let due = select_command (reading_of args.start.now).aid in
    let fits = select_most _ (aid_most args.start.now) in
    let there = written_there due _ _ longest fits c.select-n.ensures.size c.select-n.ensures.buffer in
    c.exchange.ensures ∙ ap (λ (x : List ℕ). exchange_met x args.k args.tape.now) (c.part.ensures ∙ there)
