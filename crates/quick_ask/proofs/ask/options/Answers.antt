-- `ask::options` meets its contract: the command is written, and met.
-- Assumes nothing.
use mathlib.Core.Path.{ap, ◌∙◌}
use mathlib.Core.List.{List}
use Prim.Native.Nat.{ℕ}
use Rattle.slices.specs.Writing.{zeros}
use Rattle.start_fields.specs.Reading.{reading_of}
use Rattle.session_records.specs.Slots.{told_in}
use Rattle.dol_fill.specs.Filled.{filling}
use Rattle.commands.specs.Commands.{longest, options_command}
use Rattle.commands.proofs.Shapes.{options_most}
use Rattle.quick_meet.specs.Meeting.{exchange_met}
use Rattle.quick_ask.proofs.Written.{written_there, filling_most}
use Rattle.quick_ask.proofs.ask.options.Goals as goal

pub returns : goal.returns
unfolding zeros
returns c =
    let args = c.args in
    let due = options_command (filling (reading_of args.from.start.now) (told_in args.from.known.now) args.list.now) in
    let fits = options_most _ (filling_most _ _ args.list.now) in
    let there = written_there due _ _ longest fits c.options-n.ensures.size c.options-n.ensures.buffer in
    c.exchange.ensures ∙ ap (λ (x : List ℕ). exchange_met x args.k args.tape.now) (c.part.ensures ∙ there)
