-- `ask::record` meets its contract: the command is written, and met.
-- Assumes nothing.
use mathlib.Core.Path.{ap, ◌∙◌}
use mathlib.Core.List.{List}
use Prim.Native.Nat.{ℕ, ◌≤◌}
use Rattle.slices.specs.Writing.{zeros}
use native.Mathlib.Omega.{arith}
use lib.ListN.{length}
use Rattle.commands.specs.Commands.{record_command}
use Rattle.quick_meet.specs.Meeting.{exchange_met}
use Rattle.quick_ask.proofs.Written.{written_there}
use Rattle.quick_ask.proofs.ask.record.Goals as goal

fits : (number file : ℕ) → length (record_command number file) ≤ 5
unfolding record_command
fits number file = omega arith

pub returns : goal.returns
unfolding zeros
returns c =
    let args = c.args in
    let due = record_command args.number args.file in
    let there = written_there due _ _ 5 (fits args.number args.file) c.record-n.ensures.size c.record-n.ensures.buffer in
    c.exchange.ensures ∙ ap (λ (x : List ℕ). exchange_met x args.k args.tape.now) (c.part.ensures ∙ there)
