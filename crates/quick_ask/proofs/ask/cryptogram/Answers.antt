-- `ask::cryptogram` meets its contract: the command is written, and met.
-- Assumes nothing.
use mathlib.Core.Path.{ap, ◌∙◌}
use mathlib.Core.List.{List}
use Prim.Native.Nat.{ℕ}
use lib.ListN.{length}
use Rattle.slices.specs.Writing.{laid, zeros}
use Rattle.start_fields.specs.Reading.{reading_of}
use Rattle.session_records.specs.Slots.{told_in}
use Rattle.dol_fill.specs.Filled.{filling}
use Rattle.decide_cryptogram.specs.Cryptograms.{p1_of}
use Rattle.commands.specs.Commands.{longest, size_in, cryptogram_command}
use Rattle.commands.proofs.Shapes.{cryptogram_most}
use Rattle.quick_meet.specs.Meeting.{exchange_met}
use Rattle.quick_ask.proofs.Written.{written_there, filling_most}
use Rattle.quick_ask.proofs.ask.cryptogram.Goals as goal

pub returns : goal.returns
unfolding zeros
returns c =
    let args = c.args in
    let data' = filling (reading_of args.from.start.now) (told_in args.from.known.now) args.list.now in
    let one = c.p1.ensures in
    let due = cryptogram_command (p1_of args.request) data' in
    let size = c.cryptogram-n.ensures.size ∙ ap (λ (q : ℕ). size_in (length (zeros longest)) (cryptogram_command q data')) one in
    let buffer = c.cryptogram-n.ensures.buffer ∙ ap (λ (q : ℕ). laid (cryptogram_command q data') 0 (zeros longest)) one in
    let there = written_there due _ _ longest (cryptogram_most _ _ (filling_most _ _ args.list.now)) size buffer in
    c.exchange.ensures ∙ ap (λ (x : List ℕ). exchange_met x args.k args.tape.now) (c.part.ensures ∙ there)
