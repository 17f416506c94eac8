-- `options::options_due` meets its contract: GPO is filled from the list and what is known before it.
-- Assumes nothing.
use mathlib.Core.Path.{refl, ap, ◌∙◌}
use mathlib.Core.List.{List}
use mathlib.Core.Option.{none}
use Prim.Native.Nat.{ℕ}
use Rattle.facts.specs.Facts.{Facts}
use Rattle.start_fields.specs.Reading.{reading_of}
use Rattle.dol_fill.specs.Filled.{filling, unsupplied}
use Rattle.commands.specs.Commands.{options_command}
use Rattle.rulebook.specs.Situation.{known_in}
use Rattle.rulebook.specs.Phase.{optioning, situation_of, command_of}
use Rattle.rulebook_zeros.specs.Zeros.{unsupplied_asking}
use Rattle.session_state.specs.Reading.{start_in, situation_with, early}
use Rattle.session_moves.specs.Moves.{question_of, cursor_asking}
use Rattle.session_moves.proofs.Moving.{asking_on}
use Rattle.session_moves.proofs.options.options_due.Goals as goal

pub returns : goal.returns
unfolding early situation_with command_of situation_of question_of cursor_asking unsupplied_asking
returns c =
    let args = c.args in
    let s = args.s in
    let list = args.list.now in
    let known = c.at_options-known.ensures.known in
    let same = ap (λ (k : Facts). options_command (filling (reading_of c.part.result.now) k list)) known
    ∙ ap (λ (x : List ℕ). options_command (filling (reading_of x) (known_in (early s) none) list)) c.part.ensures in
    let lacks = c.missing-zeros.ensures ∙ ap (λ (k : Facts). unsupplied (reading_of (start_in s)) k list) known in
    asking_on s args.buf.now (optioning (early s) list) same c.options-n.ensures.size c.options-n.ensures.buffer
    c.ask.ensures lacks refl refl refl
