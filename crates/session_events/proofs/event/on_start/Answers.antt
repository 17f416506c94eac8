-- `event::on_start` meets its contract: SELECT is written, and everything but START's bytes begins anew.
-- Assumes nothing.
use mathlib.Core.Path.{refl}
use Rattle.slices.specs.Writing.{zeros}
use Rattle.start_fields.specs.Reading.{reading_of}
use Rattle.answer_afl.specs.Cursor.{start}
use Rattle.rulebook.specs.Situation.{begun as situation_begun}
use Rattle.rulebook.specs.Phase.{selecting, situation_of, command_of}
use Rattle.rulebook.specs.Turn.{opened}
use Rattle.rulebook_zeros.specs.Zeros.{unsupplied_asking}
use Rattle.session_state.specs.Keeping.{state_at, begun, changed}
use Rattle.session_moves.specs.Moves.{question_of, cursor_asking}
use Rattle.session_moves.proofs.Moving.{asking}
use Rattle.session_events.proofs.event.on_start.Goals as goal

pub returns : goal.returns
unfolding opened unsupplied_asking command_of situation_of situation_begun question_of cursor_asking begun state_at changed
returns c =
    let args = c.args in
    let b = args.terminal.now in
    let buf = args.buf.now in
    asking (begun b) buf (selecting (situation_begun (reading_of b))) refl c.select-n.ensures.size
    c.select-n.ensures.buffer refl refl (zeros 5) (zeros 2) start c.begun.ensures refl refl refl
