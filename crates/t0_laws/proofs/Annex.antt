-- Each example of the annex holds by computation. Assumes nothing.
use mathlib.Core.Path.{refl}
use Rattle.slices.specs.Choice.{pick}
use Rattle.slices.specs.Writing.{put, laid, zeros}
use Rattle.apdu.specs.Commands.{case_of, data_of, asked}
use Rattle.apdu.specs.Answers.{is_status, is_warning}
use Rattle.t0_state.specs.Bytes.{ins_for, ins_of, complement, meaning_of, comes_in}
use Rattle.t0_state.specs.Bytes.{may_get_after, may_get, may_repeat, goes_on_after, goes_on}
use Rattle.t0_procedure.specs.Procedure.{moving, on_all, on_next, on_wait, on_get, on_six_c, by_meaning, on_procedure}
use Rattle.t0_turns.specs.Turns.{on_length, on_repeat, ending_in, on_status, phase_after, on_data, by_phase, after_byte}
use Rattle.t0_begin.specs.Begin.{header_for, header_of, command_of, nowhere, begun, begun_as, begun_in, begun_by}
use Rattle.t0_begin.specs.Begin.{wait_for}
use Rattle.t0.specs.Steps.{sent_by, kept_by, reply_to, done, step_of}
use Rattle.t0_pieces.specs.Pieces.{is_over, is_closed}
use Rattle.t0_laws.specs.Outcomes.{logged, settled, opened, playing}
use Rattle.t0_laws.specs.Moves.{size_said, answered}
use Rattle.t0_laws.specs.Annex.{exchanged, Examples}

pub examples : Examples
unfolding pick put laid zeros case_of data_of asked is_status is_warning ins_for ins_of complement meaning_of comes_in may_get_after
    may_get may_repeat goes_on_after goes_on moving on_all on_next on_wait on_get on_six_c by_meaning on_procedure on_length on_repeat
    ending_in on_status phase_after on_data by_phase after_byte header_for header_of command_of nowhere begun begun_as begun_in begun_by
    sent_by kept_by wait_for reply_to done step_of is_over is_closed logged settled opened playing size_said answered exchanged
examples =
    record {
      a1 = (refl, refl);
      a2 = (refl, refl);
      a3 = (refl, refl);
      a4 = (refl, refl);
      a5 = (refl, refl);
      a6 = (refl, refl);
      a7 = (refl, refl);
    }
