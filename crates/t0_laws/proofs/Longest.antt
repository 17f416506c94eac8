-- The bound is reached: an exchange that is not over after 9,251 bytes. By computation. Assumes nothing.
use mathlib.Core.Path.{◌≡◌, refl}
use mathlib.Core.Bool.{false}
use mathlib.Core.List.{[]}
use lib.ListN.{length}
use Rattle.slices.specs.Choice.{pick}
use Rattle.slices.specs.Writing.{put, laid, zeros}
use Rattle.apdu.specs.Commands.{case_of, data_of, asked}
use Rattle.apdu.specs.Answers.{is_status, is_warning}
use Rattle.t0_state.specs.Bytes.{ins_for, ins_of, complement, meaning_of, comes_in}
use Rattle.t0_state.specs.Bytes.{may_get_after, may_get, may_repeat, goes_on_after, goes_on}
use Rattle.t0_procedure.specs.Procedure.{moving, on_all, on_next, on_wait, on_get, on_six_c, by_meaning, on_procedure}
use Rattle.t0_turns.specs.Turns.{on_length, on_repeat, ending_in, on_status, phase_after, on_data, by_phase, after_byte}
use Rattle.t0_begin.specs.Begin.{command_of, nowhere, begun, begun_as, begun_in, begun_by}
use Rattle.t0_pieces.specs.Pieces.{is_over}
use Rattle.t0_laws.specs.Outcomes.{turned}
use Rattle.t0_laws.specs.Longest.{copies, longest_command, slowly, longest_capture}

pub long : length longest_capture ≡ 9251
unfolding longest_capture slowly copies
long = refl

pub not_over : is_over (turned (begun_by longest_command []).state longest_capture).phase ≡ false
unfolding pick put laid zeros case_of data_of asked is_status is_warning ins_for ins_of complement meaning_of comes_in may_get_after
    may_get may_repeat goes_on_after goes_on moving on_all on_next on_wait on_get on_six_c by_meaning on_procedure on_length on_repeat
    ending_in on_status phase_after on_data by_phase after_byte command_of nowhere begun begun_as begun_in begun_by is_over turned
    longest_capture longest_command slowly copies
not_over = refl
