-- The session of `Worked`, computed. Assumes nothing.
use mathlib.Core.Path.{◌≡◌, refl}
use mathlib.Core.Bool.{true}
use Rattle.slices.specs.Choice.{pick}
use Rattle.slices.specs.Tests.{every, between}
use Rattle.slices.specs.Tables.{beside}
use Rattle.slices.specs.Writing.{put, laid, zeros}
use Rattle.atr_characters.specs.Data.{joined_from}
use Rattle.t1_block.specs.Blocks.{inf_of, lrc_of, kind_of, framed, written}
use Rattle.t1_block.specs.Faults.{sized, of_kind, in_frame, tested, heard_as, heard_of}
use Rattle.t1_state.specs.Limits.{room, more_of}
use Rattle.t1_again.specs.Again.{ready_for, exhausted, same_again, information_again, wrong_after, wrong, for_role}
use Rattle.t1_line.specs.Line.{is_ifs, answers, on_request, sends_piece, sends_next, equal}
use Rattle.t1_line.specs.Line.{on_ready, keeps, on_information, on_kind, on_line}
use Rattle.t1_asking.specs.Asking.{is_response, asked_instead, on_response, asked_kind, on_asking}
use Rattle.t1_turns.specs.Turns.{by_phase, on_block, asks_for, hello_in, on_hello, card_asks, ask_in, on_ask}
use Rattle.t1_turns.specs.Turns.{message_of, sends_message, send_in, on_send}
use Rattle.t1.specs.Steps.{block_for, block_of, fresh_end}
use Rattle.t1_laws.specs.Talks.{to_card, to_terminal, arrives, spoils, happens, talk, begun, finished}
use Rattle.t1_laws.specs.Worked.{session, Done, twice_damaged}

pub done : Done (talk session (begun 16))
unfolding pick every between beside put laid zeros joined_from inf_of lrc_of kind_of framed written sized of_kind in_frame tested heard_as
    heard_of room more_of ready_for exhausted same_again information_again wrong_after wrong for_role is_ifs answers on_request sends_piece
    sends_next equal on_ready keeps on_information on_kind on_line is_response asked_instead on_response asked_kind on_asking by_phase
    on_block asks_for hello_in on_hello card_asks ask_in on_ask message_of sends_message send_in on_send block_for block_of fresh_end
    to_card to_terminal arrives spoils happens talk begun
done = record { commands = refl; answers = refl; next = refl; line = refl; size = refl }

pub two_can_end : finished (talk twice_damaged (begun 16)) ≡ true
unfolding pick every between beside put laid zeros joined_from inf_of lrc_of kind_of framed written sized of_kind in_frame tested heard_as
    heard_of room more_of ready_for exhausted same_again information_again wrong_after wrong for_role is_ifs answers on_request sends_piece
    sends_next equal on_ready keeps on_information on_kind on_line is_response asked_instead on_response asked_kind on_asking by_phase
    on_block asks_for hello_in on_hello card_asks ask_in on_ask message_of sends_message send_in on_send block_for block_of fresh_end
    to_card to_terminal arrives spoils happens talk begun
two_can_end = refl
