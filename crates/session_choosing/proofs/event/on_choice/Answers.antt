-- `event::on_choice` meets its contract: a choice, and what follows.
-- Assumes nothing.
use Rattle.select_list.specs.Kept.{list_in}
use Rattle.select_list.proofs.Seen.{list_whole}
use Rattle.session_choosing.proofs.Turning.{chooses}
use Rattle.session_choosing.proofs.event.on_choice.Goals as goal

pub returns : goal.returns
returns c =
    let args = c.args in
    chooses args.s (list_in args.list.now) args.buf.now (list_whole args.list.now) args.p.now _ c.byte.ensures.0 _ _
    c.chosen-turn.result c.chosen-turn.ensures c.by_turn.ensures
