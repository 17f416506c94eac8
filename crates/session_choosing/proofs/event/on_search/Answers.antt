-- `event::on_search` meets its contract: an answer, read by the search, and what follows.
-- Assumes nothing.
use Rattle.select_list.specs.Kept.{list_in}
use Rattle.session_choosing.proofs.Turning.{searches}
use Rattle.session_choosing.proofs.event.on_search.Goals as goal

pub returns : goal.returns
returns c =
    let args = c.args in
    searches args.s (list_in args.list.now) args.buf.now args.a.now _ _ c.heard-turn.result _ c.by_turn.ensures
    c.heard-turn.ensures.answer_after c.heard-turn.ensures.list_after
