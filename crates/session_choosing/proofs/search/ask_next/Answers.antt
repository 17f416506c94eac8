-- `search::ask_next` meets its contract: the command is that of the search.
-- Assumes nothing.
use Rattle.select_list.specs.Kept.{list_in}
use Rattle.select_search.specs.Turns.{search_of}
use Rattle.session_choosing.proofs.Turning.{asks_next}
use Rattle.session_choosing.proofs.search.ask_next.Goals as goal

pub returns : goal.returns
returns c =
    let args = c.args in
    asks_next args.s (search_of args.stand (list_in args.list.now)) args.buf.now _ _ _ _ c.ask-n.ensures.size
    c.ask-n.ensures.buffer c.with_stand.ensures c.wait.ensures
