-- `search::show` meets its contract: as many are shown as stand in the list, up to 255.
-- Assumes nothing.
use Rattle.select_list.specs.Kept.{list_in}
use Rattle.select_search.specs.Turns.{search_of}
use Rattle.session_choosing.proofs.Turning.{shows_next}
use Rattle.session_choosing.proofs.search.show.Goals as goal

pub returns : goal.returns
returns c =
    let args = c.args in
    shows_next args.s (search_of args.stand (list_in args.list.now)) args.buf.now _ _ _ c.shown.ensures.0
    c.with_stand.ensures c.wait.ensures
