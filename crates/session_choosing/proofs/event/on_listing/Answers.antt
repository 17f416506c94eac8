-- `event::on_listing` meets its contract: the search begins, and its first command is out.
-- Assumes nothing.
use Rattle.session_choosing.proofs.Turning.{begins_search}
use Rattle.session_choosing.proofs.event.on_listing.Goals as goal

pub returns : goal.returns
returns c =
    let args = c.args in
    begins_search args.p.now args.buf.now _ _ _ _ _ c.ask_next.ensures c.requires c.begin-stand.ensures.0
    c.begin-stand.ensures.1 c.begun_listing.ensures
