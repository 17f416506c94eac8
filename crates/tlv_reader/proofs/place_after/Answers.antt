-- `place_after` meets its contract: each arm has what `next` found, and `go_on` says where to go on from that.
-- Assumes nothing.
use mathlib.Core.Path.{sym, ap, ◌∙◌}
use Rattle.tlv_reader.specs.Held.{go_on, place_after}
use Rattle.tlv_reader.proofs.place_after.Goals as goal

pub returns-in-Member : goal.returns-in-Member
unfolding place_after go_on
returns-in-Member c =
    ap (go_on c.args.at) (sym c.in-Member.is ∙ c.next.ensures)

pub returns-in-End : goal.returns-in-End
unfolding place_after go_on
returns-in-End c =
    ap (go_on c.args.at) (sym c.in-End.is ∙ c.next.ensures)

pub returns-in-Broken : goal.returns-in-Broken
unfolding place_after go_on
returns-in-Broken c =
    ap (go_on c.args.at) (sym c.in-Broken.is ∙ c.next.ensures)
