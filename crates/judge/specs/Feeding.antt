-- A tape judged piece by piece (02, R-8): a good block leads the dialogue on, any other piece leaves it; what is found early is kept and
-- said where the tape ends. What a verdict is stands in verdict_judged, without this; that both are equal is proved (proofs/Fed).
-- Assumes nothing.
use Rattle.std.specs.Prelude.{List, [], ◌∷◌, ℕ, eqb}
use Rattle.slices.specs.Choice.{pick}
use Rattle.tape_read.specs.Blocks.{kind_in, payload_in}
use Rattle.tape_feed.specs.Feeding.{next, damage_of, begun as unread}
use Rattle.tape_feed.specs.declared.Taken.{Taken}
use Rattle.tape_feed.specs.declared.Damage.{Damage}
use Rattle.verdict.specs.Saying.{says, finds}
use Rattle.verdict.specs.declared.Verdict.TheVariants.{Unreadable}
use Rattle.verdict.specs.declared.Finding.{Finding}
use Rattle.judge_stages.specs.Stages.{said_at}
use Rattle.judge_follow.specs.Following.{begun as fresh, led}
use Rattle.judge.specs.declared.UnderWay.{UnderWay}

abbrev pub begun : UnderWay
begun = record { reader = unread; dialogue = fresh }

-- one piece further; the entry of a good block has the number of the blocks before it
unfoldable pub fed_by : UnderWay → List ℕ → Taken → UnderWay
fed_by u p t = record { reader = t.reader; dialogue = led t.good u.dialogue u.reader.blocks (kind_in p) (payload_in p) }

unfoldable pub fed : UnderWay → List ℕ → UnderWay
fed u p = fed_by u p (next u.reader p)

unfoldable pub fed_all : UnderWay → List (List ℕ) → UnderWay
fed_all u [] = u
fed_all u (p ∷ ps) = fed_all (fed u p) ps

-- where the tape ends: what makes it unreadable goes before all that its entries say, and nothing is counted then
unfoldable pub closed_by : UnderWay → Damage → Finding
closed_by u d =
    pick (eqb d.code 0)
    (finds (said_at u.dialogue.stage u.reader.blocks) u.dialogue.zeros)
    (finds (says Unreadable d.place d.code) 0)

unfoldable pub closed : UnderWay → Finding
closed u = closed_by u (damage_of u.reader)
