-- `pieces::feed` meets its contract: a good block leads the dialogue on, any other piece leaves it.
-- Assumes nothing.
use Rattle.judge.proofs.Steps.{fed_on}
use Rattle.judge.proofs.pieces.feed.Goals as goal

pub returns : goal.returns
returns c =
    let a = c.args in
    let t = c.next-taken in
    fed_on a.u a.piece.now t.result t.ensures c.kind.result c.payload.result.now
    c.feed-dialogue.result c.kind.ensures c.payload.ensures c.feed-dialogue.ensures
