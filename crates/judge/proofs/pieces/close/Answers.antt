-- `pieces::close` meets its contract: what makes the tape unreadable goes before what its entries say.
-- Assumes nothing.
use mathlib.Core.Path.{◌∙◌}
use Rattle.judge.proofs.Steps.{closed_damaged, closed_whole}
use Rattle.judge.proofs.pieces.close.Goals as goal

pub returns-then-why-ne0 : goal.returns-then-why-ne0
returns-then-why-ne0 c =
    let u = c.args.u in
    let d = c.found-why in
    c.damaged.ensures ∙ closed_damaged u d.result d.ensures c.if-why-ne0.true

pub returns : goal.returns
returns c =
    let u = c.args.u in
    let d = c.found-why in
    closed_whole u d.result d.ensures c.if-why-ne0.false c.conclude.result c.conclude.ensures
