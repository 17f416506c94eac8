-- `judge` meets its contract: what makes the tape unreadable goes before all that its entries say.
-- Assumes nothing.
use mathlib.Core.Path.{sym, subst}
use Rattle.quick_judge.proofs.Finding.{Right, right_whole, right_damaged}
use Rattle.quick_judge.proofs.judge.Goals as goal

pub returns-then-why-ne0 : goal.returns-then-why-ne0
returns-then-why-ne0 c =
    let t = c.args.tape.now in
    let both = subst (Right t) (sym c.damaged.ensures) (right_damaged t c.damage-why.result c.damage-why.ensures c.if-why-ne0.true) in
    record { verdict = both.0; zeros = both.1 }

pub returns : goal.returns
returns c =
    let t = c.args.tape.now in
    let both = subst (Right t) (sym c.follow.ensures) (right_whole t c.damage-why.result c.damage-why.ensures c.if-why-ne0.false) in
    record { verdict = both.0; zeros = both.1 }
