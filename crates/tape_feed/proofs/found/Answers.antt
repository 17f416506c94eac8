-- `found` meets its contract: its tests are the definition's, in the same order.
-- Assumes nothing.
use mathlib.Core.Path.{sym, ◌∙◌}
use Rattle.tape_feed.proofs.Turns.{damage_long, damage_torn, damage_first}
use Rattle.tape_feed.proofs.found.Goals as goal

pub returns-then-is_too_long : goal.returns-then-is_too_long
returns-then-is_too_long c =
    let r = c.args.end in
    c.at.ensures ∙ sym (damage_long r (sym c.is_too_long.ensures ∙ c.if-is_too_long.true))

pub returns-then-end : goal.returns-then-end
returns-then-end c =
    let r = c.args.end in
    let fits = sym c.is_too_long.ensures ∙ c.if-is_too_long.false in
    c.at-then-end.ensures ∙ sym (damage_torn r fits c.if-end.true)

pub returns : goal.returns
returns c =
    let r = c.args.end in
    let fits = sym c.is_too_long.ensures ∙ c.if-is_too_long.false in
    c.at-2.ensures ∙ sym (damage_first r fits c.if-end.false)
