-- `read_reset` meets its contract: no rule is broken exactly where the set is empty; the first of the set is the first that is
-- broken, and its place is where that rule's character stands.
-- Assumes nothing.
use Rattle.atr.proofs.Readings.{accepted_answer, refused_answer_lem}
use Rattle.atr.proofs.read_reset.Goals as goal

pub returns-then-rules-eq0 : goal.returns-then-rules-eq0
returns-then-rules-eq0 c =
    let a = c.args in
    accepted_answer a.capture.now a.warm _ _ _
    c.is_inverse-inverse.ensures
    c.locate-l.ensures.located
    c.is_ts_broken.ensures
    _
    c.broken_rules-rules.ensures
    _
    c.told_by.ensures
    c.if-rules-eq0.true

pub returns : goal.returns
returns c =
    let a = c.args in
    refused_answer_lem a.capture.now a.warm _ _ _
    c.is_inverse-inverse.ensures
    c.locate-l.ensures.located
    c.is_ts_broken.ensures
    _
    c.broken_rules-rules.ensures
    _
    _
    c.if-rules-eq0.false
    c.first_rule-first.ensures
    c.place_of.ensures
