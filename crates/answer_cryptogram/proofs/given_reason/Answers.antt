-- `answer_cryptogram::given_reason` meets its contract: the last line.
-- Assumes nothing.
use mathlib.Core.Path.{◌≡◌, sym, ap, ◌∙◌}
use mathlib.Core.Bool.{not}
use lib.ListN.{get_or}
use Rattle.slices.proofs.Lines.{line_yes, last_no}
use Rattle.decide_cryptogram.specs.Cryptograms.{given_by, allowed_by}
use Rattle.answer_cryptogram.proofs.given_reason.Goals as goal

pub returns-then-allowed : goal.returns-then-allowed
returns-then-allowed c =
    let test : not c.allowed.result ≡ not (allowed_by c.args.request (given_by (get_or c.args.information.now 0 0))) =
    let request = c.args.request in
    ap not (c.allowed.ensures ∙ ap (allowed_by request) (c.given_by.ensures ∙ ap given_by c.byte.ensures.0))
    in
    sym (last_no (test) 10 (ap not c.if-allowed.true))

pub returns-else-allowed : goal.returns-else-allowed
returns-else-allowed c =
    let test : not c.allowed.result ≡ not (allowed_by c.args.request (given_by (get_or c.args.information.now 0 0))) =
    let request = c.args.request in
    ap not (c.allowed.ensures ∙ ap (allowed_by request) (c.given_by.ensures ∙ ap given_by c.byte.ensures.0))
    in
    sym (line_yes (test) 10 _ (ap not c.if-allowed.false))
