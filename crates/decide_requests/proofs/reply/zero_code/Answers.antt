-- `decide_requests::reply::zero_code` meets its contract: it tests the code's two bytes in order.
-- Assumes nothing.
use mathlib.Core.Path.{sym, ap, ◌∙◌}
use Prim.Native.Nat.{ℕ}
use borrow.Author.Tests.{eq-eqb, ne_eqb}
use lib.Dec.{eqb}
use Rattle.decimal_dates.specs.Decimal.{zeros_only}
use Rattle.slices.proofs.Tests.{held, failed, last}
use Rattle.decide_requests.specs.Replies.{code_in}
use Rattle.decide_requests.proofs.reply.zero_code.Goals as goal

pub returns-then-byte-eq0 : goal.returns-then-byte-eq0
unfolding zeros_only code_in
returns-then-byte-eq0 c =
    let first = ap (λ (b : ℕ). eqb b 0) c.byte.ensures.0 in
    let second = ap (λ (b : ℕ). eqb b 0) c.byte-then-byte-eq0.ensures.0 in
    sym (held first _ (eq-eqb _ 0 c.if-byte-eq0.true) ∙ last second)

pub returns-else-byte-eq0 : goal.returns-else-byte-eq0
unfolding zeros_only code_in
returns-else-byte-eq0 c = sym (failed (ap (λ (b : ℕ). eqb b 0) c.byte.ensures.0) _ (ne_eqb _ 0 c.if-byte-eq0.false))
