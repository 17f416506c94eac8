-- `requests::Codes::code_match` meets its contract: a bit is shared with the joined codes where it is shared with one of them.
-- Assumes nothing.
use mathlib.Core.Path.{sym, ap, ◌∙◌}
use mathlib.Core.List.{List}
use Prim.Native.Nat.{ℕ}
use Rattle.decide_tvr.specs.Bits.{meet}
use Rattle.decide_requests.specs.Requests.{code_match}
use Rattle.decide_tvr.proofs.Rows.{meet_first, meet_second}
use Rattle.decide_requests.proofs.requests.Codes.code_match.Goals as goal

pub returns-then-issuer_match : goal.returns-then-issuer_match
unfolding code_match
returns-then-issuer_match c = let i = c.issuer_match.ensures in c.if-issuer_match.true
    ∙ sym (meet_first _ _ _ (sym i ∙ c.if-issuer_match.true))

pub returns-else-issuer_match : goal.returns-else-issuer_match
unfolding code_match
returns-else-issuer_match c =
    let a = c.args in
    let i = c.issuer_match.ensures in
    c.in_both.ensures
    ∙ (ap (λ (l : List ℕ). meet l a.self.tvr) c.bytes.ensures ∙ sym (meet_second _ _ _ (sym i ∙ c.if-issuer_match.false)))
