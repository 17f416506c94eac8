-- `requests::Codes::issuer_match` meets its contract: the code that was told, and otherwise five bytes of the other.
-- Assumes nothing.
use mathlib.Core.Path.{sym, ap, ◌∙◌}
use mathlib.Core.List.{List}
use Prim.Native.Nat.{ℕ}
use Rattle.decide_tvr.specs.Bits.{meet}
use Rattle.decide_requests.specs.Requests.{issuer_code}
use Rattle.session_records.specs.Slots.{told_in}
use Rattle.session_records.proofs.Present.{is_there_lem, is_none}
use Rattle.decide_requests.proofs.requests.Codes.issuer_match.Goals as goal

pub returns-then-has : goal.returns-then-has
unfolding issuer_code
returns-then-has c =
    let a = c.args in
    c.in_both.ensures
    ∙ ap (λ (l : List ℕ). meet l a.self.tvr) (c.value.ensures
    ∙ sym (ap (issuer_code a.absent) (is_there_lem (told_in a.self.told.now a.tag) (sym c.has.ensures ∙ c.if-has.true))))

pub returns-else-has : goal.returns-else-has
unfolding issuer_code
returns-else-has c =
    let a = c.args in
    c.in_both-else-has.ensures
    ∙ ap (λ (l : List ℕ). meet l a.self.tvr)
    (sym (ap (issuer_code a.absent) (is_none (told_in a.self.told.now a.tag) (sym c.has.ensures ∙ c.if-has.false))))
