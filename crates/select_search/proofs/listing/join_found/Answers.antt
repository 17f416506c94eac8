-- `listing::join_found` meets its contract.
-- Assumes nothing.
use mathlib.Core.Path.{◌≡◌, sym, ap₂, ◌∙◌}
use mathlib.Core.Bool.{true}
use mathlib.Core.List.{List}
use Prim.Native.Nat.{ℕ}
use Rattle.slices.proofs.Choice.{pick_yes, pick_no}
use Rattle.start_list.specs.Listing.{Applications, applications_in}
use Rattle.select_answers.specs.Files.{application_name, application_indicator}
use Rattle.select_list.specs.Order.{Candidate}
use Rattle.select_list.specs.Kept.{list_in}
use Rattle.select_search.specs.Search.{has_status}
use Rattle.select_search.specs.Entries.{joined_one, found_joined}
use Rattle.select_search.proofs.Joining.{one_kept}
use Rattle.select_search.proofs.listing.join_found.Goals as goal

joins : (t : Applications) (a : List ℕ) (l : List Candidate) (name : List ℕ) (indicator : ℕ) → has_status 0x9000 a ≡ true
    → name ≡ application_name a → indicator ≡ application_indicator a → joined_one t name indicator l ≡ found_joined t a l
unfolding found_joined
joins t a l name indicator y f g = ap₂ (λ (n : List ℕ) (b : ℕ). joined_one t n b l) f g ∙ sym (pick_yes _ _ _ y)

pub returns-then-has_status : goal.returns-then-has_status
returns-then-has_status c =
    let b = c.args in
    let t = applications_in b.h.start.now in
    one_kept t b.list.now _ _ _ _ c.join-arg-1.given.0.1 c.can_choose.ensures c.join.ensures
    ∙ joins t b.h.answer.now (list_in b.list.now) _ _ (sym c.has_status.ensures ∙ c.if-has_status.true)
    c.application_name.ensures c.application_indicator.ensures.0

pub returns-else-has_status : goal.returns-else-has_status
unfolding found_joined
returns-else-has_status c = sym (pick_no _ _ _ (sym c.has_status.ensures ∙ c.if-has_status.false))
