-- `directory::join_member` meets its contract.
-- Assumes nothing.
use mathlib.Core.Path.{◌≡◌, sym, ap₂, ◌∙◌}
use mathlib.Core.Bool.{true}
use mathlib.Core.List.{List}
use Prim.Native.Nat.{ℕ}
use borrow.Author.Tests.{eq-eqb}
use Rattle.slices.proofs.Choice.{pick_yes}
use Rattle.start_list.specs.Listing.{Applications, applications_in}
use Rattle.answer_common.specs.Named.{standing}
use Rattle.select_answers.specs.Directory.{entry_tag, entry_name, entry_indicator}
use Rattle.select_list.specs.Order.{Candidate}
use Rattle.select_list.specs.Kept.{list_in}
use Rattle.select_search.specs.Entries.{joined_one, entry_met, member_joined}
use Rattle.select_search.proofs.Joining.{one_kept}
use Rattle.select_search.proofs.directory.join_member.Goals as goal

joins : (t : Applications) (e : List ℕ) (l : List Candidate) (tag : ℕ) (name : List ℕ) (indicator : ℕ) → tag ≡ entry_tag
    → entry_met t e ≡ true → name ≡ entry_name (standing e) → indicator ≡ entry_indicator (standing e)
    → joined_one t name indicator l ≡ member_joined t tag e l
unfolding member_joined
joins t e l tag name indicator is met f g =
    ap₂ (λ (n : List ℕ) (b : ℕ). joined_one t n b l) f g ∙ sym (pick_yes _ _ _ (eq-eqb _ _ is) ∙ pick_yes _ _ _ met)

pub returns-then-is_met : goal.returns-then-is_met
returns-then-is_met c =
    let b = c.args in
    let t = applications_in b.start.now in
    one_kept t b.list.now _ _ _ _ c.join-arg-1.given.0.1 c.can_choose.ensures c.join.ensures
    ∙ joins t b.entry.now (list_in b.list.now) b.tag _ _ c.if-tag-eq-ENTRY.true (sym c.is_met.ensures ∙ c.if-is_met.true)
    c.entry_name.ensures c.entry_indicator.ensures.0
