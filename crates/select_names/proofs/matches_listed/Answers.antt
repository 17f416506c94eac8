-- `matches_listed` meets its contract: by the byte behind the AID.
-- Assumes nothing.
use mathlib.Core.Path.{sym, ap, ◌∙◌}
use mathlib.Core.List.{List}
use Prim.Native.Nat.{ℕ}
use Rattle.slices.specs.Tests.{alike}
use Rattle.slices.proofs.Choice.{pick_yes, pick_no}
use Rattle.select_names.specs.Names.{begins_with, matches}
use Rattle.select_names.proofs.matches_listed.Goals as goal

pub returns-then-is_partial : goal.returns-then-is_partial
unfolding matches
returns-then-is_partial c =
    let name = c.args.name.now in
    c.begins_with.ensures
    ∙ (ap (λ (aid : List ℕ). begins_with aid name) c.listed_aid-aid.ensures
    ∙ sym (pick_yes _ _ _ (sym c.is_partial.ensures ∙ c.if-is_partial.true)))

pub returns-else-is_partial : goal.returns-else-is_partial
unfolding matches
returns-else-is_partial c =
    let name = c.args.name.now in
    c.alike.ensures
    ∙ (ap (λ (aid : List ℕ). alike aid name) c.listed_aid-aid.ensures
    ∙ sym (pick_no _ _ _ (sym c.is_partial.ensures ∙ c.if-is_partial.false)))
