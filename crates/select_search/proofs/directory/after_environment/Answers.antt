-- `directory::after_environment` meets its contract.
-- Assumes nothing.
use mathlib.Core.Path.{sym, ap, ◌∙◌}
use mathlib.Core.Bool.{not, ◌&&◌}
use mathlib.Core.List.{[]}
use Prim.Native.Nat.{ℕ}
use lib.Dec.{eqb}
use Rattle.slices.proofs.Choice.{pick_yes, pick_no}
use Rattle.select_search.specs.Search.{goes, has_status}
use Rattle.select_search.specs.Listing.{from_first}
use Rattle.select_search.specs.Directory.{after_environment}
use Rattle.select_search.specs.Turns.{search_of, turn_of}
use Rattle.select_search.specs.declared.Step.TheVariants.{Directory}
use Rattle.select_search.proofs.directory.after_environment.Goals as goal

pub returns-then-has_status : goal.returns-then-has_status
unfolding turn_of after_environment
returns-then-has_status c = sym (ap turn_of (pick_yes _ _ _ (sym c.has_status.ensures ∙ c.if-has_status.true)))

pub returns-then-is_environment : goal.returns-then-is_environment
unfolding after_environment
returns-then-is_environment c =
    let a = c.args in
    let told = c.directory_file-file.ensures.0 in
    c.go.ensures
    ∙ (ap (λ (k : ℕ). turn_of (goes (search_of a.stand []) (Directory k 1))) told
    ∙ sym (ap turn_of
    (pick_no _ _ _ (sym c.has_status.ensures ∙ c.if-has_status.false)
    ∙ pick_yes _ _ _
    (ap (λ (k : ℕ). has_status 0x9000 a.answer.now && not (eqb k 0)) (sym told)
    ∙ (sym c.is_environment.ensures ∙ c.if-is_environment.true)))))

pub returns : goal.returns
unfolding after_environment from_first
returns c =
    let a = c.args in
    let told = c.directory_file-file.ensures.0 in
    c.go-2.ensures
    ∙ sym (ap turn_of
    (pick_no _ _ _ (sym c.has_status.ensures ∙ c.if-has_status.false)
    ∙ pick_no _ _ _
    (ap (λ (k : ℕ). has_status 0x9000 a.answer.now && not (eqb k 0)) (sym told)
    ∙ (sym c.is_environment.ensures ∙ c.if-is_environment.false))))
