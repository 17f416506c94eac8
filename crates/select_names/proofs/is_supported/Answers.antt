-- `is_supported` meets its contract. The loop's invariant: the AIDs that are left decide as all of them do.
-- Assumes nothing.
use mathlib.Core.Path.{refl, sym, ◌∙◌}
use mathlib.Core.List.{[]}
use native.Mathlib.Omega.{arith}
use Rattle.start_list.specs.Listing.{listed_of, listed_at}
use Rattle.start_list.proofs.Lists.{any_on, any_yes, any_past}
use Rattle.select_names.specs.Names.{matches, supported}
use Rattle.select_names.proofs.is_supported.Invariants.{listed}
use Rattle.select_names.proofs.is_supported.Goals as goal

pub loop-k-init : goal.loop-k-init
unfolding supported
loop-k-init c = refl

pub returns-then-matches_listed : goal.returns-then-matches_listed
unfolding listed_at
returns-then-matches_listed c =
    let l = c.loop-k in
    let a = c.args in
    sym (any_yes (matches a.name.now) (listed a.start.now) (listed_of []) l.k (omega arith)
    (sym c.matches_listed.ensures ∙ c.if-matches_listed.true))
    ∙ l.invariant

pub loop-k-preserved : goal.loop-k-preserved
unfolding listed_at
loop-k-preserved c =
    let l = c.loop-k in
    let a = c.args in
    sym (any_on (matches a.name.now) (listed a.start.now) (listed_of []) l.k (omega arith)
    (sym c.matches_listed.ensures ∙ c.if-matches_listed.false))
    ∙ l.invariant

pub returns : goal.returns
returns c =
    let l = c.loop-k in
    let a = c.args in
    sym (any_past (matches a.name.now) (listed a.start.now) (listed_of []) l.k (omega arith)) ∙ l.invariant
