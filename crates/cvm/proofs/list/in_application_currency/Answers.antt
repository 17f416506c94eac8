-- `list::in_application_currency` meets its contract: with a 9F42 the comparison, without one nothing. Assumes nothing.
use mathlib.Core.Path.{◌≡◌, sym, ap, ◌∙◌}
use mathlib.Core.List.{List}
use mathlib.Core.Option.{Option}
use Prim.Native.Nat.{ℕ}
use Rattle.slices.proofs.Choice.{pick_yes, pick_no}
use Rattle.cvm.specs.Lists.{in_application_currency}
use Rattle.cvm.proofs.list.in_application_currency.Goals as goal

-- whether the currency is that of a 9F42 that is chosen so
chosen : (currency : List ℕ) {o o' : Option (List ℕ)} → o ≡ o' → in_application_currency o' currency ≡ in_application_currency o currency
chosen currency e = sym (ap (λ (o : Option (List ℕ)). in_application_currency o currency) e)

pub returns-then-there : goal.returns-then-there
unfolding in_application_currency
returns-then-there c = c.alike.ensures ∙ chosen _ (pick_yes _ _ _ c.if-there.true)

pub returns-else-there : goal.returns-else-there
unfolding in_application_currency
returns-else-there c = c.if-there.false ∙ chosen _ (pick_no _ _ _ c.if-there.false)
