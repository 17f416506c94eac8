-- `is_home` meets its contract: what is told of 9F42 is compared with START's currency.
-- Assumes nothing.
use mathlib.Core.Path.{ap₂, ◌∙◌}
use mathlib.Core.Bool.{Bool}
use mathlib.Core.List.{List}
use mathlib.Core.Option.{none, some}
use Prim.Native.Nat.{ℕ}
use Rattle.slices.specs.Choice.{pick}
use Rattle.session_records.specs.Slots.{told_in}
use Rattle.cvm.specs.Lists.{in_application_currency}
use Rattle.decide_verification.proofs.Listing.{as_told}
use Rattle.decide_verification.proofs.is_home.Goals as goal

pub returns : goal.returns
returns c =
    let o = told_in c.args.told.now 0x9F42 in
    c.in_application_currency.ensures
    ∙ ap₂ in_application_currency
    (ap₂ (λ (t : Bool) (l : List ℕ). pick t (some l) none) c.has.ensures c.value.ensures ∙ as_told o)
    c.bytes.ensures
