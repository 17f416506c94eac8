-- `decimal_dates::decimal::zeros_only` meets its contract: the closure is the definition's test of a byte.
-- Assumes nothing.
use mathlib.Core.Path.{◌≡◌}
use mathlib.Core.Bool.{true, false}
use borrow.Author.Rules.{rules}
use borrow.Author.Tests.{tests}
use lib.Dec.{eqb}
use Prim.Native.Nat.{ℕ}
use Rattle.std.proofs.lemmas.Iterator.{cases_from_all, YieldsList-from_slice}
use Rattle.slices.proofs.Tests.{every_from_all}
use Rattle.decimal_dates.specs.Decimal.{zeros_only}
use Rattle.decimal_dates.proofs.decimal.zeros_only.Goals as goal

pub returns : goal.returns
unfolding zeros_only
returns c =
    every_from_all (λ (b : ℕ). eqb b 0) c.args.s.now _
    (cases_from_all _ _ _
    (λ b. eqb b 0 ≡ true)
    (λ b. eqb b 0 ≡ false)
    c.all.ensures.ran
    (YieldsList-from_slice c.args.s.now cc)
    (λ x q k. search (rules, tests))
    (λ x q k. search (rules, tests)))
