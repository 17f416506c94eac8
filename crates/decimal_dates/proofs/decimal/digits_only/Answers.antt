-- `decimal_dates::decimal::digits_only` meets its contract: the closure is the definition's test of a byte.
-- Assumes nothing.
use mathlib.Core.Path.{◌≡◌}
use mathlib.Core.Bool.{true, false}
use borrow.Author.Rules.{rules}
use Rattle.std.proofs.lemmas.Iterator.{cases_from_all, YieldsList-from_slice}
use Rattle.slices.proofs.Tests.{every_from_all}
use Rattle.decimal_dates.specs.Decimal.{decimal_byte, digits_only}
use Rattle.decimal_dates.proofs.decimal.digits_only.Goals as goal

pub returns : goal.returns
unfolding digits_only
returns c =
    every_from_all decimal_byte c.args.s.now _
    (cases_from_all _ _ _
    (λ b. decimal_byte b ≡ true)
    (λ b. decimal_byte b ≡ false)
    c.all.ensures.ran
    (YieldsList-from_slice c.args.s.now cc)
    (λ x q k. search rules)
    (λ x q k. search rules))
