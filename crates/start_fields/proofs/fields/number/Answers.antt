-- `start_fields::fields::number` meets its contract: no field is longer than six bytes, and its bytes are the reading's.
-- Assumes nothing.
use mathlib.Core.Path.{ap, ◌∙◌}
use native.Mathlib.Omega.{arith}
use lib.ListN.{length}
use Rattle.decimal_dates.specs.Decimal.{decimal}
use Rattle.start_fields.proofs.Reading.{short_read}
use Rattle.start_fields.proofs.fields.number.Goals as goal

pub decimal-requires : goal.decimal-requires
decimal-requires c =
    let a = c.args in
    omega (arith, ap length c.bytes.ensures, short_read a.f a.s.now)

pub returns : goal.returns
returns c = (c.decimal.ensures.0 ∙ ap decimal c.bytes.ensures, c.decimal.ensures.1)
