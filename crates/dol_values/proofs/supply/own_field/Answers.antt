-- `supply::own_field` meets its contract: each arm is a line of START's table, and a tag that is in none is not START's.
-- Assumes nothing.
use mathlib.Core.Path.{sym, ap}
use mathlib.Core.List.{map}
use Rattle.slices.specs.Choice.{pick}
use Rattle.slices.specs.Tables.{beside}
use Rattle.slices.proofs.Tables.{beside_none}
use Rattle.dol_values.specs.Shape.{own_table}
use Rattle.dol_values.specs.Known.{own_field}
use Rattle.std.specs.Prelude.{Some, None}
use Rattle.dol_values.proofs.supply.own_field.Goals as goal

pub returns-in-40706 : goal.returns-in-40706
unfolding own_field beside pick
returns-in-40706 c = sym (ap own_field c.in-40706.is)

pub returns-in-40707 : goal.returns-in-40707
unfolding own_field beside pick
returns-in-40707 c = sym (ap own_field c.in-40707.is)

pub returns-in-40730 : goal.returns-in-40730
unfolding own_field beside pick
returns-in-40730 c = sym (ap own_field c.in-40730.is)

pub returns-in-24362 : goal.returns-in-24362
unfolding own_field beside pick
returns-in-24362 c = sym (ap own_field c.in-24362.is)

pub returns-in-154 : goal.returns-in-154
unfolding own_field beside pick
returns-in-154 c = sym (ap own_field c.in-154.is)

pub returns-in-156 : goal.returns-in-156
unfolding own_field beside pick
returns-in-156 c = sym (ap own_field c.in-156.is)

pub returns-in-40759 : goal.returns-in-40759
unfolding own_field beside pick
returns-in-40759 c = sym (ap own_field c.in-40759.is)

pub returns-in-40713 : goal.returns-in-40713
unfolding own_field beside pick
returns-in-40713 c = sym (ap own_field c.in-40713.is)

pub returns-in-40755 : goal.returns-in-40755
unfolding own_field beside pick
returns-in-40755 c = sym (ap own_field c.in-40755.is)

pub returns-in_default : goal.returns-in_default
unfolding own_field beside pick
returns-in_default c =
    sym (beside_none None c.args.tag (map (λ row. (row.0, Some row.1.0)) own_table) c.in_default.in_default-own.rest)
