-- `quick_check::register::turn` meets its contract: each of the four bytes by the row of its place. Assumes nothing.
use mathlib.Core.Path.{sym}
use native.Mathlib.Omega.{arith}
use Rattle.quick_check.proofs.Turns.{four_by_rows}
use Rattle.quick_check.proofs.register.turn.Goals as goal

pub returns : goal.returns
returns c =
    sym (four_by_rows c.args.stored.leaving c.args.behind c.requires c.args.x (omega arith))
