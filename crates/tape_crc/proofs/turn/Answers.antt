-- `tape_crc::turn` meets its contract: each of the four bytes by the table of its place. Assumes nothing.
use mathlib.Core.Path.{sym}
use mathlib.Core.List.{[], ◌∷◌}
use native.Mathlib.Omega.{arith}
use Rattle.tape_crc.specs.Tables.{InTurn, Tables}
use Rattle.tape_crc.proofs.ByTables.{four_by_tables}
use Rattle.tape_crc.proofs.turn.Goals as goal

pub returns : goal.returns
unfolding InTurn
returns c =
    let t = c.args.t in
    let tables : Tables t.none.now (t.one.now ∷ t.two.now ∷ t.three.now ∷ []) =
    record { remainders = t.leaves; further = (t.one_on, (t.two_on, (t.three_on, tt))) } in
    sym (four_by_tables tables c.args.x (omega arith))
