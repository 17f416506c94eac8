-- `tape_crc::by_bytes` meets its contract. Assumes nothing.
use mathlib.Core.Path.{◌∙◌}
use native.Mathlib.Omega.{arith}
use Rattle.tape_crc.proofs.ByTable.{turn}
use Rattle.tape_crc.proofs.Laws.{taken_all_lem}
use Rattle.tape_crc.proofs.by_bytes.Goals as goal

pub loop-b-preserved : goal.loop-b-preserved
loop-b-preserved c =
    let l = c.loop-b in
    turn c.requires l.r l.b-index c.args.s.now (omega arith) (c.type_inv.s l.b-index).fits ∙ l.invariant

pub returns : goal.returns
returns c = taken_all_lem c.loop-b.r c.loop-b.b-index c.args.s.now (omega arith) c.loop-b.invariant
