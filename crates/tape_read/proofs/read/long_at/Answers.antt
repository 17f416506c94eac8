-- `tape_read::read::long_at` meets its contract: a field of four bytes is its two halves. Assumes nothing.
use native.Mathlib.Omega.{arith}
use Rattle.tape_read.proofs.Windows.{field_halves}
use Rattle.tape_read.proofs.read.long_at.Goals as goal

pub returns : goal.returns
returns c =
    let a = c.args in
    omega (arith, field_halves a.at a.s.now)
