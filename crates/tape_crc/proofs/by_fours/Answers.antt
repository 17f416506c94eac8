-- `tape_crc::by_fours` meets its contract. Assumes nothing.
use mathlib.Core.Path.{◌≡◌, ap₂, ◌∙◌}
use Prim.Native.Nat.{ℕ, ◌+◌, ◌*◌, ◌<◌}
use native.Mathlib.Omega.{arith}
use lib.ListN.{get_or, drop}
use Rattle.tape_crc.specs.Check.{running_of}
use Rattle.tape_crc.proofs.ByTables.{turn_of_four}
use Rattle.tape_crc.proofs.by_fours.Goals as goal

pub loop-k-preserved : goal.loop-k-preserved
loop-k-preserved c =
    let l = c.loop-k in
    let s = c.args.s.now in
    let byte : (j : ℕ) → get_or s j 0 < 256 = λ j. (c.type_inv.s j).fits in
    let next : 4 * (l.k + 1) ≡ 4 * l.k + 4 = omega arith in
    ap₂ (λ (i r : ℕ). running_of r (drop i s)) next c.turn-r.ensures
    ∙ (turn_of_four l.r (4 * l.k) s c.word.result c.word.ensures (omega arith) byte ∙ l.invariant)
