-- `tape_crc::by_pairs` meets its contract. Assumes nothing.
use mathlib.Core.Path.{◌≡◌, ap₂, ◌∙◌}
use Prim.Native.Nat.{ℕ, ◌+◌, ◌*◌}
use native.Mathlib.Omega.{arith}
use lib.ListN.{drop}
use Rattle.tape_crc.specs.Check.{running_of}
use Rattle.tape_crc.specs.Parts.{part, pair}
use Rattle.tape_crc.proofs.Parts.{two_parts}
use Rattle.tape_crc.proofs.by_pairs.Goals as goal

pub loop-k-preserved : goal.loop-k-preserved
loop-k-preserved c =
    let l = c.loop-k in
    let s = c.args.s.now in
    let i = l.k * pair in
    let next : (l.k + 1) * pair ≡ l.k * pair + pair = omega arith in
    ap₂ (λ (j r : ℕ). running_of r (drop j s)) next c.pair-r.ensures
    ∙ (two_parts l.r i (i + part) (i + pair) s (omega arith) (omega arith) ∙ l.invariant)
