-- `tape_crc::pair` meets its contract: what the first part left goes past the second, and is joined with what that left from nothing.
-- Assumes nothing.
use mathlib.Core.Path.{◌≡◌, sym, ap₂, ◌∙◌}
use mathlib.Core.Bool.{true}
use Prim.Native.Nat.{ℕ, ◌+◌, ◌*◌, ◌<◌}
use native.Mathlib.Omega.{arith}
use lib.Bits.{bit_xor}
use lib.ListN.{get_or, drop}
use lib.Pow.{are_bytes}
use Rattle.tape_crc.specs.Check.{divided, running_of}
use Rattle.tape_crc.proofs.Bytes.{bytes_each}
use Rattle.tape_crc.proofs.Laws.{taken_all_lem}
use Rattle.tape_crc.proofs.ByTables.{turn_of_four}
use Rattle.tape_crc.proofs.Parts.{in_parts}
use Rattle.tape_crc.proofs.pair.Goals as goal

pub loop-k-preserved : goal.loop-k-preserved
loop-k-preserved c =
    let l = c.loop-k in
    let first = c.args.first.now in
    let second = c.args.second.now in
    let in_first : (j : ℕ) → get_or first j 0 < 256 = λ j. (c.type_inv.first j).fits in
    let in_second : (j : ℕ) → get_or second j 0 < 256 = λ j. (c.type_inv.second j).fits in
    let next : 4 * (l.k + 1) ≡ 4 * l.k + 4 = omega arith in (
      ap₂ (λ (i r : ℕ). running_of r (drop i first)) next c.turn-r.ensures
          ∙ (turn_of_four l.r (4 * l.k) first c.word.result c.word.ensures (omega (arith, c.requires)) in_first ∙ l.invariant.0),
      ap₂ (λ (i r : ℕ). running_of r (drop i second)) next c.turn-q.ensures
          ∙ (turn_of_four l.q (4 * l.k) second c.word-in-loop-k.result c.word-in-loop-k.ensures (omega (arith, c.requires)) in_second
          ∙ l.invariant.1),
    )

pub returns : goal.returns
returns c =
    let l = c.loop-k in
    let first = c.args.first.now in
    let second = c.args.second.now in
    let bytes : are_bytes second ≡ true = bytes_each second (λ j h. (c.type_inv.second j).fits) in
    let r = taken_all_lem l.r (4 * l.k) first (omega (arith, c.requires)) l.invariant.0 in
    let q = taken_all_lem l.q (4 * l.k) second (omega (arith, c.requires)) l.invariant.1 in
    ap₂ bit_xor (c.past_part.ensures ∙ ap₂ (λ (n x : ℕ). divided (8 * n) x) (sym c.requires.1) r) q
    ∙ sym (in_parts c.args.register first second bytes)
