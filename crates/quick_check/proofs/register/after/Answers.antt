-- `quick_check::register::after` meets its contract. The loop's invariant: the register so far, taken over the bytes that are left, gives
-- what the whole gives, and four bytes and a number of eights are behind. Assumes nothing.
use mathlib.Core.Path.{◌≡◌, ap, ap₂, ◌∙◌}
use Prim.Native.Nat.{ℕ, ◌+◌, ◌*◌, ◌<◌}
use native.Mathlib.Omega.{arith}
use lib.Bits.{bit_xor, xor_comm}
use lib.ListN.{get_or, drop}
use Rattle.tape_crc.specs.Check.{running_of, ones}
use Rattle.tape_crc.proofs.Laws.{taken_all_lem}
use Rattle.tape_crc.proofs.ByTables.{turn_of_four}
use Rattle.quick_check.proofs.Turns.{turn_of_eight}
use Rattle.quick_check.proofs.register.after.Goals as goal

pub loop-k-init : goal.loop-k-init
loop-k-init c =
    let s = c.args.s.now in
    let byte : (j : ℕ) → get_or s j 0 < 256 = λ j. (c.type_inv.s j).fits in
    ap (λ (r : ℕ). running_of r (drop 4 s)) c.turn-r.ensures
    ∙ turn_of_four ones 0 s c.word.result c.word.ensures (omega (arith, c.requires)) byte

pub loop-k-preserved : goal.loop-k-preserved
loop-k-preserved c =
    let l = c.loop-k in
    let i = 4 + 8 * l.k in
    let s = c.args.s.now in
    let byte : (j : ℕ) → get_or s j 0 < 256 = λ j. (c.type_inv.s j).fits in
    let next : 4 + 8 * (l.k + 1) ≡ 4 + 8 * l.k + 8 = omega arith in
    ap₂ (λ (j x : ℕ). running_of x (drop j s)) next (xor_comm c.turn.result c.turn-in-loop-k.result)
    ∙ (ap₂ (λ (a b : ℕ). running_of (bit_xor a b) (drop (i + 8) s)) c.turn-in-loop-k.ensures c.turn.ensures
    ∙ (turn_of_eight l.r i s c.word-in-loop-k-2.result c.word-in-loop-k.result c.word-in-loop-k-2.ensures c.word-in-loop-k.ensures
    (omega (arith, c.requires)) byte
    ∙ l.invariant))

pub returns : goal.returns
returns c =
    let l = c.loop-k in
    taken_all_lem l.r (4 + 8 * l.k) c.args.s.now (omega (arith, c.requires)) l.invariant
