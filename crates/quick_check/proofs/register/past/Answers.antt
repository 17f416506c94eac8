-- `quick_check::register::past` meets its contract. The loop's invariant: what is joined is what the register's bits from the top down to
-- k leave. Assumes nothing.
use mathlib.Core.Path.{◌≡◌, sym, ap, ap₂, subst, ◌∙◌}
use Prim.Native.Nat.{ℕ, suc, ◌+◌, ◌*◌, ◌/◌, ◌%◌, ◌^◌, ◌<◌, ◌-◌}
use native.Mathlib.Omega.{arith}
use lib.Bits.{bit_xor}
use lib.ListN.{get_or}
use lib.Pow.{pow-lt}
use Rattle.tape_crc.specs.Check.{divided}
use Rattle.tape_crc.proofs.Division.{divided_below}
use Rattle.tape_crc.proofs.Parts.{nothing_left, bit_below_32, bit_more}
use Rattle.quick_check.specs.Tables.{step}
use Rattle.quick_check.proofs.Passing.{behind_at}
use Rattle.quick_check.proofs.register.past.Goals as goal

pub loop-k-init : goal.loop-k-init
loop-k-init c =
    let n = 8 * (step * c.args.times) in
    let none : c.args.register / 2 ^ 32 * 2 ^ 32 ≡ 0 = omega arith in
    (omega arith, sym (ap (divided n) none ∙ nothing_left n))

pub overflow_mul-r-in-loop-k : goal.overflow_mul-r-in-loop-k
overflow_mul-r-in-loop-k c =
    let k = c.loop-k.k - 1 in
    let left = get_or c.args.stored.behind.now (32 * c.args.times + k) 0 in
    let at = behind_at c.args.stored.passing c.args.times k c.requires (omega arith) in
    let fits = divided_below (8 * (step * c.args.times)) (2 ^ k) (pow-lt {i = k} {j = 32} (omega arith)) in
    let small : left < 2 ^ 32 = subst (λ (x : ℕ). x < 2 ^ 32) (sym at) fits in
    omega (arith, bit_below_32 (c.args.register / 2 ^ k % 2) left (omega arith) small)

pub loop-k-preserved : goal.loop-k-preserved
loop-k-preserved c =
    let l = c.loop-k in
    let x = c.args.register in
    let n = 8 * (step * c.args.times) in
    let k = l.k - 1 in
    let one_on : suc k ≡ l.k = omega arith in
    let left = behind_at c.args.stored.passing c.args.times k c.requires (omega arith) in (
      omega arith,
      ap₂ bit_xor (l.invariant.1 ∙ ap (λ (k : ℕ). divided n (x / 2 ^ k * 2 ^ k)) (sym one_on)) (ap (λ (y : ℕ). x / 2 ^ k % 2 * y) left)
          ∙ sym (bit_more n x k),
    )

pub returns : goal.returns
returns c =
    let l = c.loop-k in
    let x = c.args.register in
    let n = 8 * (step * c.args.times) in
    let done : l.k ≡ 0 = omega arith in
    let all : x / 1 * 1 ≡ x = omega arith in
    l.invariant.1 ∙ (ap (λ (k : ℕ). divided n (x / 2 ^ k * 2 ^ k)) done ∙ ap (divided n) all)
