-- `decide_tvr::bits::join` meets its contract: two rows of as many bytes joined are their bytes joined one by one.
-- Assumes nothing.
use Rattle.std.proofs.Common.{◌≡◌, ◌≢◌, ℕ, ◌<◌, sym, ap, ◌∙◌, length, get_or, rules, below_more, get_or-set_other, get_or-set_same, length-set}
use Rattle.std.proofs.lemmas.Grind.{same_number_lists}
use native.Mathlib.Omega.{arith}
use lib.Bits.{bit_or}
use Rattle.decide_tvr.specs.Bits.{joined}
use Rattle.decide_tvr.proofs.Rows.{joined_length, joined_at}
use Rattle.decide_tvr.proofs.bits.join.Goals as goal

pub returns : goal.returns
returns g c =
    let l = c.loop-i in
    let a = c.args.a in
    let b = c.args.b in
    let size : length a ≡ length b = search rules in
    let whole = joined_length a b size in
    same_number_lists l.all (joined a b) (l.invariant.2 ∙ sym whole) (λ k h. l.invariant.0 k (omega arith) ∙ sym (joined_at a b k))

pub loop-i-preserved : goal.loop-i-preserved
loop-i-preserved g c =
    let l = c.loop-i in
    let i = l.i in
    let b = c.args.b in
    let size : length c.args.a ≡ g.row.N = search rules in
    let inside : i < length l.all = omega (arith, size) in (
      below_more _ _
          (λ k h. let other : k ≢ i = omega arith in rw get_or-set_other (l.invariant.0 k h))
          (rw get_or-set_same (ap (λ (n : ℕ). bit_or n (get_or b i 0)) (l.invariant.1 i (omega arith)))),
      λ k h. let other : k ≢ i = omega arith in rw get_or-set_other (l.invariant.1 k (omega arith)),
      rw length-set l.invariant.2,
    )
