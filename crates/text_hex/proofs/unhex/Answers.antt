-- `text_hex::unhex` meets its contract. The loop's invariant: the first n bytes that the text stands for are in their
-- place, and the text from character 2 n on stands for the others. Assumes nothing.
use mathlib.Core.Path.{◌≡◌, refl, sym, ap, ap₂, ◌∙◌}
use mathlib.Core.List.{List, ◌∷◌}
use Prim.Native.Nat.{ℕ, ◌+◌, ◌*◌, zero-le}
use native.Mathlib.Omega.{arith}
use lib.ListN.{length, get_or, drop, set, length-set, length-drop}
use lib.Seq.{paste-zero}
use Rattle.text_hex.specs.Digits.{pair, unhexed, unhexed_for}
use Rattle.text_hex.proofs.Extra.{one_copied, copied, next_within, next_value, next_rest}
use Rattle.text_hex.proofs.Reading.{pair_read, pair_missing}
use Rattle.text_hex.proofs.unhex.Goals as goal

pub loop-n-init : goal.loop-n-init
loop-n-init c =
    let a = c.args in
    (zero-le, refl, refl, paste-zero a.dst.now 0 (unhexed a.src.now))

pub returns-then-value-eq256 : goal.returns-then-value-eq256
unfolding unhexed_for
returns-then-value-eq256 c =
    let told : c.pair_of-value.result ≡ pair (get_or c.args.src.now (2 * c.loop-n.n) 0) (get_or c.args.src.now (2 * c.loop-n.n + 1) 0) =
    c.pair_of-value.ensures.0 ∙ ap₂ pair c.byte.ensures.0 c.byte-in-loop-n.ensures.0
    in
    let a = c.args in
    let l = c.loop-n in
    let rest = l.invariant.2 ∙ pair_missing a.src.now l.n c.pair_of-value.result (told) c.if-value-eq256.true in
    let long = sym (length-drop l.n (unhexed a.src.now)) ∙ ap length rest in
    let all = copied (unhexed a.src.now) a.dst.now l.n (omega arith) in
    record { size = (all.0, omega arith); bytes = l.invariant.3 ∙ all.1 }

pub loop-n-preserved : goal.loop-n-preserved
loop-n-preserved c =
    let told : c.pair_of-value.result ≡ pair (get_or c.args.src.now (2 * c.loop-n.n) 0) (get_or c.args.src.now (2 * c.loop-n.n + 1) 0) =
    c.pair_of-value.ensures.0 ∙ ap₂ pair c.byte.ensures.0 c.byte-in-loop-n.ensures.0
    in
    let a = c.args in
    let l = c.loop-n in
    let v = c.pair_of-value.result in
    let u = unhexed a.src.now in
    let r = unhexed (drop (2 * (l.n + 1)) a.src.now) in
    let rest : drop l.n u ≡ v ∷ r = l.invariant.2 ∙ pair_read a.src.now l.n v (told) (omega arith) in
    let within = next_within u l.n v r rest in (
      omega arith,
      simp length-set (omega arith),
      next_rest u l.n v r rest,
      ap₂ (λ (d : List ℕ) (x : ℕ). set d l.n x) l.invariant.3 (sym (next_value u l.n v r rest))
          ∙ one_copied u a.dst.now l.n (omega arith) within,
    )

pub returns : goal.returns
unfolding unhexed_for
returns c =
    let a = c.args in
    let l = c.loop-n in
    let all = copied (unhexed a.src.now) a.dst.now l.n (omega arith) in
    record { size = (omega (arith, all.0), omega arith); bytes = l.invariant.3 ∙ all.1 }
