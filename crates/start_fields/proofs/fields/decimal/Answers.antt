-- `start_fields::fields::decimal` meets its contract. The loop's invariant: the number so far, continued by what is left, is the
-- whole; and it stays below what as many bytes of halves 15 come to, three times which is 5 * 100 ^ i - 5. Assumes nothing.
use mathlib.Core.Path.{◌≡◌, refl, sym, ap, ◌∙◌}
use mathlib.Core.List.{List}
use Prim.Native.Nat.{ℕ, ◌+◌, ◌*◌, ◌^◌, ◌≤◌, ◌<◌}
use native.Mathlib.Nat.{pow-succ', pow-le-pow_right}
use native.Mathlib.Numerals.{add-one}
use native.Mathlib.Omega.{arith}
use lib.Dec.{lit<}
use lib.ListN.{length, drop, get_or, drop_of_length-le}
use lib.Seq.{drop-cons}
use Rattle.decimal_dates.specs.Decimal.{two_digits, decimal_from, decimal}
use Rattle.start_fields.proofs.fields.decimal.Goals as goal

-- one byte more
turn : (s : List ℕ) (n i : ℕ) → i < length s → decimal_from n (drop i s)
    ≡ decimal_from (n * 100 + two_digits (get_or s i 0)) (drop (i + 1) s)
unfolding decimal_from
turn s n i h = rw (add-one, drop-cons s i 0)

end : (s : List ℕ) (n i : ℕ) → length s ≤ i → decimal_from n (drop i s) ≡ n
unfolding decimal_from
end s n i h = ap (decimal_from n) (drop_of_length-le s h)

six : (i : ℕ) → i ≤ 6 → 100 ^ i ≤ 1000000000000
six i h = pow-le-pow_right (lit< tt) h

next : (i : ℕ) → 100 ^ (i + 1) ≡ 100 * 100 ^ i
next i = ap (λ (k : ℕ). 100 ^ k) (add-one i) ∙ pow-succ' 100 i

pub loop-b-init : goal.loop-b-init
unfolding decimal
loop-b-init c = (omega arith, refl)

pub overflow_mul-n : goal.overflow_mul-n
overflow_mul-n c = omega (arith, six c.loop-b.b-index (omega arith))

pub overflow_add-n : goal.overflow_add-n
overflow_add-n c =
    let i = c.loop-b.b-index in
    omega (arith, six i (omega arith), c.type_inv.s i, c.two_digits.ensures)

pub loop-b-preserved : goal.loop-b-preserved
loop-b-preserved c =
    let s = c.args.s.now in
    let l = c.loop-b in
    let i = l.b-index in
    let bound : 3 * (l.n * 100 + c.two_digits.result) + 5 ≤ 5 * 100 ^ (i + 1) =
    omega (arith, next i, c.type_inv.s i, c.two_digits.ensures) in (
      bound,
      ap (λ (d : ℕ). decimal_from (l.n * 100 + d) (drop (i + 1) s)) (c.two_digits.ensures ∙ ap two_digits c.from.ensures)
          ∙ (sym (turn s l.n i (omega arith)) ∙ l.invariant.1),
    )

pub returns : goal.returns
returns c =
    let l = c.loop-b in (
      sym (end c.args.s.now l.n l.b-index (omega arith)) ∙ l.invariant.1,
      omega (arith, six l.b-index (omega arith)),
    )
