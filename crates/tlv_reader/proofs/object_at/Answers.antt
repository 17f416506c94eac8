-- `object_at` meets its contract. The loop's invariant: what stands there after the steps that are left is what was asked for.
-- Assumes nothing.
use mathlib.Core.Path.{◌≡◌, refl, sym, ap, ◌∙◌}
use mathlib.Core.List.{List}
use Prim.Native.Nat.{ℕ, zero, suc, ◌+◌, ◌-◌, ◌<◌}
use native.Mathlib.Omega.{arith}
use Rattle.tlv_list.specs.Place.{next_at}
use Rattle.tlv_head.specs.declared.Next.TheVariants.{Member, End, Broken}
use Rattle.tlv_reader.specs.Held.{go_on, place_after, nth_from}
use Rattle.tlv_reader.proofs.object_at.Goals as goal

module _ (s : List ℕ) (at : ℕ) where
  -- a reader that finds no object stays, so further steps change nothing
  stays : (k : ℕ) → place_after s at ≡ at → nth_from k s at ≡ next_at s at
  unfolding nth_from
  stays zero e = refl
  stays (suc k) e = ap (nth_from k s) e ∙ stays k e

  at_end_lem : (k : ℕ) → End ≡ next_at s at → End ≡ nth_from k s at
  unfolding place_after go_on
  at_end_lem k e = e ∙ sym (stays k (ap (go_on at) (sym e)))

  broken : (k : ℕ) → Broken ≡ next_at s at → Broken ≡ nth_from k s at
  unfolding place_after go_on
  broken k e = e ∙ sym (stays k (ap (go_on at) (sym e)))

  -- one step, and then one fewer is left
  step : (n i tag start end : ℕ) → i < n → Member tag start end ≡ next_at s at → nth_from (n - (i + 1)) s end ≡ nth_from (n - i) s at
  unfolding nth_from place_after go_on
  step n i tag start end h e =
      let left : n - i ≡ suc (n - (i + 1)) = omega arith in
      ap (λ p. nth_from (n - (i + 1)) s (go_on at p)) e ∙ ap (λ (k : ℕ). nth_from k s at) (sym left)

pub returns-in-End : goal.returns-in-End
returns-in-End c =
    let a = c.args in
    let l = c.loop in
    at_end_lem a.s.now l.at (a.n - l.counter) (sym c.in-End.is ∙ c.next_from.ensures) ∙ l.invariant

pub returns-in-Broken : goal.returns-in-Broken
returns-in-Broken c =
    let a = c.args in
    let l = c.loop in
    broken a.s.now l.at (a.n - l.counter) (sym c.in-Broken.is ∙ c.next_from.ensures) ∙ l.invariant

pub loop-preserved : goal.loop-preserved
loop-preserved c =
    let a = c.args in
    let l = c.loop in
    let found = sym c.in-Member.is ∙ c.next_from.ensures in
    step a.s.now l.at a.n l.counter _ _ _ (omega arith) found ∙ l.invariant

pub returns : goal.returns
unfolding nth_from
returns c =
    let a = c.args in
    let l = c.loop in
    let none_left : a.n - l.counter ≡ 0 = omega arith in
    c.next_from-2.ensures ∙ (sym (ap (λ (k : ℕ). nth_from k a.s.now l.at) none_left) ∙ l.invariant)
