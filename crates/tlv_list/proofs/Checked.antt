-- The reader with a look inside, over bytes that are no more than are read as a list: where it finds an object, the rest is a list exactly
-- where the bytes from its place on are; where it finds an end they are one, and where it finds none they are not.
-- Assumes nothing.
use mathlib.Core.Path.{◌≡◌, refl, sym, subst, ◌∙◌}
use mathlib.Core.Bool.{true, false}
use mathlib.Core.List.{List}
use Prim.Native.Nat.{ℕ, ◌-◌, ◌≤◌}
use native.Mathlib.Omega.{arith}
use lib.Dec.{eqb}
use lib.ListN.{length, drop, length-take, length-drop}
use Rattle.slices.proofs.Choice.{picked}
use Rattle.tlv_head.specs.Head.{constructed}
use Rattle.tlv_list.specs.Objects.{between, is_list, read_refusal}
use Rattle.tlv_list.specs.Place.{next_at, looked_into, checked_at}
use Rattle.tlv_head.specs.declared.Next.{Next}
use Rattle.tlv_head.specs.declared.Next.TheVariants.{Member, End, Broken}
use Rattle.tlv_list.proofs.Reading.{Ahead, next_ahead}
use Rattle.tlv_list.proofs.Refusals.{checked}
use Rattle.tlv_list.proofs.ListCheck.{check_end, check_broken, check_plain, check_inside, check_outside}

-- what a walk is told at a place
pub data Step (s : List ℕ) (at : ℕ) : Next → Type 0 where
  ended : next_at s at ≡ End → is_list (drop at s) ≡ true → Step s at End
  broke : is_list (drop at s) ≡ false → Step s at Broken
  member : {tag start end : ℕ} → next_at s at ≡ Member tag start end → is_list (drop at s) ≡ is_list (drop end s)
      → Step s at (Member tag start end)

module _ (s : List ℕ) (at : ℕ) (short : length s ≤ 4096) where
  inside : (tag start end : ℕ) → next_at s at ≡ Member tag start end → length (between s start end) ≤ 4096
  unfolding between
  inside tag start end e =
      let ahead = next_ahead s at tag start end e in
      let size = length-take (end - start) (drop start s) in
      let rest = length-drop start s in
      omega arith

  into : (n : Next) → next_at s at ≡ n → Step s at (looked_into s n)
  unfolding looked_into
  into (Member tag start end) e =
      let v = between s start end in
      let asked = checked v (inside tag start end e) in
      picked (Step s at) (constructed tag) _ (Member tag start end)
      (λ c.
      picked (Step s at) (eqb (read_refusal v) 0) (Member tag start end) Broken
      (λ y. member e (check_inside s at tag start end e c (sym asked ∙ y)))
      (λ n. broke (check_outside s at tag start end e c (sym asked ∙ n))))
      (λ c. member e (check_plain s at tag start end e c))
  into End e = ended e (check_end s at e)
  into Broken e = broke (check_broken s at e)

  pub step : Step s at (checked_at s at)
  unfolding checked_at
  step = into (next_at s at) refl

  checked_end : Step s at End → (next_at s at ≡ End) × (is_list (drop at s) ≡ true)
  checked_end (ended e i) = (e, i)

  checked_broken : Step s at Broken → is_list (drop at s) ≡ false
  checked_broken (broke i) = i

  checked_member : (tag start end : ℕ) → Step s at (Member tag start end)
      → (next_at s at ≡ Member tag start end) × (is_list (drop at s) ≡ is_list (drop end s))
  checked_member tag start end (member e i) = (e, i)

  pub on_end : checked_at s at ≡ End → (next_at s at ≡ End) × (is_list (drop at s) ≡ true)
  on_end e = checked_end (subst (Step s at) e step)

  pub on_broken : checked_at s at ≡ Broken → is_list (drop at s) ≡ false
  on_broken e = checked_broken (subst (Step s at) e step)

  pub on_member : (tag start end : ℕ) → checked_at s at ≡ Member tag start end
      → (next_at s at ≡ Member tag start end) × (is_list (drop at s) ≡ is_list (drop end s))
  on_member tag start end e = checked_member tag start end (subst (Step s at) e step)

-- what is found lies ahead, for any bytes
looked_ahead : (s : List ℕ) (at : ℕ) (n : Next) → next_at s at ≡ n → (tag start end : ℕ) → looked_into s n ≡ Member tag start end
    → Ahead at start end (length s)
unfolding looked_into
looked_ahead s at (Member t a z) e tag start end =
    let found : Member t a z ≡ Member tag start end → Ahead at start end (length s) = λ f. next_ahead s at tag start end (e ∙ f) in
    picked (λ n. n ≡ Member tag start end → Ahead at start end (length s)) (constructed t) _ (Member t a z)
    (λ c.
    picked (λ n. n ≡ Member tag start end → Ahead at start end (length s)) (eqb (read_refusal (between s a z)) 0) (Member t a z) Broken
    (λ y. found)
    (λ n f. absurd (let z : ◌≡◌ {A = ℕ} 0 1 = cc in omega arith)))
    (λ c. found)
looked_ahead s at End e tag start end = λ f. absurd (let z : ◌≡◌ {A = ℕ} 0 1 = cc in omega arith)
looked_ahead s at Broken e tag start end = λ f. absurd (let z : ◌≡◌ {A = ℕ} 0 1 = cc in omega arith)

pub checked_ahead : (s : List ℕ) (at tag start end : ℕ) → checked_at s at ≡ Member tag start end → Ahead at start end (length s)
unfolding checked_at
checked_ahead s at tag start end e = looked_ahead s at (next_at s at) refl tag start end e
