-- A level that announces anything was itself read inside the capture, so that no level ends more than four places past the
-- capture's end; and going on by one level is one step of the walk.
-- Assumes nothing.
use mathlib.Core.Path.{◌≡◌, sym, ap, subst, ◌∙◌}
use mathlib.Core.Bool.{Bool, ◌||◌}
use mathlib.Core.List.{List, [], ◌∷◌}
use Rattle.std.proofs.Common.{Option}
use Prim.Native.Nat.{ℕ, suc, ◌+◌, ◌-◌, ◌/◌, ◌%◌, ◌≤◌, ◌<◌}
use native.Mathlib.Omega.{arith}
use lib.Dec.{eqb, ltb}
use lib.ListN.{length, get_or, take, drop}
use borrow.Author.Tests.{eqb-true, eqb-false, ltb-true}
use Rattle.slices.proofs.Choice.{picked, either}
use Rattle.atr_characters.specs.Data.{joined_from, one_if}
use Rattle.atr_characters.specs.Levels.{value, found_at, level_of, first_of, after_of, names_other, walked, interface_of}
use Rattle.atr_characters.specs.Located.{historical_end, located_of}
use Rattle.atr_characters.specs.declared.Level.{Level}
use Rattle.atr_characters.specs.declared.Interface.{Interface}
use Rattle.atr_characters.specs.declared.Located.{Located}

-- a bit map, and the place from which on it announces
pub record Reach (s : List ℕ) (y p : ℕ) : Type 0 where
  pub near : p ≤ length s + 4
  pub inside : 0 < y → p ≤ length s

-- a character that says something was announced, and its place is in the capture
pub found_inside : (s : List ℕ) (bit p : ℕ) → 0 < value (found_at s bit p) → (bit ≡ 1) × (p < length s)
unfolding found_at
found_inside s bit p =
    picked (λ (x : Option ℕ). 0 < value x → (bit ≡ 1) × (p < length s)) (eqb bit 1) _ _
    (λ e. picked (λ (x : Option ℕ). 0 < value x → (bit ≡ 1) × (p < length s)) (ltb p (length s)) _ _
    (λ f h. (eqb-true bit 1 e, ltb-true p (length s) f)) (λ f h. absurd (omega arith)))
    (λ e h. absurd (omega arith))

pub level_reach : (s : List ℕ) (y p : ℕ) → Reach s y p → Reach s (value (level_of s y p).td) (level_of s y p).next
unfolding level_of
level_reach s y p r = record {
  near = either (eqb y 0)
      (λ e. let none = eqb-true y 0 e in let n = r.near in omega arith)
      (λ e. let some = eqb-false y 0 e in let n = r.inside (omega (arith, some)) in omega arith);
  inside = λ h. let there = found_inside s (y / 128 % 2) _ h in let one = there.0 in let in' = there.1 in omega arith;
}

past : (s : List ℕ) → 0 < get_or s 1 0 → 2 ≤ length s
past [] h = absurd (omega arith)
past (a ∷ []) h = absurd (omega arith)
past (a ∷ b ∷ s) h = omega arith

pub first_reach : (s : List ℕ) → Reach s (get_or s 1 0) 2
first_reach s = record { near = omega arith; inside = past s }

-- so reaches the first level, and each level behind one that does
abbrev pub Reaches : List ℕ → Level → Type 0
Reaches s l = Reach s (value l.td) l.next

pub first_reaches : (s : List ℕ) (t0 : ℕ) (l : Level) → t0 ≡ get_or s 1 0 → l ≡ level_of s t0 2 → Reaches s l
first_reaches s t0 l e made = subst (Reaches s) (sym (made ∙ ap (λ (y : ℕ). level_of s y 2) e)) (level_reach s _ 2 (first_reach s))

pub next_reaches : (s : List ℕ) (before l : Level) (td : ℕ)
    → Reaches s before → td ≡ value before.td → l ≡ level_of s td before.next → Reaches s l
next_reaches s before l td r e made =
    subst (Reaches s) (sym (made ∙ ap (λ (y : ℕ). level_of s y before.next) e)) (level_reach s _ _ r)

-- one level on
pub walked_on : (s : List ℕ) (l : Level) (other : Bool) (n i : ℕ) → i < n
    → walked (n - i) s l other ≡ walked (n - (i + 1)) s (after_of s l) (other || names_other (after_of s l).td)
unfolding walked
walked_on s l other n i h = let more : n - i ≡ suc (n - (i + 1)) = omega arith in ap (λ (k : ℕ). walked k s l other) more

pub walked_end : (s : List ℕ) (l : Level) (other : Bool) (n : ℕ) → walked (n - n) s l other ≡ record { next = l.next; other = other }
unfolding walked
walked_end s l other n = let none : n - n ≡ 0 = omega arith in ap (λ (k : ℕ). walked k s l other) none

-- a level put together from its characters
pub level_made : (s : List ℕ) (y p : ℕ) (ta tb tc td : Option ℕ)
    → ta ≡ (level_of s y p).ta → tb ≡ (level_of s y p).tb → tc ≡ (level_of s y p).tc → td ≡ (level_of s y p).td
    → ◌≡◌ {A = Level} (record {
      ta = ta;
      tb = tb;
      tc = tc;
      td = td;
      a = (level_of s y p).a;
      b = (level_of s y p).b;
      c = (level_of s y p).c;
      d = (level_of s y p).d;
      next = (level_of s y p).next;
    }) (level_of s y p)
level_made s y p ta tb tc td e f g h = rw (e, f, g, h)

-- what was located, put together from its parts
pub located_made : (s : List ℕ) (n t0 j o : ℕ) (first second third : Level) (all : Interface)
    → n ≡ length s
    → t0 ≡ get_or s 1 0
    → first ≡ level_of s t0 2
    → second ≡ level_of s (value first.td) first.next
    → third ≡ level_of s (value second.td) second.next
    → all ≡ interface_of s
    → o ≡ one_if all.other
    → j ≡ joined_from 0 (take (all.next + t0 % 16) (drop 1 s))
    → ◌≡◌ {A = Located} (record {
      size = n;
      first = first;
      second = second;
      third = third;
      start = all.next;
      end = all.next + t0 % 16;
      due = all.other;
      after = all.next + t0 % 16 + o;
      joined = j;
    }) (located_of s)
unfolding located_of historical_end after_of first_of
located_made s n t0 j o first second third all eₙ e₀ e₁ e₂ e₃ w eₒ eⱼ = rw (eⱼ, eₒ, e₃, e₂, e₁, w, e₀, eₙ)
