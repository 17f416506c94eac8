-- The rules are given in the order of the characters: of any capture, the places of the rules that are broken never fall. The characters
-- of a level stand one behind the other, each level behind the one before it, and the end behind the third level.
-- Assumes nothing.
use mathlib.Core.Path.{◌≡◌, refl, ap, ◌∙◌}
use mathlib.Core.Bool.{Bool, true, false}
use mathlib.Core.List.{List, [], ◌∷◌}
use Prim.Native.Nat.{ℕ, zero, suc, ◌+◌, ◌≤◌, ◌<◌}
use native.Mathlib.Omega.{arith}
use lib.Dec.{ltb}
use lib.ListN.{length, get_or}
use borrow.Author.Tests.{ltb-true, ltb-false}
use Rattle.slices.specs.Choice.{pick}
use Rattle.slices.proofs.Choice.{either}
use Rattle.atr_characters.specs.Data.{data_of}
use Rattle.atr_characters.specs.Levels.{value, found_at, level_of, first_of, after_of, interface_of, walked}
use Rattle.atr_characters.specs.Located.{historical_end, located_of}
use Rattle.atr_characters.specs.declared.Level.{Level}
use Rattle.atr_characters.specs.declared.Located.{Located}
use Rattle.atr_rules.specs.Tests.{is_there}
use Rattle.atr_rules.specs.Lines.{first_lines, second_lines, third_lines, last_lines, lines_of}
use Rattle.atr.specs.Reading.{is_inverse, ts_broken, rules_of}
use Rattle.atr_laws.specs.Order.{places_given, never_falls}
use Rattle.atr_laws.proofs.Complete.{level_after, interface_end, there_inside}
use Rattle.atr_laws.proofs.Rising.{Rises, Stairs, There, front, joined, front_rises, front_before, front_inside}
use Rattle.atr_laws.proofs.Rising.{cut_rises, whole_rises}

-- the characters of a level stand one behind the other
level_stairs : (s : List ℕ) (y p : ℕ) → ((level_of s y p).a ≤ (level_of s y p).b) × ((level_of s y p).b ≤ (level_of s y p).c)
    × ((level_of s y p).c ≤ (level_of s y p).d) × ((level_of s y p).d ≤ (level_of s y p).next) × ((level_of s y p).next ≤ p + 4)
unfolding level_of
level_stairs s y p = (omega arith, omega arith, omega arith, omega arith, omega arith)

-- and the next level begins behind it
level_next : (s : List ℕ) (y p : ℕ) → (level_of s y p).a ≡ p
unfolding level_of
level_next s y p = refl

stairs : (s : List ℕ) → Stairs (located_of s)
unfolding located_of first_of after_of
stairs s =
    let first = level_stairs s (get_or s 1 0) 2 in
    let second = level_stairs s (value (first_of s).td) (first_of s).next in
    let third = level_stairs s (value (after_of s (first_of s)).td) (after_of s (first_of s)).next in
    let x1 = first.3 in
    let x2 = first.4 in
    let x3 = second.3 in
    let x4 = second.4 in
    let x5 = third.2 in
    let x6 = third.3 in
    let x7 = third.4 in
    record {
      b1 = first.0;
      c1 = first.1;
      d1 = first.2;
      a2 = omega (arith, level_next s (value (first_of s).td) (first_of s).next);
      b2 = second.0;
      c2 = second.1;
      d2 = second.2;
      a3 = omega (arith, level_next s (value (after_of s (first_of s)).td) (after_of s (first_of s)).next);
      b3 = third.0;
      c3 = third.1;
      early = omega arith;
    }

-- a character that was found stands in the capture
found_there : (s : List ℕ) (bit p : ℕ) → is_there (found_at s bit p) ≡ true → p < length s
found_there s bit p e = (there_inside s bit p e).1

module _ (s : List ℕ) (y p : ℕ) where
  level_there : (is_there (level_of s y p).ta ≡ true → (level_of s y p).a < length s)
      × (is_there (level_of s y p).tb ≡ true → (level_of s y p).b < length s)
      × (is_there (level_of s y p).tc ≡ true → (level_of s y p).c < length s)
      × (is_there (level_of s y p).td ≡ true → (level_of s y p).d < length s)
  unfolding level_of
  level_there = (found_there s _ _, found_there s _ _, found_there s _ _, found_there s _ _)

there : (s : List ℕ) → There (located_of s)
unfolding located_of first_of after_of
there s =
    let first = level_there s (get_or s 1 0) 2 in
    let second = level_there s (value (first_of s).td) (first_of s).next in
    let third = level_there s (value (after_of s (first_of s)).td) (after_of s (first_of s)).next in
    record {
      ta1 = first.0;
      tb1 = first.1;
      td1 = first.3;
      ta2 = second.0;
      tb2 = second.1;
      tc2 = second.2;
      td2 = second.3;
      ta3 = third.0;
      tb3 = third.1;
      tc3 = third.2;
    }

level_rises : (s : List ℕ) (l : Level) → ((after_of s l).c ≤ (after_of s l).d) × ((after_of s l).d ≤ (after_of s l).next)
unfolding after_of
level_rises s l = let up = level_stairs s (value l.td) l.next in (up.2, up.3)

ts_alone : (l : Located) (warm : Bool) → Rises 0 (lines_of true l warm)
unfolding lines_of places_given never_falls pick
ts_alone l warm = refl

-- the end stands behind the third level
module _ (s : List ℕ) where
  next_behind : (n : ℕ) → (level_after n s).next ≤ (level_after (suc n) s).next
  unfolding after_of
  next_behind n =
      let l = level_after n s in
      let up = level_stairs s (value l.td) l.next in
      let start = level_next s (value l.td) l.next in
      let u0 = up.0 in
      let u1 = up.1 in
      let u2 = up.2 in
      let u3 = up.3 in
      omega arith

  third_behind : (k : ℕ) → (level_after 2 s).next ≤ (level_after (suc (suc k)) s).next
  third_behind zero = omega arith
  third_behind (suc k) = let before = third_behind k in let one = next_behind (suc (suc k)) in omega arith

  third_end : (k : ℕ) → length s ≡ suc (suc k) → (located_of s).third.c ≤ (located_of s).end
  unfolding located_of historical_end
  third_end k e =
      let l = level_after 1 s in
      let up = third_stairs in
      let u2 = up.0 in
      let u3 = up.1 in
      let end = interface_end s ∙ ap (λ (n : ℕ). (level_after n s).next) e in
      let behind = third_behind k in
      omega arith
    where
      third_stairs : ((level_after 2 s).c ≤ (level_after 2 s).d) × ((level_after 2 s).d ≤ (level_after 2 s).next)
      third_stairs = level_rises s (level_after 1 s)

-- the place of TC3, there or not, is no further than the end of what is announced
pub third_inside : (s : List ℕ) → (located_of s).third.c ≤ (located_of s).end
unfolding located_of historical_end interface_of walked first_of after_of level_of found_at pick
third_inside [] = omega arith
third_inside (x ∷ []) = omega arith
third_inside (x ∷ y ∷ r) = third_end (x ∷ y ∷ r) (length r) refl

end_after : (s : List ℕ) → (located_of s).end ≤ (located_of s).after
unfolding located_of
end_after s = omega arith

-- every capture's lines, TS in order: what is broken rises
lines_rise : (s : List ℕ) (warm : Bool) → Rises 0 (lines_of false (located_of s) warm)
unfolding lines_of first_lines second_lines third_lines pick
lines_rise s warm =
    let l = located_of s in
    let st = stairs s in
    let inside = third_inside s in
    let early = st.early in
    either (ltb l.size l.third.c)
    (λ e.
    let cut = ltb-true l.size l.third.c e in
    joined 0 l.size (front l warm) (last_lines l) (omega arith) (front_rises l warm st) (front_inside l warm st (there s))
    (cut_rises l l.size (end_after s) (omega arith) (omega arith) (omega arith)))
    (λ e.
    let far = ltb-false l.size l.third.c e in
    joined 0 l.third.c (front l warm) (last_lines l) (omega arith) (front_rises l warm st) (front_before l warm st)
    (either (ltb l.size l.end)
    (λ c. cut_rises l l.third.c (end_after s) (ltb-true l.size l.end c) far early)
    (λ w. whole_rises l l.third.c (end_after s) (ltb-false l.size l.end w) inside early)))

-- 02, R-1: the rules that a capture breaks are given in the order of their characters
pub in_order : (capture : List ℕ) (warm : Bool) → never_falls 0 (places_given (rules_of capture warm)) ≡ true
unfolding rules_of
in_order capture warm = by_ts (ts_broken capture)
  where
    s : List ℕ
    s = data_of (is_inverse capture) capture

    by_ts : (ts : Bool) → never_falls 0 (places_given (lines_of ts (located_of s) warm)) ≡ true
    by_ts true = ts_alone (located_of s) warm
    by_ts false = lines_rise s warm
