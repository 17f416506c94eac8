-- The rules are given in the order of the characters: of any capture, the places of the rules that are broken never fall. The interface
-- characters stand one behind the other, and so do the first fifteen lines; where the capture is cut before their end, a rule is broken
-- only of a character that is there, or up to the cut. Behind them the end's characters are in order, and LONG stands at 33 among them.
-- Assumes nothing.
use mathlib.Core.Path.{◌≡◌, refl, sym, ap, ◌∙◌}
use mathlib.Core.Bool.{Bool, true, false, ◌&&◌, ◌||◌, not}
use mathlib.Core.List.{List, [], ◌∷◌, ◌++◌}
use Rattle.std.proofs.Common.{Option, None, Some}
use Prim.Native.Nat.{ℕ, ◌/◌, ◌%◌, ◌^◌, ◌≤◌, ◌<◌}
use native.Mathlib.Omega.{arith}
use lib.Dec.{leb, ltb, eqb}
use borrow.Author.Tests.{leb-true, ltb-true, ltb-false, le-leb, lt-ltb, le-ltb, ne_eqb}
use Rattle.slices.proofs.Choice.{pick_yes, pick_no, either, and_left, and_right, and_both}
use Rattle.atr_characters.specs.Levels.{value, named}
use Rattle.atr_characters.specs.declared.Located.{Located}
use Rattle.atr_rules.specs.Names.{TS}
use Rattle.atr_rules.specs.Tests.{is_absent, is_there, is_other, bit5, guard_and_one}
use Rattle.atr_rules.specs.Lines.{Line, line, is_long, first_lines, second_lines, third_lines, last_lines}
use Rattle.atr_laws.specs.Order.{places_given, never_falls}

abbrev pub Rises : ℕ → List Line → Type 0
Rises low xs = never_falls low (places_given xs) ≡ true

lower : (low high : ℕ) (ps : List ℕ) → low ≤ high → never_falls high ps ≡ true → never_falls low ps ≡ true
unfolding never_falls
lower low high [] h r = refl
lower low high (p ∷ ps) h r =
    let first = leb-true high p (and_left (leb high p) (never_falls p ps) r) in
    and_both (leb low p) (never_falls p ps) (le-leb low p (omega arith)) (and_right (leb high p) (never_falls p ps) r)

-- a line that is not broken gives nothing
skip : (low : ℕ) (x : Line) (xs : List Line) → x.broken ≡ false → Rises low xs → Rises low (x ∷ xs)
unfolding places_given
skip low x xs e r = ap (never_falls low) (pick_no x.broken _ _ e) ∙ r

-- a line whose place is no lower, broken or not
stair : (low : ℕ) (x : Line) (xs : List Line) → low ≤ x.place → Rises x.place xs → Rises low (x ∷ xs)
unfolding places_given never_falls
stair low x xs h r =
    either x.broken
    (λ y. ap (never_falls low) (pick_yes x.broken _ _ y) ∙ and_both (leb low x.place) _ (le-leb low x.place h) r)
    (λ n. skip low x xs n (lower low x.place (places_given xs) h r))

-- every rule that is broken stands at a place or before it
pub data UpTo (m : ℕ) : List Line → Type 0 where
  none : UpTo m []
  more : (x : Line) (xs : List Line) → (x.broken ≡ true → x.place ≤ m) → UpTo m xs → UpTo m (x ∷ xs)

up_to : (m : ℕ) (x : Line) (xs : List Line) → (x.broken ≡ true → x.place ≤ m) → UpTo m xs → UpTo m (x ∷ xs)
up_to m x xs h u = more x xs h u

-- what follows rises from there on
pub joined : (low m : ℕ) (xs ys : List Line) → low ≤ m → Rises low xs → UpTo m xs → Rises m ys → Rises low (xs ++ ys)
unfolding places_given never_falls
joined low m [] ys h r none s = lower low m (places_given ys) h s
joined low m (x ∷ xs) ys h r (more x' xs' up u) s =
    either x.broken
    (λ y.
    let both : (leb low x.place && never_falls x.place (places_given xs)) ≡ true
    = sym (ap (never_falls low) (pick_yes x.broken _ _ y)) ∙ r in
    stair low x (xs ++ ys) (leb-true low x.place (and_left _ (never_falls x.place (places_given xs)) both))
    (joined x.place m xs ys (up y) (and_right (leb low x.place) _ both) u s))
    (λ n.
    let rest = sym (ap (never_falls low) (pick_no x.broken _ _ n)) ∙ r in
    skip low x (xs ++ ys) n (joined low m xs ys h rest u s))

no_right : (a b : Bool) → b ≡ false → (a && b) ≡ false
no_right true b e = e
no_right false b e = refl

no_left : (a b : Bool) → a ≡ false → (a && b) ≡ false
no_left a b e = ap (λ (t : Bool). t && b) e

no_more : (low : ℕ) → Rises low []
unfolding places_given never_falls
no_more low = refl

module _ (l : Located) (low : ℕ) (ends : l.end ≤ l.after) where
  -- a capture that is cut: CUT at its end, and LONG before it where that is beyond 33
  pub cut_rises : l.size < l.end → low ≤ l.size → low ≤ 33 → Rises low (last_lines l)
  unfolding last_lines is_long
  cut_rises cut h k =
      let size = l.size in
      let end = l.end in
      let tck_absent = no_right l.due (eqb size end) (ne_eqb size end (λ e. omega arith)) in
      let tck = no_left _ (not (eqb l.joined 0)) (no_right l.due (ltb end size) (le-ltb end size (omega arith))) in
      let extra = le-ltb l.after size (omega arith) in
      either (ltb 33 size)
      (λ long.
      let far = ltb-true 33 size long in
      let beyond : not (ltb 33 end) ≡ false = ap not (lt-ltb 33 end (omega arith)) in
      let there = no_right (ltb 33 size) (not (ltb 33 end)) beyond in
      stair low _ _ k
      (stair 33 _ _ (omega arith)
      (skip size _ _ tck_absent
      (skip size _ _ tck
      (skip size _ _ (no_left _ (ltb 33 l.after) there)
      (skip size _ _ extra (skip size _ _ (no_left _ (not (ltb 33 l.after)) there) (no_more size))))))))
      (λ short.
      skip low _ _ (no_left _ (ltb 33 end) short)
      (stair low _ _ h
      (skip size _ _ tck_absent
      (skip size _ _ tck
      (skip size _ _ (no_left _ (ltb 33 l.after) (no_left _ (not (ltb 33 end)) short))
      (skip size _ _ extra (skip size _ _ (no_left _ (not (ltb 33 l.after)) (no_left _ (not (ltb 33 end)) short)) (no_more size))))))))

  -- a capture that is whole: TCK and what follows it, and LONG at 33 before, between or behind them
  pub whole_rises : l.end ≤ l.size → low ≤ l.end → low ≤ 33 → Rises low (last_lines l)
  unfolding last_lines is_long
  whole_rises whole h k =
      let size = l.size in
      let end = l.end in
      let after = l.after in
      let cut = le-ltb size end whole in
      either (ltb 33 end)
      (λ beyond.
      let far = ltb-true 33 end beyond in
      let not_there = no_right (ltb 33 size) (not (ltb 33 end)) (ap not beyond) in
      stair low _ _ k
      (skip 33 _ _ cut
      (stair 33 _ _ (omega arith)
      (stair end _ _ (omega arith)
      (skip end _ _ (no_left _ (ltb 33 after) not_there)
      (stair end _ _ ends (skip after _ [] (no_left _ (not (ltb 33 after)) not_there) (no_more after))))))))
      (λ there.
      let near = ltb-false 33 end there in
      skip low _ _ (no_right (ltb 33 size) (ltb 33 end) there)
      (skip low _ _ cut
      (stair low _ _ h
      (stair end _ _ (omega arith)
      (either (ltb 33 after)
      (λ between.
      let far = ltb-true 33 after between in
      stair end _ _ near
      (stair 33 _ _ (omega arith)
      (skip after _ [] (no_right (ltb 33 size && not (ltb 33 end)) (not (ltb 33 after)) (ap not between)) (no_more after))))
      (λ behind.
      let close = ltb-false 33 after behind in
      skip end _ _ (no_right (ltb 33 size && not (ltb 33 end)) (ltb 33 after) behind)
      (stair end _ _ ends (stair after _ [] close (no_more 33)))))))))

-- the places of the interface characters that rules speak of, in their order
pub record Stairs (l : Located) : Type 0 where
  pub b1 : l.first.a ≤ l.first.b
  pub c1 : l.first.b ≤ l.first.c
  pub d1 : l.first.c ≤ l.first.d
  pub a2 : l.first.d ≤ l.second.a
  pub b2 : l.second.a ≤ l.second.b
  pub c2 : l.second.b ≤ l.second.c
  pub d2 : l.second.c ≤ l.second.d
  pub a3 : l.second.d ≤ l.third.a
  pub b3 : l.third.a ≤ l.third.b
  pub c3 : l.third.b ≤ l.third.c
  pub early : l.third.c ≤ 33

abbrev pub front : Located → Bool → List Line
front l warm = line TS false 0 ∷ first_lines l warm ++ second_lines l ++ third_lines l

module _ (l : Located) (warm : Bool) (s : Stairs l) where
  pub front_rises : Rises 0 (front l warm)
  unfolding first_lines second_lines third_lines
  front_rises =
      let b1 = s.b1 in
      let c1 = s.c1 in
      let d1 = s.d1 in
      let a2 = s.a2 in
      let c2 = s.c2 in
      let d2 = s.d2 in
      let a3 = s.a3 in
      stair 0 _ _ (omega arith)
      (stair 0 _ _ (omega arith)
      (stair l.first.a _ _ (omega arith)
      (stair l.first.b _ _ (omega arith)
      (stair l.first.b _ _ (omega arith)
      (stair l.first.d _ _ (omega arith)
      (stair l.second.a _ _ s.b2
      (stair l.second.b _ _ (omega arith)
      (stair l.second.c _ _ (omega arith)
      (stair l.second.d _ _ (omega arith)
      (stair l.third.a _ _ s.b3
      (stair l.third.b _ _ (omega arith)
      (stair l.third.b _ _ (omega arith)
      (stair l.third.b _ _ (omega arith)
      (stair l.third.b _ [] s.c3 (no_more l.third.c)))))))))))))))

  -- up to TC3
  pub front_before : UpTo l.third.c (front l warm)
  unfolding first_lines second_lines third_lines
  front_before =
      let b1 = s.b1 in
      let c1 = s.c1 in
      let d1 = s.d1 in
      let a2 = s.a2 in
      let b2 = s.b2 in
      let c2 = s.c2 in
      let d2 = s.d2 in
      let a3 = s.a3 in
      let b3 = s.b3 in
      let c3 = s.c3 in
      up_to l.third.c _ _ (λ e. omega arith)
      (up_to l.third.c _ _ (λ e. omega arith)
      (up_to l.third.c _ _ (λ e. omega arith)
      (up_to l.third.c _ _ (λ e. omega arith)
      (up_to l.third.c _ _ (λ e. omega arith)
      (up_to l.third.c _ _ (λ e. omega arith)
      (up_to l.third.c _ _ (λ e. omega arith)
      (up_to l.third.c _ _ (λ e. omega arith)
      (up_to l.third.c _ _ (λ e. omega arith)
      (up_to l.third.c _ _ (λ e. omega arith)
      (up_to l.third.c _ _ (λ e. omega arith)
      (up_to l.third.c _ _ (λ e. omega arith)
      (up_to l.third.c _ _ (λ e. omega arith)
      (up_to l.third.c _ _ (λ e. omega arith) (up_to l.third.c _ _ (λ e. omega arith) none))))))))))))))

-- a character that is there stands in the capture
pub record There (l : Located) : Type 0 where
  pub ta1 : is_there l.first.ta ≡ true → l.first.a < l.size
  pub tb1 : is_there l.first.tb ≡ true → l.first.b < l.size
  pub td1 : is_there l.first.td ≡ true → l.first.d < l.size
  pub ta2 : is_there l.second.ta ≡ true → l.second.a < l.size
  pub tb2 : is_there l.second.tb ≡ true → l.second.b < l.size
  pub tc2 : is_there l.second.tc ≡ true → l.second.c < l.size
  pub td2 : is_there l.second.td ≡ true → l.second.d < l.size
  pub ta3 : is_there l.third.ta ≡ true → l.third.a < l.size
  pub tb3 : is_there l.third.tb ≡ true → l.third.b < l.size
  pub tc3 : is_there l.third.tc ≡ true → l.third.c < l.size

-- of three tests, the first, the one in the middle and the last
one_of : (a b c : Bool) → (a && b && c) ≡ true → a ≡ true
one_of a b c e = and_left a b (and_left (a && b) c e)

two_of : (a b c : Bool) → (a && b && c) ≡ true → b ≡ true
two_of a b c e = and_right a b (and_left (a && b) c e)

three_of : (a b c : Bool) → (a && b && c) ≡ true → c ≡ true
three_of a b c e = and_right (a && b) c e

-- one that is not there names T=0
named_there : (td : Option ℕ) → ltb 1 (named td) ≡ true → is_there td ≡ true
named_there None e = e
named_there (Some x) e = refl

module _ (l : Located) (warm : Bool) (s : Stairs l) (t : There l) where
  -- up to the capture's end
  pub front_inside : UpTo l.size (front l warm)
  unfolding first_lines second_lines third_lines
  front_inside =
      let c1 = s.c1 in
      let c3 = s.c3 in
      let td2 = eqb (named l.second.td) 1 in
      let td1 = eqb (named l.first.td) 1 in
      let ta3 = l.third.ta in
      let tb3 = is_there l.third.tb in
      up_to l.size _ _ (λ e. omega arith)
      (up_to l.size _ _ (λ e. let h = t.ta1 (one_of (is_there l.first.ta) _ _ e) in omega arith)
      (up_to l.size _ _
      (λ e. let h = leb-true l.first.c l.size (three_of (not warm) (is_absent l.first.tb) _ e) in omega arith)
      (up_to l.size _ _
      (λ e. let h = t.tb1 (and_left (is_there l.first.tb) _ (and_right (not warm) (is_other l.first.tb 0) e)) in omega arith)
      (up_to l.size _ _ (λ e. let h = t.td1 (named_there l.first.td e) in omega arith)
      (up_to l.size _ _ (λ e. let h = t.ta2 (and_left (is_there l.second.ta) (eqb (bit5 (value l.second.ta)) 1) e) in omega arith)
      (up_to l.size _ _ (λ e. let h = t.tb2 e in omega arith)
      (up_to l.size _ _ (λ e. let h = t.tc2 (and_left (is_there l.second.tc) (not (eqb (value l.second.tc) 0x0A)) e) in omega arith)
      (up_to l.size _ _ (λ e. let h = t.td2 (one_of (is_there l.second.td) (not (eqb (named l.second.td) 1)) _ e) in omega arith)
      (up_to l.size _ _ (λ e. let h = t.ta3 (two_of td2 (is_there ta3) (ltb (value ta3) 0x10 || eqb (value ta3) 0xFF) e) in omega arith)
      (up_to l.size _ _
      (λ e. let h = leb-true l.third.c l.size (three_of (td2 || td1) (is_absent l.third.tb) _ e) in omega arith)
      (up_to l.size _ _ (λ e. let h = t.tb3 (two_of td2 tb3 (ltb 4 (value l.third.tb / 16)) e) in omega arith)
      (up_to l.size _ _ (λ e. let h = t.tb3 (two_of td2 tb3 (ltb 5 (value l.third.tb % 16)) e) in omega arith)
      (up_to l.size _ _
      (λ e. let h = t.tb3 (two_of td2 tb3 (ltb (2 ^ (value l.third.tb % 16)) (guard_and_one (value l.first.tc))) e) in omega arith)
      (up_to l.size _ [] (λ e. let h = t.tc3 (and_left (is_there l.third.tc) _ (and_right td2 (is_other l.third.tc 0) e)) in omega arith)
      none))))))))))))))
