-- Going on once for each byte of the capture passes every level: a TD that is there stands behind the one before it, so that there
-- are fewer of them than bytes.
-- Assumes nothing.
use mathlib.Core.Path.{◌≡◌, refl, sym, ap, ◌∙◌}
use mathlib.Core.Bool.{Bool, true, false, false≢true}
use mathlib.Core.List.{List}
use Rattle.std.proofs.Common.{Option, None, Some, is_some}
use Prim.Native.Nat.{ℕ, zero, suc, ◌+◌, ◌/◌, ◌%◌, ◌≤◌, ◌<◌}
use native.Mathlib.Omega.{arith}
use lib.Dec.{eqb, ltb}
use lib.ListN.{length, get_or}
use borrow.Author.Tests.{eqb-true, ltb-true}
use Rattle.slices.proofs.Choice.{picked, either}
use Rattle.atr_characters.specs.Levels.{value, found_at, level_of, first_of, after_of, walked, interface_of}
use Rattle.atr_characters.specs.declared.Level.{Level}

-- the level after n others
abbrev pub level_after : ℕ → List ℕ → Level
level_after zero s = first_of s
level_after (suc n) s = after_of s (level_after n s)

-- a character that is there was announced, and its place is in the capture
pub there_inside : (s : List ℕ) (bit p : ℕ) → is_some (found_at s bit p) ≡ true → (bit ≡ 1) × (p < length s)
unfolding found_at
there_inside s bit p =
    picked (λ (x : Option ℕ). is_some x ≡ true → (bit ≡ 1) × (p < length s)) (eqb bit 1) _ _
    (λ e. picked (λ (x : Option ℕ). is_some x ≡ true → (bit ≡ 1) × (p < length s)) (ltb p (length s)) _ _
    (λ f h. (eqb-true bit 1 e, ltb-true p (length s) f)) (λ f h. absurd (false≢true h)))
    (λ e h. absurd (false≢true h))

-- where a level's TD is there: the level was announced, and the next begins behind that TD, in the capture or at its end
level_there : (s : List ℕ) (y p : ℕ) → is_some (level_of s y p).td ≡ true
    → (0 < y) × (p + 1 ≤ (level_of s y p).next) × ((level_of s y p).next ≤ length s)
unfolding level_of
level_there s y p h =
    let t = there_inside s (y / 128 % 2) _ h in
    let one = t.0 in
    let inside = t.1 in
    (omega arith, omega arith, omega arith)

-- a character that says something is there, and one that is not says nothing
says_there : (c : Option ℕ) → 0 < value c → is_some c ≡ true
says_there None h = absurd (omega arith)
says_there (Some x) h = refl

not_there : (c : Option ℕ) → is_some c ≡ false → c ≡ None
not_there None e = refl
not_there (Some x) e = absurd (false≢true (sym e))

module _ (s : List ℕ) where
  behind : (n : ℕ) → is_some (level_after n s).td ≡ true → (n + 3 ≤ (level_after n s).next) × ((level_after n s).next ≤ length s)
  unfolding first_of after_of
  behind zero h = let t = level_there s (get_or s 1 0) 2 h in let a = t.1 in let b = t.2 in (omega arith, omega arith)
  behind (suc n) h =
      let l = level_after n s in
      let t = level_there s (value l.td) l.next h in
      let before = behind n (says_there l.td t.0) in
      let a = before.0 in
      let b = t.1 in
      let c = t.2 in
      (omega arith, omega arith)

  pub no_more : (n : ℕ) → length s ≤ n → (level_after n s).td ≡ None
  no_more n h =
      either (is_some (level_after n s).td)
      (λ y. let far = behind n y in let a = far.0 in let b = far.1 in absurd (omega arith))
      (λ m. not_there _ m)

  -- the walk goes through these levels
  walked_through : (n k : ℕ) (other : Bool) → (walked n s (level_after k s) other).next ≡ (level_after (n + k) s).next
  unfolding walked
  walked_through zero k other = let same : k ≡ 0 + k = omega arith in ap (λ (j : ℕ). (level_after j s).next) same
  walked_through (suc n) k other =
      let same : n + suc k ≡ suc n + k = omega arith in
      walked_through n (suc k) _ ∙ ap (λ (j : ℕ). (level_after j s).next) same

  -- what follows the interface characters follows the last level
  pub interface_end : (interface_of s).next ≡ (level_after (length s) s).next
  unfolding interface_of
  interface_end =
      let same : length s + 0 ≡ length s = omega arith in
      walked_through (length s) 0 _ ∙ ap (λ (j : ℕ). (level_after j s).next) same
