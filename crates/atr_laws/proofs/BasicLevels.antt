-- Where the characters of the two basic answers stand: level by level, by the bits of T0, '81' and '31'.
-- Assumes nothing.
use mathlib.Core.Path.{◌≡◌, refl, sym, ap, ◌∙◌}
use mathlib.Core.Bool.{Bool, true, false, ◌||◌}
use mathlib.Core.List.{List, [], ◌∷◌, ◌++◌}
use Rattle.std.proofs.Common.{Option, None, Some}
use Prim.Native.Nat.{ℕ, zero, suc, ◌+◌, ◌/◌, ◌%◌, ◌≤◌, ◌<◌}
use native.Mathlib.Nat.{add-zero}
use native.Mathlib.Omega.{arith}
use lib.ListN.{length, get_or, take, drop}
use borrow.Author.Tests.{lt-ltb}
use Rattle.slices.specs.Choice.{pick}
use Rattle.slices.proofs.Choice.{pick_yes}
use Rattle.atr_characters.specs.Data.{joined_from}
use Rattle.atr_characters.specs.Levels.{found_at, level_of, first_of, after_of, names_other, walked, interface_of}
use Rattle.atr_characters.specs.Located.{located_of}
use Rattle.atr_characters.specs.declared.Level.{Level}
use Rattle.atr_characters.specs.declared.Located.{Located}
use Rattle.atr_characters.proofs.Reach.{located_made}

found_there : (s : List ℕ) (p : ℕ) → p < length s → found_at s 1 p ≡ Some (get_or s p 0)
unfolding found_at pick
found_there s p h = pick_yes _ _ _ (lt-ltb p (length s) h)

-- a level by the four bits that announce it, and by what is found
module _ (s : List ℕ) (y p a b c d : ℕ) (ea : y / 16 % 2 ≡ a) (eb : y / 32 % 2 ≡ b) (ec : y / 64 % 2 ≡ c) (ed : y / 128 % 2 ≡ d) where
  level_is : (ta tb tc td : Option ℕ) → found_at s a p ≡ ta → found_at s b (p + a) ≡ tb
      → found_at s c (p + a + b) ≡ tc → found_at s d (p + a + b + c) ≡ td
      → level_of s y p ≡ record {
        ta = ta;
        tb = tb;
        tc = tc;
        td = td;
        a = p;
        b = p + a;
        c = p + a + b;
        d = p + a + b + c;
        next = p + a + b + c + d;
      }
  unfolding level_of
  level_is ta tb tc td fa fb fc fd = rw (ea, eb, ec, ed, fa, fb, fc, fd)

-- a level that nothing announces
abbrev pub still : ℕ → Level
still p = record { ta = None; tb = None; tc = None; td = None; a = p; b = p; c = p; d = p; next = p }

pub still_level : (s : List ℕ) (p : ℕ) → level_of s 0 p ≡ still p
unfolding level_of found_at pick
still_level s p = simp add-zero

-- once nothing is announced, nothing follows
settled : (n : ℕ) (s : List ℕ) (l : Level) (o : Bool) → walked n s l (o || false) ≡ walked n s l o
settled n s l true = refl
settled n s l false = refl

walked_still : (n : ℕ) (s : List ℕ) (p : ℕ) (other : Bool) → walked n s (still p) other ≡ record { next = p; other = other }
unfolding walked after_of
walked_still zero s p other = refl
walked_still (suc n) s p other =
    ap (λ (l : Level). walked n s l (other || names_other l.td)) (still_level s p)
    ∙ (settled n s (still p) other ∙ walked_still n s p other)

-- from the last level that is announced
walked_last : (n : ℕ) (s : List ℕ) (l : Level) (p : ℕ) (other : Bool) → after_of s l ≡ still p
    → walked (suc n) s l other ≡ record { next = p; other = other }
unfolding walked
walked_last n s l p other e =
    ap (λ (m : Level). walked n s m (other || names_other m.td)) e ∙ (settled n s (still p) other ∙ walked_still n s p other)

-- T=0 only
module _ (tc1 : ℕ) (h : List ℕ) (few : length h ≤ 15) where
  abbrev pub s₀ : List ℕ
  s₀ = 0x3B ∷ (0x60 + length h) ∷ 0x00 ∷ tc1 ∷ h

  abbrev pub first₀ : Level
  first₀ = record { ta = None; tb = Some 0; tc = Some tc1; td = None; a = 2; b = 2; c = 3; d = 4; next = 4 }

  abbrev pub located₀ : Located
  located₀ =
      record {
        size = length s₀;
        first = first₀;
        second = still 4;
        third = still 4;
        start = 4;
        end = 4 + (0x60 + length h) % 16;
        due = false;
        after = 4 + (0x60 + length h) % 16 + 0;
        joined = joined_from 0 (take (4 + (0x60 + length h) % 16) (drop 1 s₀));
      }

  first_is₀ : first_of s₀ ≡ first₀
  unfolding first_of found_at pick
  first_is₀ =
      level_is s₀ (0x60 + length h) 2 0 1 1 0 (omega arith) (omega arith) (omega arith) (omega arith)
      None (Some 0) (Some tc1) None refl (found_there s₀ 2 (omega arith)) (found_there s₀ 3 (omega arith)) refl

  interface_is₀ : interface_of s₀ ≡ record { next = 4; other = false }
  unfolding interface_of after_of
  interface_is₀ =
      ap (λ (l : Level). walked (length s₀) s₀ l (names_other l.td)) first_is₀
      ∙ walked_last (suc (suc (suc (length h)))) s₀ first₀ 4 false (still_level s₀ 4)

  pub located_is₀ : located_of s₀ ≡ located₀
  unfolding first_of
  located_is₀ =
      sym (located_made s₀ _ _ _ _ first₀ (still 4) (still 4) (record { next = 4; other = false }) refl refl (sym first_is₀)
      (sym (still_level s₀ 4)) (sym (still_level s₀ 4)) (sym interface_is₀) refl refl)

-- T=1 only
module _ (tc1 ta3 tb3 : ℕ) (h : List ℕ) (few : length h ≤ 15) (x : ℕ) where
  abbrev pub s₁ : List ℕ
  s₁ = 0x3B ∷ (0xE0 + length h) ∷ 0x00 ∷ tc1 ∷ 0x81 ∷ 0x31 ∷ ta3 ∷ tb3 ∷ h ++ (x ∷ [])

  abbrev pub first₁ : Level
  first₁ = record { ta = None; tb = Some 0; tc = Some tc1; td = Some 0x81; a = 2; b = 2; c = 3; d = 4; next = 5 }

  abbrev pub second₁ : Level
  second₁ = record { ta = None; tb = None; tc = None; td = Some 0x31; a = 5; b = 5; c = 5; d = 5; next = 6 }

  abbrev pub third₁ : Level
  third₁ = record { ta = Some ta3; tb = Some tb3; tc = None; td = None; a = 6; b = 7; c = 8; d = 8; next = 8 }

  first_is₁ : first_of s₁ ≡ first₁
  unfolding first_of found_at pick
  first_is₁ =
      level_is s₁ (0xE0 + length h) 2 0 1 1 1 (omega arith) (omega arith) (omega arith) (omega arith)
      None (Some 0) (Some tc1) (Some 0x81) refl (found_there s₁ 2 (omega arith)) (found_there s₁ 3 (omega arith)) (found_there s₁ 4 (omega arith))

  second_is₁ : level_of s₁ 0x81 5 ≡ second₁
  unfolding found_at pick
  second_is₁ =
      level_is s₁ 0x81 5 0 0 0 1 refl refl refl refl None None None (Some 0x31)
      refl refl refl (found_there s₁ 5 (omega arith))

  third_is₁ : level_of s₁ 0x31 6 ≡ third₁
  unfolding found_at pick
  third_is₁ =
      level_is s₁ 0x31 6 1 1 0 0 refl refl refl refl (Some ta3) (Some tb3) None None
      (found_there s₁ 6 (omega arith)) (found_there s₁ 7 (omega arith)) refl refl

  interface_is₁ : interface_of s₁ ≡ record { next = 8; other = true }
  unfolding interface_of walked after_of
  interface_is₁ =
      let five = suc (suc (suc (suc (suc (length (h ++ (x ∷ []))))))) in
      ap (λ (l : Level). walked (suc (suc (suc five))) s₁ l (names_other l.td)) first_is₁
      ∙ (ap (λ (l : Level). walked (suc (suc five)) s₁ l true) second_is₁
      ∙ (ap (λ (l : Level). walked (suc five) s₁ l true) third_is₁ ∙ walked_last five s₁ third₁ 8 true (still_level s₁ 8)))

  abbrev pub located₁ : Located
  located₁ =
      record {
        size = length s₁;
        first = first₁;
        second = second₁;
        third = third₁;
        start = 8;
        end = 8 + (0xE0 + length h) % 16;
        due = true;
        after = 8 + (0xE0 + length h) % 16 + 1;
        joined = joined_from 0 (take (8 + (0xE0 + length h) % 16) (drop 1 s₁));
      }

  pub located_is₁ : located_of s₁ ≡ located₁
  unfolding first_of
  located_is₁ =
      sym (located_made s₁ _ _ _ _ first₁ second₁ third₁ (record { next = 8; other = true }) refl refl (sym first_is₁)
      (sym second_is₁) (sym third_is₁) (sym interface_is₁) refl refl)
