-- A direct capture and the same card's inverse capture have the same reading. The data differ at TS alone, which every other
-- character stands behind, and of TS nothing but its being one of the two is asked.
-- Assumes nothing.
use mathlib.Core.Path.{◌≡◌, refl, sym, ap, ap₂, ◌∙◌}
use mathlib.Core.Bool.{Bool, true, false, not, ◌&&◌, ◌||◌}
use mathlib.Core.List.{List, [], ◌∷◌, map}
use Prim.Native.Nat.{ℕ, zero, suc, ◌≤◌}
use native.Mathlib.Nat.{not-suc-le-zero}
use native.Mathlib.Omega.{arith}
use lib.Dec.{eqb}
use lib.ListN.{length, get_or}
use lib.Pow.{are_bytes}
use mathlib.Core.Logic.{◌⊎◌, inl, inr, ⊎_elim}
use borrow.Author.Tests.{lt-ltb}
use Rattle.slices.specs.Choice.{pick}
use Rattle.tape_crc.proofs.Bytes.{bytes_head, bytes_rest}
use Rattle.atr_table.specs.Turning.{opposite, turned}
use Rattle.atr_table.proofs.Laws.{turned_twice}
use Rattle.atr_characters.specs.Data.{data_byte, data_of}
use Rattle.atr_characters.specs.Levels.{value, found_at, level_of, first_of, after_of, names_other, walked, interface_of}
use Rattle.atr_characters.specs.Located.{historical_end, located_of}
use Rattle.atr_characters.specs.declared.Level.{Level}
use Rattle.atr_characters.specs.declared.Located.{Located}
use Rattle.atr_characters.proofs.Reach.{level_made, located_made}
use Rattle.atr_rules.specs.Lines.{lines_of}
use Rattle.atr.specs.Reading.{is_inverse, ts_broken, reading_of, rules_of, read_reset}

-- the two initial characters before the same others
module _ (a b : ℕ) (r : List ℕ) where
  found_same : (bit p : ℕ) → 1 ≤ p → found_at (a ∷ r) bit p ≡ found_at (b ∷ r) bit p
  unfolding found_at
  found_same bit zero h = absurd (not-suc-le-zero h)
  found_same bit (suc p) h = refl

  level_same : (y p : ℕ) → 1 ≤ p → level_of (a ∷ r) y p ≡ level_of (b ∷ r) y p
  unfolding level_of
  level_same y p h =
      level_made (b ∷ r) y p _ _ _ _ (found_same _ _ h) (found_same _ _ (omega arith)) (found_same _ _ (omega arith))
      (found_same _ _ (omega arith))

  level_behind : (y p : ℕ) → 1 ≤ p → 1 ≤ (level_of (a ∷ r) y p).next
  unfolding level_of
  level_behind y p h = omega arith

  first_same : first_of (a ∷ r) ≡ first_of (b ∷ r)
  unfolding first_of
  first_same = level_same (get_or r 0 0) 2 (omega arith)

  first_behind : 1 ≤ (first_of (a ∷ r)).next
  unfolding first_of
  first_behind = level_behind (get_or r 0 0) 2 (omega arith)

  after_same : (l : Level) → 1 ≤ l.next → after_of (a ∷ r) l ≡ after_of (b ∷ r) l
  unfolding after_of
  after_same l h = level_same (value l.td) l.next h

  after_behind : (l : Level) → 1 ≤ l.next → 1 ≤ (after_of (a ∷ r) l).next
  unfolding after_of
  after_behind l h = level_behind (value l.td) l.next h

  walked_same : (n : ℕ) (l : Level) (other : Bool) → 1 ≤ l.next → walked n (a ∷ r) l other ≡ walked n (b ∷ r) l other
  unfolding walked
  walked_same zero l other h = refl
  walked_same (suc n) l other h =
      walked_same n (after_of (a ∷ r) l) _ (after_behind l h)
      ∙ ap (λ (m : Level). walked n (b ∷ r) m (other || names_other m.td)) (after_same l h)

  interface_same : interface_of (a ∷ r) ≡ interface_of (b ∷ r)
  unfolding interface_of
  interface_same =
      walked_same (length (a ∷ r)) (first_of (a ∷ r)) (names_other (first_of (a ∷ r)).td) first_behind
      ∙ ap (λ (m : Level). walked (length (b ∷ r)) (b ∷ r) m (names_other m.td)) first_same

  pub located_same : located_of (a ∷ r) ≡ located_of (b ∷ r)
  unfolding located_of historical_end first_of after_of
  located_same =
      let first = first_of (a ∷ r) in
      located_made (b ∷ r) _ _ _ _ _ _ _ _ refl refl first_same
      (after_same first first_behind)
      (after_same (after_of (a ∷ r) first) (after_behind first first_behind))
      interface_same
      refl
      refl

pub direct_data : (s : List ℕ) → data_of false s ≡ s
unfolding data_of data_byte pick
direct_data [] = refl
direct_data (b ∷ s) = ap (λ (t : List ℕ). b ∷ t) (direct_data s)

-- line bytes are turned back
inverse_data : (s : List ℕ) → are_bytes s ≡ true → data_of true (map turned s) ≡ s
unfolding data_of data_byte pick
inverse_data [] e = refl
inverse_data (b ∷ s) e = ap₂ (λ (c : ℕ) (t : List ℕ). c ∷ t) (turned_twice b (bytes_head b s e)) (inverse_data s (bytes_rest b s e))

-- both initial characters are right
pub ts_right : (ts : ℕ) (r : List ℕ) → (ts ≡ 0x3B) ⊎ (ts ≡ 0x03) → ts_broken (ts ∷ r) ≡ false
unfolding ts_broken
ts_right ts r w =
    ap (λ (there : Bool). there && not (eqb ts 0x3B) && not (eqb ts 0x03)) (lt-ltb 0 (suc (length r)) (omega arith))
    ∙ ⊎_elim (λ e. ap (λ (t : ℕ). not (eqb t 0x3B) && not (eqb t 0x03)) e) (λ e. ap (λ (t : ℕ). not (eqb t 0x3B) && not (eqb t 0x03)) e) w

-- the card's characters behind TS as data, captured directly and as line bytes
pub same_reading : (r : List ℕ) (warm : Bool) → are_bytes r ≡ true
    → (read_reset (0x3B ∷ r) warm).reading ≡ (read_reset (0x03 ∷ map turned r) warm).reading
unfolding read_reset rules_of is_inverse data_of data_byte pick turned opposite
same_reading r warm e =
    let direct = ap located_of (direct_data (0x3B ∷ r)) in
    let inverse = ap (λ (s : List ℕ). located_of (0x3F ∷ s)) (inverse_data r e) in
    let ts = ts_right 0x3B r (inl refl) ∙ sym (ts_right 0x03 (map turned r) (inr refl)) in
    ap₂ (λ (t : Bool) (l : Located). reading_of (lines_of t l warm) l) ts (direct ∙ (located_same 0x3B 0x3F r ∙ sym inverse))
