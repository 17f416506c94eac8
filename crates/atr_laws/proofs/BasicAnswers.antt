-- The basic answers are accepted. T=0 with every TC1; T=1 with every TA3 and TB3 of its table, and every TC1 that TB3's own rule
-- lets stand: each rule on its own, most of them by computation.
-- Assumes nothing.
use mathlib.Core.Path.{◌≡◌, refl, ap, ap₂, ◌∙◌}
use mathlib.Core.Bool.{Bool, true, false, not, ◌&&◌, ◌||◌}
use mathlib.Core.List.{List, [], ◌∷◌, ◌++◌}
use mathlib.Core.Logic.{inl}
use Prim.Native.Nat.{ℕ, suc, ◌+◌, ◌/◌, ◌%◌, ◌^◌, ◌≤◌}
use native.Mathlib.Omega.{arith}
use lib.Bits.{bit_xor, xor_self}
use lib.Dec.{eqb, ltb, leb}
use lib.ListN.{length, take, length-append}
use lib.Seq.{take_all}
use borrow.Author.Tests.{le-ltb, ne_eqb}
use Rattle.slices.specs.Choice.{pick}
use Rattle.slices.specs.Tables.{any_of}
use Rattle.slices.proofs.Choice.{pick_no}
use Rattle.atr_characters.specs.Data.{joined_from}
use Rattle.atr_characters.specs.Located.{located_of}
use Rattle.atr_characters.specs.declared.Located.{Located}
use Rattle.atr_rules.specs.Tests.{guard_and_one}
use Rattle.atr_rules.specs.Lines.{Line, is_long, first_lines, second_lines, third_lines, last_lines, lines_of}
use Rattle.atr.specs.Reading.{is_inverse, rules_of, read_reset}
use Rattle.atr_laws.specs.Readings.{is_accepted, broken_of, some_broken}
use Rattle.atr_laws.specs.Basic.{basic_t0, basic_body, basic_t1, InTable}
use Rattle.atr_laws.proofs.Accepting.{accepted_exactly}
use Rattle.atr_laws.proofs.Conventions.{direct_data, ts_right}
use Rattle.atr_laws.proofs.BasicLevels.{located₀, located_is₀, located₁, located_is₁}

and_false : (a b : Bool) → b ≡ false → (a && b) ≡ false
and_false true b e = e
and_false false b e = refl

-- LONG at any of its numbers, where the capture is short enough
not_long : (size : ℕ) (b : Bool) → size ≤ 33 → (ltb 33 size && b) ≡ false
not_long size b h = ap (λ (t : Bool). t && b) (le-ltb 33 size h)

not_long_there : (size : ℕ) (b c : Bool) → size ≤ 33 → (ltb 33 size && b && c) ≡ false
not_long_there size b c h = ap (λ (t : Bool). t && c) (not_long size b h)

-- a direct capture whose characters were located, and break no rule
accepted_direct : (r : List ℕ) (warm : Bool) (l : Located) → located_of (0x3B ∷ r) ≡ l → any_of (broken_of (lines_of false l warm)) ≡ false
    → is_accepted (read_reset (0x3B ∷ r) warm).reading ≡ true
unfolding some_broken rules_of is_inverse
accepted_direct r warm l e none =
    let located = ap located_of (direct_data (0x3B ∷ r)) ∙ e in
    let right = ts_right 0x3B r (inl refl) in
    let lines = ap₂ (λ (ts : Bool) (m : Located). lines_of ts m warm) right located in
    accepted_exactly (0x3B ∷ r) warm ∙ ap not (ap (λ (xs : List Line). any_of (broken_of xs)) lines ∙ none)

-- TB1 is there, and '00'
both_false : (a b : Bool) → ((a && false) && b) ≡ false
both_false true b = refl
both_false false b = refl

-- T=0 only: any TC1, any historical bytes, after a cold or a warm reset
module _ (tc1 : ℕ) (h : List ℕ) (few : length h ≤ 15) where
  rules₀ : (warm : Bool) → any_of (broken_of (lines_of false (located₀ tc1 h few) warm)) ≡ false
  unfolding any_of broken_of lines_of is_long first_lines second_lines third_lines last_lines pick
  rules₀ warm =
      let size = suc (suc (suc (suc (length h)))) in
      let end = 4 + (0x60 + length h) % 16 in
      pick_no _ _ _ (both_false (not warm) (leb 3 size))
      ∙ (pick_no _ _ _ (and_false (not warm) false refl)
      ∙ (pick_no _ _ _ (not_long size _ (omega arith))
      ∙ (pick_no _ _ _ (le-ltb size end (omega arith))
      ∙ (pick_no _ _ _ (not_long_there size _ _ (omega arith))
      ∙ (pick_no _ _ _ (le-ltb (end + 0) size (omega arith))
      ∙ pick_no _ _ _ (not_long_there size _ _ (omega arith)))))))

  pub basic_T0 : (warm : Bool) → is_accepted (read_reset (basic_t0 tc1 h) warm).reading ≡ true
  unfolding basic_t0
  basic_T0 warm = accepted_direct _ warm (located₀ tc1 h few) (located_is₀ tc1 h few) (rules₀ warm)

-- one byte more joined
joined_more : (a : ℕ) (s : List ℕ) (x : ℕ) → joined_from a (s ++ (x ∷ [])) ≡ bit_xor (joined_from a s) x
unfolding joined_from
joined_more a [] x = refl
joined_more a (b ∷ s) x = joined_more (bit_xor a b) s x

-- T=1 only
module _ (tc1 ta3 tb3 : ℕ) (h : List ℕ) (basic : InTable tc1 ta3 tb3 h) where
  body : List ℕ
  body = basic_body tc1 ta3 tb3 h

  check : ℕ
  check = joined_from 0 body

  abbrev end : ℕ
  end = 8 + (0xE0 + length h) % 16

  abbrev size : ℕ
  size = suc (suc (suc (suc (suc (suc (suc (suc (length (h ++ (check ∷ []))))))))))

  size_is : size ≡ end + 1
  size_is = let more = length-append h (check ∷ []) in let few = basic.few in omega arith

  -- all from T0 to TCK
  zero_sum : joined_from 0 (take end (body ++ (check ∷ []))) ≡ 0
  unfolding body check basic_body
  zero_sum =
      let few = basic.few in
      let more = length-append h (check ∷ []) in
      ap (joined_from 0) (take_all end (body ++ (check ∷ [])) (omega arith)) ∙ (joined_more 0 body check ∙ xor_self check)

  ta3_right : (ltb ta3 0x10 || eqb ta3 0xFF) ≡ false
  ta3_right =
      let high = basic.high in
      let other : ta3 ≡ 0xFF → ⊥ = λ e. omega arith in
      rw (le-ltb ta3 0x10 basic.low, ne_eqb ta3 0xFF other)

  tck_there : eqb size end ≡ false
  tck_there = let e = size_is in ne_eqb size end (λ same. omega arith)

  rules₁ : (warm : Bool) → any_of (broken_of (lines_of false (located₁ tc1 ta3 tb3 h basic.few check) warm)) ≡ false
  unfolding any_of broken_of lines_of is_long first_lines second_lines third_lines last_lines pick body basic_body
  rules₁ warm =
      let e = size_is in
      let few = basic.few in
      pick_no _ _ _ (both_false (not warm) (leb 3 size))
      ∙ (pick_no _ _ _ (and_false (not warm) false refl)
      ∙ (pick_no _ _ _ ta3_right
      ∙ (pick_no _ _ _ (le-ltb 4 (tb3 / 16) basic.bwi)
      ∙ (pick_no _ _ _ (le-ltb 5 (tb3 % 16) basic.cwi)
      ∙ (pick_no _ _ _ (le-ltb (2 ^ (tb3 % 16)) (guard_and_one tc1) basic.room)
      ∙ (pick_no _ _ _ (not_long size _ (omega arith))
      ∙ (pick_no _ _ _ (le-ltb size end (omega arith))
      ∙ (pick_no _ _ _ tck_there
      ∙ (pick_no _ _ _ (and_false (ltb end size) _ (ap (λ (j : ℕ). not (eqb j 0)) zero_sum))
      ∙ (pick_no _ _ _ (not_long_there size _ _ (omega arith))
      ∙ (pick_no _ _ _ (le-ltb (end + 1) size (omega arith))
      ∙ pick_no _ _ _ (not_long_there size _ _ (omega arith)))))))))))))

  pub basic_T1 : (warm : Bool) → is_accepted (read_reset (basic_t1 tc1 ta3 tb3 h) warm).reading ≡ true
  unfolding basic_t1 basic_body body check
  basic_T1 warm =
      let few = basic.few in
      accepted_direct _ warm (located₁ tc1 ta3 tb3 h few check) (located_is₁ tc1 ta3 tb3 h few check) (rules₁ warm)
