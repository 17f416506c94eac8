-- What an accepted answer tells, in plain words. A character of a capture of bytes is a byte. A capture that is accepted is not cut, so
-- it goes up to where TC3 would stand; were the protocol T=1 and TB3 not there, the rule on its absence would be broken.
-- Assumes nothing.
use mathlib.Core.Path.{◌≡◌, refl, sym, ap, ◌∙◌}
use mathlib.Core.Bool.{Bool, true, false, ◌&&◌, ◌||◌, false≢true}
use mathlib.Core.List.{List}
use Rattle.std.proofs.Common.{Option, None, Some, is_some, is_none, Ok}
use Prim.Native.Nat.{ℕ, ◌/◌, ◌%◌, ◌≤◌, ◌<◌}
use native.Mathlib.Omega.{arith}
use lib.Dec.{eqb, ltb, leb}
use lib.ListN.{length, get_or}
use lib.Pow.{are_bytes}
use borrow.Author.Tests.{ltb-true, le-leb}
use Rattle.slices.specs.Choice.{pick}
use Rattle.slices.specs.Tables.{any_of}
use Rattle.slices.proofs.Choice.{picked, pick_cong}
use Rattle.tape_crc.proofs.Bytes.{bytes_at}
use Rattle.atr_table.specs.Turning.{turned}
use Rattle.atr_characters.specs.Data.{data_byte, data_of}
use Rattle.atr_characters.specs.Levels.{value, named, found_at, level_of, first_of}
use Rattle.atr_characters.specs.Located.{located_of}
use Rattle.atr_characters.specs.declared.Located.{Located}
use Rattle.atr_characters.proofs.Data.{data_length, data_at}
use Rattle.atr_rules.specs.Lines.{first_lines, second_lines, third_lines, last_lines, lines_of}
use Rattle.atr.specs.Reading.{or_else, no_tb3, is_inverse, ts_broken, rules_of, protocol_of, interval_of, told_of, read_reset}
use Rattle.atr.specs.declared.Protocol.TheVariants.{T1}
use Rattle.atr.specs.declared.Told.{Told}
use Rattle.atr_laws.specs.Readings.{broken_of, some_broken}
use Rattle.atr_laws.specs.Plain.{plain_protocol_of, plain_interval_of, plain_told_of}
use Rattle.atr_laws.proofs.Accepting.{none_at, whole, found}
use Rattle.atr_laws.proofs.InOrder.{third_inside}

-- a captured byte says a byte
turned_byte : (b : ℕ) → turned b < 256
unfolding turned
turned_byte b = omega arith

says_byte : (inverse : Bool) (b : ℕ) → b < 256 → data_byte inverse b < 256
unfolding data_byte
says_byte inverse b h = picked (λ (x : ℕ). x < 256) inverse _ _ (λ e. turned_byte b) (λ e. h)

module _ (inverse : Bool) (s : List ℕ) (bytes : are_bytes s ≡ true) where
  found_byte : (bit p : ℕ) → value (found_at (data_of inverse s) bit p) < 256
  unfolding found_at
  found_byte bit p =
      picked (λ (x : Option ℕ). value x < 256) (eqb bit 1) _ _
      (λ e. picked (λ (x : Option ℕ). value x < 256) (ltb p (length (data_of inverse s))) _ _
      (λ f.
      let near = ltb-true p (length (data_of inverse s)) f in
      let size = data_length inverse s in
      let at = data_at inverse s p (omega arith) in
      let byte = says_byte inverse (get_or s p 0) (bytes_at s bytes p) in
      omega arith)
      (λ f. omega arith))
      (λ e. omega arith)

  tc1_byte : value (located_of (data_of inverse s)).first.tc < 256
  unfolding located_of first_of level_of
  tc1_byte = found_byte _ _

-- TB3 is there, since the rule on its absence is not broken though the protocol is T=1 and the capture goes so far
there_by_rule : (tb3 : Option ℕ) (t2 t1 up : Bool) → t1 ≡ true → up ≡ true → ((t2 || t1) && is_none tb3 && up) ≡ false → is_some tb3 ≡ true
there_by_rule (Some x) t2 t1 up e f g = refl
there_by_rule None true t1 up e f g = absurd (false≢true (sym g ∙ f))
there_by_rule None false t1 up e f g = absurd (false≢true (sym g ∙ rw (e, f)))

module _ (l : Located) (warm : Bool) where
  absent_there : get_or (broken_of (lines_of false l warm)) 10 false
      ≡ ((eqb (named l.second.td) 1 || eqb (named l.first.td) 1) && is_none l.third.tb && leb l.third.c l.size)
  unfolding broken_of lines_of first_lines second_lines third_lines last_lines pick
  absent_there = refl

  tb3_there : (ts : Bool) → any_of (broken_of (lines_of ts l warm)) ≡ false → l.third.c ≤ l.size
      → eqb (named l.first.td) 1 ≡ true → is_some l.third.tb ≡ true
  unfolding broken_of lines_of any_of pick
  tb3_there true none up one = absurd (false≢true (sym none))
  tb3_there false none up one =
      there_by_rule l.third.tb (eqb (named l.second.td) 1) _ _ one (le-leb l.third.c l.size up)
      (sym absent_there ∙ none_at (broken_of (lines_of false l warm)) 10 none)

-- a character that is there counts as what it says
counts : (other : ℕ) (c : Option ℕ) → is_some c ≡ true → or_else other c ≡ value c
unfolding or_else
counts other None e = absurd (false≢true e)
counts other (Some x) e = refl

plain_protocol : (l : Located) → (eqb (named l.first.td) 1 ≡ true → is_some l.third.tb ≡ true) → protocol_of l ≡ plain_protocol_of l
unfolding protocol_of plain_protocol_of
plain_protocol l tb3 =
    pick_cong (eqb (named l.first.td) 1) _ _ _ _
    (λ e. ap (λ (n : ℕ). T1 (or_else 0x20 l.third.ta) (n / 16) (n % 16)) (counts no_tb3 l.third.tb (tb3 e)))
    (λ e. refl)

plain_told : (l : Located) → value l.first.tc < 256 → (eqb (named l.first.td) 1 ≡ true → is_some l.third.tb ≡ true)
    → told_of l ≡ plain_told_of l
unfolding told_of plain_told_of interval_of plain_interval_of
plain_told l tc1 tb3 = let n : value l.first.tc % 256 ≡ value l.first.tc = omega arith in rw (n, plain_protocol l tb3)

module _ (capture : List ℕ) (warm : Bool) (told : Told) (bytes : are_bytes capture ≡ true)
    (e : (read_reset capture warm).reading ≡ Ok told) where
  -- an accepted answer tells what its bytes say
  pub told_plainly : told ≡ plain_told_of (located_of (data_of (is_inverse capture) capture))
  unfolding some_broken rules_of
  told_plainly =
      let l = located_of (data_of (is_inverse capture) capture) in
      let f = found capture warm told e in
      let up = third_inside (data_of (is_inverse capture) capture) in
      let end = whole l warm (ts_broken capture) f.0 in
      f.1 ∙ plain_told l (tc1_byte (is_inverse capture) capture bytes) (tb3_there l warm (ts_broken capture) f.0 (omega arith))
