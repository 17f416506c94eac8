-- A capture is accepted exactly where no rule is broken. One of more than 33 bytes never is.
-- Of one that is accepted the historical bytes lie in the capture.
-- Assumes nothing.
use mathlib.Core.Path.{◌≡◌, refl, sym, ap, ◌∙◌}
use mathlib.Core.Bool.{Bool, true, false, not, ◌&&◌, false≢true}
use mathlib.Core.List.{List, [], ◌∷◌}
use Rattle.std.proofs.Common.{Ok, Err}
use Prim.Native.Nat.{ℕ, zero, suc, ◌≤◌, ◌<◌}
use native.Mathlib.Omega.{arith}
use lib.Dec.{ltb}
use lib.ListN.{length, get_or}
use borrow.Author.Tests.{lt-ltb, ltb-false}
use Rattle.slices.specs.Choice.{pick}
use Rattle.slices.specs.Tables.{any_of}
use Rattle.slices.proofs.Choice.{pick_yes, pick_no, either}
use Rattle.atr_characters.specs.Data.{data_of}
use Rattle.atr_characters.specs.Located.{historical_end, located_of}
use Rattle.atr_characters.specs.declared.Located.{Located}
use Rattle.atr_characters.proofs.Data.{data_length}
use Rattle.atr_rules.specs.Lines.{is_long, first_lines, second_lines, third_lines, last_lines, lines_of}
use Rattle.atr.specs.Reading.{is_inverse, ts_broken, told_of, reading_of, rules_of, read_reset}
use Rattle.atr.specs.declared.Broken.{Broken}
use Rattle.atr.specs.declared.Told.{Told}
use Rattle.atr_laws.specs.Readings.{is_accepted, broken_of, some_broken}

by_test : (t : Bool) (b : Broken) (a : Told) → is_accepted (pick t (Err b) (Ok a)) ≡ not t
unfolding pick is_accepted
by_test true b a = refl
by_test false b a = refl

pub accepted_exactly : (capture : List ℕ) (warm : Bool) → is_accepted (read_reset capture warm).reading ≡ not (some_broken capture warm)
unfolding read_reset reading_of some_broken broken_of
accepted_exactly capture warm = by_test (some_broken capture warm) _ _

-- some of several tests holds where one does by its place
any_at : (ts : List Bool) (k : ℕ) → get_or ts k false ≡ true → any_of ts ≡ true
unfolding any_of
any_at [] k e = absurd (false≢true e)
any_at (t ∷ ts) zero e = pick_yes _ _ _ e
any_at (t ∷ ts) (suc k) e = either t (λ y. pick_yes _ _ _ y) (λ n. pick_no _ _ _ n ∙ any_at ts k e)

-- the rules on the end, by their places in the list
module _ (l : Located) (warm : Bool) where
  cut_there : get_or (broken_of (lines_of false l warm)) 16 false ≡ ltb l.size l.end
  unfolding broken_of lines_of first_lines second_lines third_lines last_lines pick
  cut_there = refl

  before_there : get_or (broken_of (lines_of false l warm)) 15 false ≡ (ltb 33 l.size && ltb 33 l.end)
  unfolding broken_of lines_of first_lines second_lines third_lines last_lines is_long pick
  before_there = refl

  between_there : get_or (broken_of (lines_of false l warm)) 19 false ≡ (ltb 33 l.size && not (ltb 33 l.end) && ltb 33 l.after)
  unfolding broken_of lines_of first_lines second_lines third_lines last_lines is_long pick
  between_there = refl

  behind_there : get_or (broken_of (lines_of false l warm)) 21 false ≡ (ltb 33 l.size && not (ltb 33 l.end) && not (ltb 33 l.after))
  unfolding broken_of lines_of first_lines second_lines third_lines last_lines is_long pick
  behind_there = refl

  -- LONG's three numbers part among them all captures that are too long
  pub long_broken : (ts : Bool) → 33 < l.size → any_of (broken_of (lines_of ts l warm)) ≡ true
  unfolding broken_of lines_of any_of pick
  long_broken true h = refl
  long_broken false h =
      let long = lt-ltb 33 l.size h in
      either (ltb 33 l.end)
      (λ before. any_at (broken_of (lines_of false l warm)) 15 (before_there ∙ rw (long, before)))
      (λ there.
      either (ltb 33 l.after)
      (λ between. any_at (broken_of (lines_of false l warm)) 19 (between_there ∙ rw (long, there, between)))
      (λ behind. any_at (broken_of (lines_of false l warm)) 21 (behind_there ∙ rw (long, there, behind))))

pub long_refused : (capture : List ℕ) (warm : Bool) → 33 < length capture → is_accepted (read_reset capture warm).reading ≡ false
unfolding some_broken rules_of located_of
long_refused capture warm h =
    let size = data_length (is_inverse capture) capture in
    let l = located_of (data_of (is_inverse capture) capture) in
    accepted_exactly capture warm ∙ ap not (long_broken l warm (ts_broken capture) (omega arith))

-- what an accepted reading tells is what was located
told_by_test : (t : Bool) (b : Broken) (a told : Told) → pick t (Err b) (Ok a) ≡ Ok told → (t ≡ false) × (told ≡ a)
unfolding pick
told_by_test true b a told e = let z : ◌≡◌ {A = ℕ} 0 1 = cc in absurd (omega arith)
told_by_test false b a told e = (refl, cc)

-- no test holds where none does
pub none_at : (ts : List Bool) (k : ℕ) → any_of ts ≡ false → get_or ts k false ≡ false
none_at ts k e = either (get_or ts k false) (λ y. absurd (false≢true (sym e ∙ any_at ts k y))) (λ n. n)

module _ (l : Located) (warm : Bool) where
  -- a capture that breaks no rule is not cut
  pub whole : (ts : Bool) → any_of (broken_of (lines_of ts l warm)) ≡ false → l.end ≤ l.size
  unfolding broken_of lines_of any_of pick
  whole true e = absurd (false≢true (sym e))
  whole false e = ltb-false l.size l.end (sym (cut_there l warm) ∙ none_at (broken_of (lines_of false l warm)) 16 e)

module _ (capture : List ℕ) (warm : Bool) (told : Told) (e : (read_reset capture warm).reading ≡ Ok told) where
  -- no rule is broken, and what is told is told of what was located
  pub found : (some_broken capture warm ≡ false) × (told ≡ told_of (located_of (data_of (is_inverse capture) capture)))
  unfolding read_reset reading_of some_broken broken_of
  found = told_by_test (some_broken capture warm) _ _ told e

  -- the historical bytes are whole: as many as T0 says, and all of them in the capture
  pub historical_inside : (told.start ≤ told.end) × (told.end ≤ length capture)
  unfolding told_of located_of historical_end some_broken rules_of
  historical_inside =
      let l = located_of (data_of (is_inverse capture) capture) in
      let start = ap (λ (t : Told). t.start) found.1 in
      let end = ap (λ (t : Told). t.end) found.1 in
      let inside = whole l warm (ts_broken capture) found.0 in
      let size = data_length (is_inverse capture) capture in
      (omega arith, omega arith)
