-- Filling a list, and the number of entries filled with zeros, depend on what is supplied alone; so both are for a START of 74 bytes what
-- they were before cardholder verification, and every command is the same.
-- Assumes nothing.
use mathlib.Core.Path.{◌≡◌, refl, ap, ◌∙◌}
use mathlib.Core.List.{List, [], ◌∷◌, ◌++◌}
use mathlib.Core.Option.{Option, none, some}
use Prim.Native.Nat.{ℕ, ◌+◌}
use Rattle.slices.specs.Choice.{pick}
use Rattle.slices.specs.Tests.{is_some}
use Rattle.start_fields.specs.Reading.{Terminal}
use Rattle.answer_common.specs.declared.content.Format.{Format}
use Rattle.facts.specs.Facts.{Facts}
use Rattle.dol_wanted.specs.Wanted.{Wanted, entries_of, fillable}
use Rattle.dol_values.specs.Known.{supplied}
use Rattle.dol_fill.specs.Filled.{entry_bytes, filled, filled_by, filled_list, filling, missing, missing_in, missing_by, unsupplied}
use Rattle.commands.specs.Commands.{options_command, cryptogram_command}
use Rattle.decide_cryptogram.specs.Cryptograms.{p1_of}
use Rattle.rulebook.specs.Situation.{known_in, list_in}
use Rattle.rulebook.specs.Phase.{Asked, selecting, optioning, reading, first, second, situation_of, command_of}
use Rattle.rulebook_zeros.specs.Zeros.{unsupplied_asking}
use Rattle.verdict_before.specs.Filled.{supplied_before, filled_before, filled_by_before, filling_before, command_before}
use Rattle.verdict_before.specs.Filled.{missing_in_before, missing_by_before, unsupplied_before, unsupplied_asking_before}
use Rattle.verdict_before.proofs.Supplying.{Early, supplied_same}

module _ (t : Terminal) (k : Facts) (same : (tag : ℕ) → supplied t k tag ≡ supplied_before t k tag) where
  filled_same : (ws : List Wanted) → filled t k ws ≡ filled_before t k ws
  unfolding filled filled_before
  filled_same [] = refl
  filled_same (w ∷ ws) =
      ap (λ (o : Option (Format × List ℕ)). entry_bytes w.size o ++ filled t k ws) (same w.tag)
      ∙ ap (λ (l : List ℕ). entry_bytes w.size (supplied_before t k w.tag) ++ l) (filled_same ws)

  filled_by_same : (o : Option (List Wanted)) → filled_by t k o ≡ filled_by_before t k o
  unfolding filled_by filled_by_before
  filled_by_same none = refl
  filled_by_same (some ws) = filled_same ws

  pub filling_by : (list : List ℕ) → filling t k list ≡ filling_before t k list
  unfolding filling filled_list filling_before
  filling_by list = ap (λ (l : List ℕ). pick (fillable list) l []) (filled_by_same (entries_of list))

  missing_same : (ws : List Wanted) → missing_in t k ws ≡ missing_in_before t k ws
  unfolding missing_in missing missing_in_before
  missing_same [] = refl
  missing_same (w ∷ ws) =
      ap (λ (o : Option (Format × List ℕ)). pick (is_some o) 0 1 + missing_in t k ws) (same w.tag)
      ∙ ap (λ (n : ℕ). pick (is_some (supplied_before t k w.tag)) 0 1 + n) (missing_same ws)

  missing_by_same : (o : Option (List Wanted)) → missing_by t k o ≡ missing_by_before t k o
  unfolding missing_by missing_by_before
  missing_by_same none = refl
  missing_by_same (some ws) = missing_same ws

  pub unsupplied_by : (list : List ℕ) → unsupplied t k list ≡ unsupplied_before t k list
  unfolding unsupplied unsupplied_before
  unsupplied_by list = ap (λ (n : ℕ). pick (fillable list) n 0) (missing_by_same (entries_of list))

module _ (t : Terminal) (early : Early t) (k : Facts) where
  -- a list is filled as it was,
  pub filling_same : (list : List ℕ) → filling t k list ≡ filling_before t k list
  filling_same = filling_by t k (supplied_same t early k)

  -- with as many zeros for want of a value
  pub unsupplied_same : (list : List ℕ) → unsupplied t k list ≡ unsupplied_before t k list
  unsupplied_same = unsupplied_by t k (supplied_same t early k)

-- every command is what it was,
pub command_same : (w : Asked) → Early (situation_of w).terminal → command_of w ≡ command_before w
unfolding command_of command_before situation_of
command_same (selecting s) early = refl
command_same (optioning s list) early = ap options_command (filling_same s.terminal early (known_in s none) list)
command_same (reading s number file rest) early = refl
command_same (first s request) early =
    ap (cryptogram_command (p1_of request)) (filling_same s.terminal early (known_in s none) (list_in s 0x8C))
command_same (second s request code) early =
    ap (cryptogram_command (p1_of request)) (filling_same s.terminal early (known_in s (some code)) (list_in s 0x8D))

-- and its list has as many entries filled with zeros
pub asking_same : (w : Asked) → Early (situation_of w).terminal → unsupplied_asking w ≡ unsupplied_asking_before w
unfolding unsupplied_asking unsupplied_asking_before situation_of
asking_same (selecting s) early = refl
asking_same (optioning s list) early = unsupplied_same s.terminal early (known_in s none) list
asking_same (reading s number file rest) early = refl
asking_same (first s request) early = unsupplied_same s.terminal early (known_in s none) (list_in s 0x8C)
asking_same (second s request code) early = unsupplied_same s.terminal early (known_in s (some code)) (list_in s 0x8D)
