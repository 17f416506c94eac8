-- The slots of what is known say what the rulebook knows.
-- Assumes nothing.
use mathlib.Core.Path.{◌≡◌, sym, ap, ◌∙◌, subst}
use mathlib.Core.List.{List, [], ◌∷◌}
use mathlib.Core.Option.{Option, none, some}
use Prim.Native.Nat.{ℕ}
use native.Mathlib.Omega.{arith}
use lib.ListN.{length}
use Rattle.slices.specs.Choice.{pick, unless_empty}
use Rattle.slices.specs.Tables.{beside}
use Rattle.slices.specs.Writing.{laid, zeros}
use Rattle.slices.proofs.Choice.{there}
use Rattle.session_records.specs.Slots.{end, told_from, placed, slot_for, told_in, kept_in}
use Rattle.rulebook.specs.Situation.{known_in}
use Rattle.session_moves.specs.Known.{only_told as only_behind}
use Rattle.session_moves.proofs.Knowing.{Says, says_all, only_length, only_own, only_other, only_laid, rest_told}
use Rattle.session_moves.proofs.Knowing.{keep_tvr, keep_tsi, keep_response, keep_profile}
use Rattle.quick_ask.specs.Standing.{situation_in}
use Rattle.quick_ask.specs.Known.{only_told, known_early, known_late, known_second}

module _ (start told tvr tsi : List ℕ) (all : length told ≡ end) (five : length tvr ≡ 5) (two : length tsi ≡ 2) where
  only : only_told told ≡ only_behind told
  unfolding only_told
  only = ap (λ (x : List ℕ). laid x told_from (zeros end)) (rest_told told all) ∙ only_laid told all

  bare : Says (only_behind told) (told_in told) none none none none
  bare =
      let own = only_own told all in
      record {
        whole = only_length told all;
        at_tvr = own.0;
        at_tsi = own.1;
        at_response = own.2;
        at_profile = own.3;
        at_other = only_other told all;
      }

  early : Says (known_early told tvr tsi) (told_in told) (some tvr) (some tsi) none none
  unfolding known_early slot_for placed beside pick
  early =
      subst (λ (x : List ℕ). Says (kept_in 0x9B tsi (kept_in 0x95 tvr x)) (told_in told) (some tvr) (some tsi) none none) (sym only)
      (keep_tsi _ _ _ _ _ _ (keep_tvr _ _ _ _ _ _ bare tvr (omega arith)) tsi (omega arith))

  pub early_known : told_in (known_early told tvr tsi) ≡ known_in (situation_in start told [] tvr tsi) none
  unfolding known_in unless_empty
  early_known = says_all _ _ _ _ _ _ early

  module _ (profile : List ℕ) (pair : length profile ≡ 2) where
    is_there_lem : some profile ≡ unless_empty profile
    is_there_lem = sym (there profile (omega arith))

    late : Says (known_late told profile tvr tsi) (told_in told) (some tvr) (some tsi) none (some profile)
    unfolding known_late slot_for placed beside pick
    late = keep_profile _ _ _ _ _ _ early profile (omega arith)

    abbrev Row : Option (List ℕ) → Option (List ℕ) → ℕ → Option (List ℕ)
    Row response o tag =
        beside (told_in told tag) tag ((0x95, some tvr) ∷ (0x9B, some tsi) ∷ (0x8A, response) ∷ (0x82, o) ∷ [])

    pub late_known : told_in (known_late told profile tvr tsi) ≡ known_in (situation_in start told profile tvr tsi) none
    unfolding known_in
    late_known = says_all _ _ _ _ _ _ late ∙ ap (Row none) is_there_lem

    pub second_known : (response : List ℕ) → length response ≡ 2
        → told_in (known_second response told profile tvr tsi) ≡ known_in (situation_in start told profile tvr tsi) (some response)
    unfolding known_second known_in slot_for placed beside pick
    second_known response e =
        says_all _ _ _ _ _ _ (keep_response _ _ _ _ _ _ late response (omega arith)) ∙ ap (Row (some response)) is_there_lem
