-- A block is good exactly where `tape_read` finds no fault with it and its own numbers are the ones due: then the tests of codes 4 and 5
-- compare a number with itself.
-- Assumes nothing.
use mathlib.Core.Path.{◌≡◌, refl, sym, ap, ◌∙◌}
use mathlib.Core.Bool.{true, false, not}
use mathlib.Core.List.{List, ◌∷◌}
use Prim.Native.Nat.{ℕ}
use lib.Dec.{eqb}
use borrow.Author.Tests.{eq-eqb, eqb-true}
use Rattle.slices.specs.Choice.{first_of}
use Rattle.slices.proofs.Choice.{either}
use Rattle.tape_read.specs.Blocks.{number_in, session_in, check_bad, number_bad, session_bad, content_tests, code_of}
use Rattle.tape_read.proofs.Extra.{first_hit, first_skip}
use Rattle.tape_read.proofs.Codes.{code_check_lem, code_content, Good, code_good}
use Rattle.recover.specs.Salvage.{is_good}

module _ (b : List ℕ) where
  own_number : number_bad (number_in b) b ≡ false
  unfolding number_bad
  own_number = ap not (eq-eqb (number_in b) (number_in b) refl)

  own_session : session_bad (session_in b) b ≡ false
  unfolding session_bad
  own_session = ap not (eq-eqb (session_in b) (session_in b) refl)

  own_code : code_of (number_in b) (session_in b) b ≡ first_of ((check_bad b, 3) ∷ content_tests b)
  own_code =
      either (check_bad b)
      (λ bad. code_check_lem _ _ b bad ∙ sym (first_hit _ _ _ bad))
      (λ right. code_content _ _ b right own_number own_session ∙ sym (first_skip _ _ _ right))

  -- good by its own numbers
  pub good_by_code : eqb (code_of (number_in b) (session_in b) b) 0 ≡ is_good b
  unfolding is_good
  good_by_code = ap (λ (c : ℕ). eqb c 0) own_code

  pub good_passes : is_good b ≡ true → Good (number_in b) (session_in b) b
  good_passes good = code_good _ _ b (eqb-true _ _ (good_by_code ∙ good))

  -- a block that fails its check is never good, and a good one passes every test that asks nothing of its numbers
  pub bad_check : check_bad b ≡ true → is_good b ≡ false
  unfolding is_good
  bad_check bad = ap (λ (c : ℕ). eqb c 0) (first_hit _ _ _ bad)

  -- a block that passes where some numbers are due is good
  pub passes_good : (n s : ℕ) → code_of n s b ≡ 0 → is_good b ≡ true
  unfolding is_good
  passes_good n s zero =
      let g = code_good n s b zero in
      ap (λ (c : ℕ). eqb c 0)
      (first_skip _ _ _ g.check ∙ (sym (code_content n s b g.check g.number g.session) ∙ zero))
