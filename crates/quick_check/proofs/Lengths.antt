-- Where a tape's length speaks against it that is its damage; else its blocks decide.
-- Assumes nothing.
use mathlib.Core.Path.{◌≡◌, refl, sym, ap, ◌∙◌}
use mathlib.Core.Bool.{not}
use mathlib.Core.List.{List}
use Prim.Native.Nat.{ℕ, suc, ◌%◌}
use native.Mathlib.Omega.{arith}
use lib.Dec.{ltb, eqb}
use lib.ListN.{length}
use Rattle.slices.proofs.Choice.{pick_yes, pick_no, either}
use Rattle.tape_read.specs.Entries.{block_size, tape_most}
use Rattle.tape_read.specs.Tapes.{read_from, session_of, read_tape}
use Rattle.tape_feed.specs.declared.Damage.{Damage}
use Rattle.quick_check.specs.Damages.{damage_said, damage_in, length_damage}

module _ (t : List ℕ) where
  -- code 0 is neither of the two
  decided : {A : Type 0} {d : Damage} (n : ℕ) → length_damage t ≡ d → d.code ≡ suc n → (length_damage t).code ≡ 0 → A
  decided n e c z =
      let y : ◌≡◌ {A = ℕ} 0 (suc n) = sym z ∙ (ap (λ (d : Damage). d.code) e ∙ c) in
      absurd (omega arith)

  pub by_length : ((length_damage t).code ≡ 0 → ⊥) → length_damage t ≡ damage_in t
  unfolding length_damage damage_in damage_said read_tape
  by_length n =
      either (ltb tape_most (length t))
      (λ y. pick_yes _ _ _ y ∙ sym (ap damage_said (pick_yes _ _ _ y)))
      (λ k.
      either (not (eqb (length t % block_size) 0))
      (λ y. pick_no _ _ _ k ∙ pick_yes _ _ _ y ∙ sym (ap damage_said (pick_no _ _ _ k ∙ pick_yes _ _ _ y)))
      (λ m. absurd (n (ap (λ (d : Damage). d.code) (pick_no _ _ _ k ∙ pick_no _ _ _ m)))))

  pub by_blocks : (length_damage t).code ≡ 0 → damage_in t ≡ damage_said (read_from 0 (session_of t) t)
  unfolding length_damage damage_in read_tape
  by_blocks z =
      either (ltb tape_most (length t))
      (λ y. decided 0 (pick_yes _ _ _ y) refl z)
      (λ k.
      either (not (eqb (length t % block_size) 0))
      (λ y. decided 1 (pick_no _ _ _ k ∙ pick_yes _ _ _ y) refl z)
      (λ m. ap damage_said (pick_no _ _ _ k ∙ pick_no _ _ _ m)))

-- what the two answers of `of_tape` stand on
pub ruleset by_its_length = (by_length, by_blocks)
