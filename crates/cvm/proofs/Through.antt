-- A list gone through by places: what is left from rule i on is the turn of rule i, and then what is left from the next rule on.
-- Assumes nothing.
use mathlib.Core.Path.{◌≡◌, refl, sym, ap, ap₂, ◌∙◌}
use mathlib.Core.Bool.{true, false}
use mathlib.Core.List.{List, [], ◌∷◌}
use Prim.Native.Nat.{ℕ, suc, ◌+◌, ◌*◌, ◌<◌, ◌≤◌}
use native.Mathlib.Nat.{add-zero}
use native.Mathlib.Omega.{arith}
use lib.Bits.{bit_or}
use lib.ListN.{length, drop, get_or, length-drop}
use lib.Seq.{drop-cons, get_or-drop, drop-drop}
use Rattle.slices.proofs.Choice.{pick_yes, pick_no}
use Rattle.cvm_rules.specs.Bits.{not_successful}
use Rattle.cvm_rules.specs.Turns.{turn_of}
use Rattle.cvm_rules.specs.declared.Circumstances.{Circumstances}
use Rattle.cvm_rules.specs.declared.Turn.{Turn}
use Rattle.cvm.specs.Lists.{rules_in}
use Rattle.cvm.specs.Verified.{following, verified_from}

-- both bytes of a rule that is counted are there, and behind the last of them at most one byte is left
pub inside : (list : List ℕ) (i : ℕ) → i < rules_in list → 9 + 2 * i < length list
unfolding rules_in
inside list i h = omega arith

pub outside : (list : List ℕ) (i : ℕ) → rules_in list ≤ i → length list ≤ 9 + 2 * i
unfolding rules_in
outside list i h = omega arith

-- the two bytes at a place
two : (s : List ℕ) (p q r : ℕ) → suc p ≡ q → suc q ≡ r → q < length s → drop p s ≡ get_or s p 0 ∷ get_or s q 0 ∷ drop r s
two s p q r e f h =
    drop-cons s p 0 (omega arith)
    ∙ ap (λ (l : List ℕ). get_or s p 0 ∷ l)
    (ap (λ (k : ℕ). drop k s) e ∙ (drop-cons s q 0 h ∙ ap (λ (k : ℕ). get_or s q 0 ∷ drop k s) f))

module _ (c : Circumstances) (x y : ℕ) where
  -- what less than a rule comes to
  pub exhausted : (bits : ℕ) (s results : List ℕ) → length s ≤ 1 → verified_from c x y bits s results ≡ bit_or bits not_successful
  unfolding verified_from
  exhausted bits [] results h = refl
  exhausted bits (b ∷ []) results h = refl
  exhausted bits (b ∷ d ∷ s) results h = absurd (omega arith)

  module _ (list results : List ℕ) (i bits : ℕ) where
    -- what is left from rule i on, and the turn of rule i
    abbrev pub left_from : ℕ
    left_from = verified_from c x y bits (drop (8 + 2 * i) list) (drop i results)

    abbrev pub turn_at : Turn
    turn_at = turn_of c x y (get_or list (8 + 2 * i) 0) (get_or list (9 + 2 * i) 0) (get_or results i 0)

    pub past : length list ≤ 9 + 2 * i → left_from ≡ bit_or bits not_successful
    past h = exhausted bits (drop (8 + 2 * i) list) (drop i results) (simp length-drop (omega arith))

    one_rule : 9 + 2 * i < length list
        → left_from ≡ following turn_at bits (λ b. verified_from c x y b (drop (8 + 2 * (i + 1)) list) (drop (i + 1) results))
    unfolding verified_from
    one_rule h =
        ap (λ (s : List ℕ). verified_from c x y bits s (drop i results))
        (two list (8 + 2 * i) (9 + 2 * i) (8 + 2 * (i + 1)) (omega arith) (omega arith) h)
        ∙ ap₂ (λ (b : ℕ) (rest : List ℕ).
        following (turn_of c x y (get_or list (8 + 2 * i) 0) (get_or list (9 + 2 * i) 0) b) bits
        (λ so_far. verified_from c x y so_far (drop (8 + 2 * (i + 1)) list) rest))
        (get_or-drop i results 0 0 ∙ ap (λ (k : ℕ). get_or results k 0) (add-zero i))
        (drop-drop 1 i results)

    -- in these t is the turn that the code took
    module _ (t : Turn) (e : t ≡ turn_at) (h : 9 + 2 * i < length list) where
      pub rule_ends : t.ends ≡ true → left_from ≡ bit_or bits t.bits
      unfolding following
      rule_ends ends =
          one_rule h ∙ (pick_yes _ _ _ (ap (λ (u : Turn). u.ends) (sym e) ∙ ends) ∙ ap (λ (u : Turn). bit_or bits u.bits) (sym e))

      pub rule_goes_on : t.ends ≡ false
          → left_from ≡ verified_from c x y (bit_or bits t.bits) (drop (8 + 2 * (i + 1)) list) (drop (i + 1) results)
      unfolding following
      rule_goes_on on =
          one_rule h
          ∙ (pick_no _ _ _ (ap (λ (u : Turn). u.ends) (sym e) ∙ on)
          ∙ ap (λ (u : Turn). verified_from c x y (bit_or bits u.bits) (drop (8 + 2 * (i + 1)) list) (drop (i + 1) results)) (sym e))
