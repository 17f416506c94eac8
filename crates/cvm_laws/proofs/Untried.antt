-- A byte at a rule that is not tried changes nothing: two payloads that agree wherever the first has its rule tried come to the
-- same. A rule's turn asks for its byte only where the rule is tried, and what follows the rule that ends the list is not asked.
-- Assumes nothing.
use mathlib.Core.Path.{◌≡◌, refl, sym, ap, ◌∙◌}
use mathlib.Core.Bool.{Bool, true, false}
use mathlib.Core.List.{List, [], ◌∷◌}
use Prim.Native.Nat.{ℕ, zero, suc}
use lib.Bits.{bit_or}
use lib.ListN.{drop, get_or}
use Rattle.slices.proofs.Choice.{pick_no, pick_cong, either}
use Rattle.cvm_rules.specs.Turns.{tried, turn_of}
use Rattle.cvm_rules.specs.declared.Circumstances.{Circumstances}
use Rattle.cvm_rules.specs.declared.Turn.{Turn}
use Rattle.cvm.specs.Lists.{limit_x, limit_y, rules_of}
use Rattle.cvm.specs.Verified.{following, verified_from, verified}
use Rattle.cvm_laws.specs.Tries.{tries_from, tries, Agree}
use Rattle.cvm_laws.proofs.OneRule.{over}

next : (s : List ℕ) (k : ℕ) → get_or (drop 1 s) k 0 ≡ get_or s (suc k) 0
next [] k = refl
next (b ∷ s) k = refl

module _ (c : Circumstances) (x y : ℕ) where
  same_turn : (first code a b : ℕ) → (tried c x y first code ≡ true → a ≡ b) → turn_of c x y first code a ≡ turn_of c x y first code b
  same_turn first code a b h =
      either (tried c x y first code)
      (λ e. ap (turn_of c x y first code) (h e))
      (λ e. over c x y first code a e ∙ sym (over c x y first code b e))

  pub same_from : (bits : ℕ) (rules r s : List ℕ) → Agree (tries_from c x y rules r) r s
      → verified_from c x y bits rules r ≡ verified_from c x y bits rules s
  unfolding verified_from following tries_from
  same_from bits [] r s h = refl
  same_from bits (b ∷ []) r s h = refl
  same_from bits (first ∷ code ∷ rules) r s h =
      let t = turn_of c x y first code (get_or r 0 0) in
      let later : t.ends ≡ false → Agree (tries_from c x y rules (drop 1 r)) (drop 1 r) (drop 1 s) =
      λ e k a. next r k ∙ (h (suc k) (ap (λ (l : List Bool). get_or l k false) (pick_no _ _ _ e) ∙ a) ∙ sym (next s k)) in
      pick_cong t.ends _ _ _ _ (λ _. refl) (λ e. same_from (bit_or bits t.bits) rules (drop 1 r) (drop 1 s) (later e))
      ∙ ap (λ (u : Turn). following u bits (λ so_far. verified_from c x y so_far rules (drop 1 s)))
      (same_turn first code (get_or r 0 0) (get_or s 0 0) (h zero))

pub untried_ignored : (c : Circumstances) (list r s : List ℕ) → Agree (tries c list r) r s → verified c list r ≡ verified c list s
unfolding verified tries
untried_ignored c list r s h = same_from c (limit_x list) (limit_y list) 0 (rules_of list) r s h
