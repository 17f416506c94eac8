-- Text read as bytes, a pair at a time: what stands at the front decides, and a character past the end is no digit.
-- Assumes nothing.
use mathlib.Core.Path.{◌≡◌, refl, sym, ap, ap₂, ◌∙◌}
use mathlib.Core.Bool.{false}
use mathlib.Core.List.{List, [], ◌∷◌}
use Prim.Native.Nat.{ℕ, ◌+◌, ◌*◌, ◌<◌}
use native.Mathlib.Nat.{add-zero}
use native.Mathlib.Omega.{arith}
use lib.Dec.{ltb}
use lib.ListN.{get_or, drop}
use lib.Seq.{drop-drop, get_or-drop}
use borrow.Author.Tests.{lt-ltb, le-ltb, ltb-true}
use Rattle.slices.specs.Choice.{pick}
use Rattle.slices.proofs.Choice.{pick_yes, pick_no, and_both}
use Rattle.text_hex.specs.Digits.{among, digit, pair, unhexed}
use Rattle.text_hex.proofs.Extra.{and_no}

module _ (a b : ℕ) where
  pub a_pair : digit a < 16 → digit b < 16 → pair a b ≡ 16 * digit a + digit b
  unfolding pair
  a_pair h k = pick_yes _ _ _ (and_both _ _ (lt-ltb _ _ h) (lt-ltb _ _ k))

  pub no_pair : (digit a < 16 → digit b < 16 → ⊥) → pair a b ≡ 256
  unfolding pair
  no_pair n = pick_no _ _ _ (and_no _ _ (λ h k. n (ltb-true _ _ h) (ltb-true _ _ k)))

-- a byte past the end is read as 0, which is no digit
past_end : (a : ℕ) → ltb (pair a 0) 256 ≡ false
unfolding digit among pick
past_end a = le-ltb (pair a 0) 256 (let none = no_pair a 0 (λ h k. omega arith) in omega arith)

front : (s : List ℕ) → unhexed s ≡ pick (ltb (pair (get_or s 0 0) (get_or s 1 0)) 256)
    (pair (get_or s 0 0) (get_or s 1 0) ∷ unhexed (drop 2 s)) []
unfolding unhexed
front [] = sym (pick_no _ _ _ (past_end 0))
front (a ∷ []) = sym (pick_no _ _ _ (past_end a))
front (a ∷ b ∷ s) = refl

-- the pair at place 2 n
module _ (s : List ℕ) (n v : ℕ) (e : v ≡ pair (get_or s (2 * n) 0) (get_or s (2 * n + 1) 0)) where
  at_place : unhexed (drop (2 * n) s) ≡ pick (ltb v 256) (v ∷ unhexed (drop (2 * (n + 1)) s)) []
  at_place =
      let t = drop (2 * n) s in
      let moved : 2 * n + 2 ≡ 2 * (n + 1) = omega arith in
      let value : pair (get_or t 0 0) (get_or t 1 0) ≡ v
      = ap₂ pair (get_or-drop (2 * n) s 0 0 ∙ ap (λ (k : ℕ). get_or s k 0) (add-zero (2 * n))) (get_or-drop (2 * n) s 1 0) ∙ sym e in
      let rest : drop 2 t ≡ drop (2 * (n + 1)) s = drop-drop 2 (2 * n) s ∙ ap (λ (k : ℕ). drop k s) moved in
      front t ∙ ap₂ (λ (x : ℕ) (l : List ℕ). pick (ltb x 256) (x ∷ unhexed l) []) value rest

  pub pair_read : v < 256 → unhexed (drop (2 * n) s) ≡ v ∷ unhexed (drop (2 * (n + 1)) s)
  pair_read h = at_place ∙ pick_yes _ _ _ (lt-ltb _ _ h)

  pub pair_missing : v ≡ 256 → unhexed (drop (2 * n) s) ≡ []
  pair_missing f = at_place ∙ pick_no _ _ _ (le-ltb v 256 (omega arith))
