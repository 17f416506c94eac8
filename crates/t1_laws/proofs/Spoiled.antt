-- A block with one changed byte is never valid: a changed LEN does not fit the number of characters, any other byte changes what the
-- bytes give by exclusive or. Assumes nothing.
use mathlib.Core.Path.{◌≡◌, refl, sym, ap, ◌∙◌}
use mathlib.Core.Bool.{true, false≢true}
use mathlib.Core.List.{List, [], ◌∷◌, ◌++◌}
use Prim.Native.Nat.{ℕ, zero, suc, ◌+◌, ◌<◌}
use native.Mathlib.Nat.{not-suc-le-zero, le_of_suc-le-suc}
use native.Mathlib.Omega.{arith}
use lib.Bits.{bit_xor, xor_comm, xor_self, xor_zero_r}
use lib.ListN.{length, get_or, take, set}
use lib.Seq.{take_all, take-suc}
use borrow.Author.Tests.{ltb-false, eqb-true}
use Rattle.std.specs.Prelude.{Result, is_ok}
use Rattle.slices.proofs.Choice.{picked}
use Rattle.tape_crc.proofs.Xor.{xor_assoc}
use Rattle.atr_characters.specs.Data.{joined_from}
use Rattle.t1_block.specs.Blocks.{len_of, lrc_of}
use Rattle.t1_block.specs.Faults.{in_frame, tested}
use Rattle.t1_block.specs.declared.Kind.{Kind}
use Rattle.t1_block.specs.declared.Fault.{Fault}

-- what was joined can be taken out again
xor_back : (a b : ℕ) → bit_xor (bit_xor a b) b ≡ a
xor_back a b = xor_assoc a b b ∙ (ap (bit_xor a) (xor_self b) ∙ xor_zero_r a)

xor_left : (a b c : ℕ) → bit_xor a c ≡ bit_xor b c → a ≡ b
xor_left a b c e = sym (xor_back a c) ∙ (ap (λ (x : ℕ). bit_xor x c) e ∙ xor_back b c)

xor_right : (a b c : ℕ) → bit_xor c a ≡ bit_xor c b → a ≡ b
xor_right a b c e = xor_left a b c (xor_comm a c ∙ (e ∙ xor_comm c b))

joined_left : (s : List ℕ) (x y : ℕ) → joined_from x s ≡ joined_from y s → x ≡ y
unfolding joined_from
joined_left [] x y e = e
joined_left (b ∷ s) x y e = xor_left x y b (joined_left s (bit_xor x b) (bit_xor y b) e)

-- one byte changed, another result
pub one_changed : (s : List ℕ) (i v x : ℕ) → i < length s → joined_from x (set s i v) ≡ joined_from x s → v ≡ get_or s i 0
unfolding joined_from
one_changed [] i v x h e = absurd (not-suc-le-zero h)
one_changed (b ∷ s) zero v x h e = xor_right v b x (joined_left s (bit_xor x v) (bit_xor x b) e)
one_changed (b ∷ s) (suc i) v x h e = one_changed s i v (bit_xor x b) (le_of_suc-le-suc h) e

joined_snoc : (p : List ℕ) (l x : ℕ) → joined_from x (p ++ (l ∷ [])) ≡ bit_xor (joined_from x p) l
unfolding joined_from
joined_snoc [] l x = refl
joined_snoc (b ∷ p) l x = joined_snoc p l (bit_xor x b)

abbrev Agrees : List ℕ → Type 0
Agrees b = lrc_of (take (3 + len_of b) b) ≡ get_or b (3 + len_of b) 0

-- what a valid block has passed
module _ (b : List ℕ) (most : ℕ) where
  counted : is_ok (tested b most) ≡ true → length b ≡ 4 + len_of b
  unfolding tested
  counted =
      let P = λ (x : Result Kind Fault). is_ok x ≡ true → length b ≡ 4 + len_of b in
      picked P _ _ _ (λ e f. absurd (false≢true f))
      (λ e. picked P _ _ _ (λ g f. absurd (false≢true f))
      (λ g f. let low = ltb-false (length b) (4 + len_of b) e in let high = ltb-false (4 + len_of b) (length b) g in omega arith))

  agreed : is_ok (tested b most) ≡ true → Agrees b
  unfolding tested in_frame
  agreed =
      let P = λ (x : Result Kind Fault). is_ok x ≡ true → Agrees b in
      picked P _ _ _ (λ e f. absurd (false≢true f))
      (λ e. picked P _ _ _ (λ g f. absurd (false≢true f))
      (λ g. picked P _ _ _ (λ k f. eqb-true _ _ k) (λ k f. absurd (false≢true f))))

  -- all its bytes joined give 0
  pub joins_to_nothing : is_ok (tested b most) ≡ true → joined_from 0 b ≡ 0
  unfolding lrc_of
  joins_to_nothing f =
      let n = counted f in
      let inside : 3 + len_of b < length b = omega arith in
      let whole : b ≡ take (3 + len_of b) b ++ (get_or b (3 + len_of b) 0 ∷ []) =
      sym (take_all (suc (3 + len_of b)) b (omega arith)) ∙ take-suc b (3 + len_of b) 0 inside
      in
      ap (joined_from 0) whole
      ∙ (joined_snoc (take (3 + len_of b) b) (get_or b (3 + len_of b) 0) 0
      ∙ (ap (λ (x : ℕ). bit_xor x (get_or b (3 + len_of b) 0)) (agreed f) ∙ xor_self (get_or b (3 + len_of b) 0)))

-- the law: whatever both ends take, a valid block with one byte changed is not valid
pub never_valid : (b : List ℕ) (i v most most' : ℕ) → is_ok (tested b most) ≡ true → i < length b → (v ≡ get_or b i 0 → ⊥)
    → is_ok (tested (set b i v) most') ≡ true → ⊥
never_valid b i v most most' f h differs g =
    differs (one_changed b i v 0 h (joins_to_nothing (set b i v) most' g ∙ sym (joins_to_nothing b most f)))
