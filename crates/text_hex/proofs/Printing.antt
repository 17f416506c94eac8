-- Bytes printed as text: two characters each, in order; and read again they are the same bytes.
-- Assumes nothing.
use mathlib.Core.Path.{◌≡◌, refl, sym, ap, ap₂, ◌∙◌}
use mathlib.Core.List.{List, [], ◌∷◌, ◌++◌}
use Prim.Native.Nat.{ℕ, suc, min, ◌+◌, ◌*◌, ◌/◌, ◌%◌, ◌≤◌, ◌<◌}
use native.Mathlib.Numerals.{add-one}
use native.Mathlib.Omega.{arith}
use lib.ListN.{length, get_or, take, set}
use lib.Seq.{take-suc, length-take-le}
use borrow.Author.Tests.{lt-ltb}
use Rattle.slices.specs.Writing.{put}
use Rattle.slices.proofs.Writing.{put_step, put_length}
use Rattle.slices.proofs.Choice.{pick_yes}
use Rattle.text_hex.specs.Digits.{digit_for, pair, unhexed, hexed, hexed_for}
use Rattle.text_hex.proofs.Values.{read_back}
use Rattle.text_hex.proofs.Extra.{as_far_as, two_stores}
use Rattle.text_hex.proofs.Reading.{a_pair}

pub hexed_length : (s : List ℕ) → length (hexed s) ≡ 2 * length s
unfolding hexed
hexed_length [] = refl
hexed_length (b ∷ s) = let rest = hexed_length s in omega arith

hexed_append : (s t : List ℕ) → hexed (s ++ t) ≡ hexed s ++ hexed t
unfolding hexed
hexed_append [] t = refl
hexed_append (b ∷ s) t = ap (λ (l : List ℕ). digit_for (b / 16) ∷ digit_for (b % 16) ∷ l) (hexed_append s t)

pub text_length : (s : List ℕ) (i : ℕ) → i ≤ length s → length (hexed (take i s)) ≡ 2 * i
text_length s i h = hexed_length (take i s) ∙ ap (λ (k : ℕ). 2 * k) (length-take-le i s h)

-- the text of one byte more
module _ (s : List ℕ) (i : ℕ) (h : i < length s) where
  one_more_lem : hexed (take (i + 1) s) ≡ hexed (take i s) ++ hexed (get_or s i 0 ∷ [])
  one_more_lem = ap (λ (k : ℕ). hexed (take k s)) (add-one i) ∙ (ap hexed (take-suc s i 0 h) ∙ hexed_append (take i s) (get_or s i 0 ∷ []))

  pub printed : (d : List ℕ) → 2 * i + 2 ≤ length d
      → set (set (put (hexed (take i s)) 0 d) (2 * i) (digit_for (get_or s i 0 / 16))) (2 * i + 1) (digit_for (get_or s i 0 % 16))
      ≡ put (hexed (take (i + 1) s)) 0 d
  unfolding hexed
  printed d k =
      let x = hexed (take i s) in
      let y = hexed (get_or s i 0 ∷ []) in
      let size = text_length s i (omega arith) in
      let long = put_length x 0 d (omega arith) in
      two_stores (put x 0 d) (2 * i) _ _ (omega arith)
      ∙ (ap (λ (p : ℕ). put y p (put x 0 d)) (sym (omega arith))
      ∙ sym (ap (λ (l : List ℕ). put l 0 d) one_more_lem ∙ put_step x y 0 d (omega arith)))

-- a text that has come as far as there are bytes and room
pub printed_all : (s d : List ℕ) (i : ℕ) → i ≡ min (length d / 2) (length s)
    → (2 * i ≡ length (hexed_for (length d) s)) × (put (hexed (take i s)) 0 d ≡ put (hexed_for (length d) s) 0 d)
unfolding hexed_for
printed_all s d i e =
    let same : hexed (take i s) ≡ hexed (take (length d / 2) s) = ap hexed (sym (as_far_as (length d / 2) i s e)) in
    (sym (text_length s i (omega arith)) ∙ ap length same, ap (λ (l : List ℕ). put l 0 d) same)

-- bytes that were printed are read back
pub unhexed_hexed : (s : List ℕ) → ((i : ℕ) → get_or s i 0 < 256) → unhexed (hexed s) ≡ s
unfolding unhexed hexed
unhexed_hexed [] h = refl
unhexed_hexed (b ∷ s) h =
    let byte = h 0 in
    let x = digit_for (b / 16) in
    let y = digit_for (b % 16) in
    let high = read_back (b / 16) (omega arith) in
    let low = read_back (b % 16) (omega arith) in
    let whole : pair x y ≡ b = a_pair x y (omega arith) (omega arith) ∙ (omega arith) in
    pick_yes _ _ _ (lt-ltb (pair x y) 256 (omega arith))
    ∙ ap₂ (λ (v : ℕ) (l : List ℕ). v ∷ l) whole (unhexed_hexed s (λ i. h (suc i)))
