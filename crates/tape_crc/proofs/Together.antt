-- Bytes taken in together: as one number with the first byte lowest they are added to the register at once, and then all
-- their bits are shifted out. Assumes nothing.
use mathlib.Core.Path.{◌≡◌, refl, sym, ap, ap₂, ◌∙◌}
use mathlib.Core.Bool.{true}
use mathlib.Core.List.{List, [], ◌∷◌}
use Prim.Native.Nat.{ℕ, ◌+◌, ◌*◌, ◌<◌}
use native.Mathlib.Nat.{mul-suc, add_comm}
use native.Mathlib.Omega.{arith}
use lib.Bits.{bit_xor, xor_comm, xor_zero_r, xor_shifted}
use lib.ListN.{length}
use lib.Pow.{are_bytes}
use Rattle.tape_crc.specs.Check.{divided, byte_in, running_of}
use Rattle.tape_crc.proofs.Xor.{xor_assoc}
use Rattle.tape_crc.proofs.Division.{divided_more, divided_late}
use Rattle.tape_crc.proofs.Bytes.{bytes_head, bytes_rest, bytes_cons}

abbrev pub low_first : List ℕ → ℕ
low_first [] = 0
low_first (b ∷ s) = b + low_first s * 256

lowest : (b n : ℕ) → b < 256 → bit_xor b (n * 256) ≡ b + n * 256
lowest b n below = xor_comm b (n * 256) ∙ (xor_shifted n 8 b below ∙ add_comm (n * 256) b)

-- single steps, any number of them, are one step
pub together : (r : ℕ) (s : List ℕ) → are_bytes s ≡ true → running_of r s ≡ divided (8 * length s) (bit_xor r (low_first s))
unfolding running_of byte_in divided
together r [] e = sym (xor_zero_r r)
together r (b ∷ s) e =
    together (byte_in r b) s (bytes_rest b s e)
    ∙ (ap (divided (8 * length s)) (divided_late 8 (bit_xor r b) (low_first s))
    ∙ (sym (divided_more 8 (8 * length s) (bit_xor (bit_xor r b) (low_first s * 256)))
    ∙ ap₂ divided (add_comm 8 (8 * length s) ∙ sym (mul-suc 8 (length s)))
    (xor_assoc r b (low_first s * 256) ∙ ap (bit_xor r) (lowest b (low_first s) (bytes_head b s e)))))

-- four single steps are one step of four
pub four_at_once : (r a b c d : ℕ) → a < 256 → b < 256 → c < 256 → d < 256
    → byte_in (byte_in (byte_in (byte_in r a) b) c) d ≡ divided 32 (bit_xor r (a + b * 0x100 + c * 0x1_0000 + d * 0x100_0000))
unfolding running_of
four_at_once r a b c d ha hb hc hd =
    together r (a ∷ b ∷ c ∷ d ∷ []) bytes
    ∙ ap (λ (w : ℕ). divided 32 (bit_xor r w)) one_number
  where
    bytes : are_bytes (a ∷ b ∷ c ∷ d ∷ []) ≡ true
    bytes = bytes_cons a (b ∷ c ∷ d ∷ []) ha (bytes_cons b (c ∷ d ∷ []) hb (bytes_cons c (d ∷ []) hc (bytes_cons d [] hd refl)))

    one_number : low_first (a ∷ b ∷ c ∷ d ∷ []) ≡ a + b * 0x100 + c * 0x1_0000 + d * 0x100_0000
    one_number = omega arith
