-- What callers cite of the check: it may be taken in parts, one after the other; it is a number of 32 bits; and the value
-- published for it comes out. Assumes nothing.
use mathlib.Core.Path.{◌≡◌, refl, sym, ap, ◌∙◌}
use mathlib.Core.Bool.{true}
use mathlib.Core.List.{List, [], ◌∷◌, ◌++◌}
use Prim.Native.Nat.{ℕ, ◌^◌, ◌<◌}
use native.Mathlib.Omega.{arith}
use lib.Bits.{bit_xor, xor_lt}
use lib.ListN.{length, take, drop}
use lib.Pow.{are_bytes}
use lib.Seq.{drop-length}
use Rattle.slices.specs.Choice.{pick}
use Rattle.tape_crc.specs.Check.{divisor, shifted, divided, byte_in, running_of, ones, check_of, covered, block_check_of}
use Rattle.tape_crc.proofs.Division.{divided_below}
use Rattle.tape_crc.proofs.Bytes.{bytes_head, bytes_rest, bytes_take}

-- the check value that is published with the rule, of the nine digits 1 to 9
pub published : check_of (0x31 ∷ 0x32 ∷ 0x33 ∷ 0x34 ∷ 0x35 ∷ 0x36 ∷ 0x37 ∷ 0x38 ∷ 0x39 ∷ []) ≡ 0xCBF4_3926
unfolding check_of running_of byte_in divided shifted divisor pick
published = refl

-- one part after the other
pub running_append : (r : ℕ) (s t : List ℕ) → running_of r (s ++ t) ≡ running_of (running_of r s) t
unfolding running_of
running_append r [] t = refl
running_append r (b ∷ s) t = running_append (byte_in r b) s t

-- nothing is left to take in
pub taken_all_lem : {x : ℕ} (r i : ℕ) (s : List ℕ) → i ≡ length s → running_of r (drop i s) ≡ x → r ≡ x
unfolding running_of
taken_all_lem r i s end e = sym (ap (λ (k : ℕ). running_of r (drop k s)) end ∙ ap (running_of r) (drop-length s)) ∙ e

pub running_below : (r : ℕ) (s : List ℕ) → r < 2 ^ 32 → are_bytes s ≡ true → running_of r s < 2 ^ 32
unfolding running_of byte_in
running_below r [] h e = h
running_below r (b ∷ s) h e =
    let byte : b < 256 = bytes_head b s e in
    running_below (byte_in r b) s (divided_below 8 (bit_xor r b) (xor_lt 32 r b h (omega arith))) (bytes_rest b s e)

pub check_below : (s : List ℕ) → are_bytes s ≡ true → check_of s < 2 ^ 32
unfolding check_of
check_below s e = xor_lt 32 (running_of ones s) ones (running_below ones s (omega arith) e) (omega arith)

pub block_check_below : (b : List ℕ) → are_bytes b ≡ true → block_check_of b < 2 ^ 32
unfolding block_check_of
block_check_below b e = check_below (take covered b) (bytes_take covered b e)
