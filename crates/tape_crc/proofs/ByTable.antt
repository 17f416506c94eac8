-- A byte by the table: the eight bits that fall out are those of the register's low byte with the byte added, so one
-- remainder of the 256 tells all that is taken away, and the rest of the register moves down.
-- Assumes nothing.
use mathlib.Core.Path.{◌≡◌, sym, ap, ◌∙◌}
use mathlib.Core.List.{List}
use Prim.Native.Nat.{ℕ, suc, ◌+◌, ◌/◌, ◌%◌, ◌<◌}
use native.Mathlib.Nat.{div-eq_of_lt}
use native.Mathlib.Numerals.{add-one}
use native.Mathlib.Omega.{arith}
use lib.Bits.{bit_xor, xor_comm, xor_shr, xor_zero_r}
use lib.ListN.{length, get_or, drop}
use lib.Seq.{drop-cons}
use borrow.Author.Tests.{eqb-true}
use Rattle.tape_crc.specs.Check.{divided, byte_in, running_of}
use Rattle.tape_crc.specs.Tables.{leaves, Remainders}
use Rattle.tape_crc.proofs.Division.{divided_apart}
use Rattle.tape_crc.proofs.Entries.{entry}

module _ {t : List ℕ} (h : Remainders t) where
  pub remainder : (k : ℕ) → k < 256 → get_or t k 0 ≡ divided 8 k
  remainder k below = eqb-true (get_or t k 0) (divided 8 k) (entry leaves t h.rule k (omega arith))

  -- a byte that falls out of a register, by one remainder
  pub byte_out : (x : ℕ) → divided 8 x ≡ bit_xor (x / 256) (get_or t (x % 256) 0)
  byte_out x =
      divided_apart 8 x
      ∙ (ap (λ (y : ℕ). bit_xor y (x / 256)) (sym (remainder (x % 256) (omega arith)))
      ∙ xor_comm (get_or t (x % 256) 0) (x / 256))

  -- and one that is taken in
  pub byte_by_table : (r b : ℕ) → b < 256 → byte_in r b ≡ bit_xor (r / 256) (get_or t (bit_xor r b % 256) 0)
  unfolding byte_in
  byte_by_table r b below = byte_out (bit_xor r b) ∙ ap (λ (y : ℕ). bit_xor y (get_or t (bit_xor r b % 256) 0)) high
    where
      high : bit_xor r b / 256 ≡ r / 256
      high = xor_shr r b 8 ∙ (ap (bit_xor (r / 256)) (div-eq_of_lt below) ∙ xor_zero_r (r / 256))

  -- the byte at a place, taken in by the table: what is left to take in is the rest
  pub turn : (r i : ℕ) (s : List ℕ) → i < length s → get_or s i 0 < 256
      → running_of (bit_xor (r / 256) (get_or t (bit_xor r (get_or s i 0) % 256) 0)) (drop (i + 1) s) ≡ running_of r (drop i s)
  unfolding running_of
  turn r i s inside below =
      rw (add-one, drop-cons s i 0 inside) (ap (λ (x : ℕ). running_of x (drop (suc i) s)) (sym (byte_by_table r (get_or s i 0) below)))
