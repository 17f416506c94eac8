-- Four bytes by four rows, whatever zeros stand behind them, and so eight bytes in one turn: the first four with four bytes of zeros
-- behind them, joined with the second four. Assumes nothing.
use mathlib.Core.Path.{◌≡◌, sym, ap, ap₂, ◌∙◌}
use mathlib.Core.List.{List}
use Prim.Native.Nat.{ℕ, suc, ◌+◌, ◌*◌, ◌/◌, ◌%◌, ◌^◌, ◌≤◌, ◌<◌}
use native.Mathlib.Omega.{arith}
use lib.Bits.{bit_xor, xor_comm}
use lib.ListN.{length, get_or, drop}
use lib.Pow.{shr-shr}
use Rattle.tape_crc.specs.Check.{divided, running_of}
use Rattle.tape_crc.proofs.Xor.{xor_assoc}
use Rattle.tape_crc.proofs.Division.{divided_xor, divided_more, divided_apart}
use Rattle.tape_crc.proofs.ByTables.{word, turn_of_four}
use Rattle.quick_check.specs.Tables.{Rows}
use Rattle.quick_check.proofs.InRows.{row_at}

-- what row m is for: a byte shifted out, and m further ones
abbrev left : ℕ → ℕ → ℕ
left m x = divided (8 + 8 * m) x

-- a byte more: the low eight bits decide, and the rest moves down
apart : (m x : ℕ) → left (suc m) x ≡ bit_xor (left (suc m) (x % 256)) (left m (x / 256))
apart m x =
    first x
    ∙ (ap (divided (8 + 8 * m)) (divided_apart 8 x)
    ∙ (divided_xor (8 + 8 * m) (divided 8 (x % 256)) (x / 256)
    ∙ ap (λ (y : ℕ). bit_xor y (left m (x / 256))) (sym (first (x % 256)))))
  where
    first : (y : ℕ) → left (suc m) y ≡ divided (8 + 8 * m) (divided 8 y)
    first y = ap (λ (n : ℕ). divided n y) (omega arith) ∙ divided_more 8 (8 + 8 * m) y

-- four bytes, the highest by row m
four_apart : (m x : ℕ)
    → left (suc (suc (suc m))) x
    ≡ bit_xor
    (left (suc (suc (suc m))) (x % 256))
    (bit_xor (left (suc (suc m)) (x / 0x100 % 256)) (bit_xor (left (suc m) (x / 0x1_0000 % 256)) (left m (x / 0x100_0000))))
four_apart m x =
    apart (suc (suc m)) x
    ∙ ap (bit_xor (left (suc (suc (suc m))) (x % 256)))
    (apart (suc m) (x / 0x100)
    ∙ ap (bit_xor (left (suc (suc m)) (x / 0x100 % 256)))
    (ap (left (suc m)) (shr-shr x 8 8)
    ∙ (apart m (x / 0x1_0000) ∙ ap (bit_xor (left (suc m) (x / 0x1_0000 % 256))) (ap (left m) (shr-shr x 16 8)))))

-- of four, the first and the last are joined first
sorted : (a b c d : ℕ) → bit_xor a (bit_xor b (bit_xor c d)) ≡ bit_xor (bit_xor (bit_xor a d) c) b
sorted a b c d =
    ap (bit_xor a) (xor_comm b (bit_xor c d))
    ∙ (sym (xor_assoc a (bit_xor c d) b)
    ∙ ap (λ (x : ℕ). bit_xor x b) (ap (bit_xor a) (xor_comm c d) ∙ sym (xor_assoc a d c)))

module _ {t : List ℕ} (h : Rows t) (m : ℕ) (few : m ≤ 4) where
  -- the four places of a register of 32 bits, each in its row
  abbrev joined : ℕ → ℕ
  joined x =
      bit_xor
      (bit_xor
      (bit_xor (get_or t (256 * m + 768 + x % 256) 0) (get_or t (256 * m + x / 0x100_0000) 0))
      (get_or t (256 * m + 256 + x / 0x1_0000 % 256) 0))
      (get_or t (256 * m + 512 + x / 0x100 % 256) 0)

  in_row : (k i j : ℕ) → k < 8 → j < 256 → i ≡ 256 * k + j → get_or t i 0 ≡ left k j
  in_row k i j row byte e = ap (λ (i : ℕ). get_or t i 0) e ∙ row_at h k row j byte

  pub four_by_rows : (x : ℕ) → x < 2 ^ 32 → divided (32 + 8 * m) x ≡ joined x
  four_by_rows x below =
      let a = x % 256 in
      let b = x / 0x100 % 256 in
      let c = x / 0x1_0000 % 256 in
      let d = x / 0x100_0000 in
      ap (λ (n : ℕ). divided n x) bits
      ∙ (four_apart m x
      ∙ (sorted (left (suc (suc (suc m))) a) (left (suc (suc m)) b) (left (suc m) c) (left m d)
      ∙ sym
      (ap₂ bit_xor
      (ap₂ bit_xor
      (ap₂ bit_xor
      (in_row (suc (suc (suc m))) (256 * m + 768 + a) a (omega arith) (omega arith) (omega arith))
      (in_row m (256 * m + d) d (omega arith) (omega arith) (omega arith)))
      (in_row (suc m) (256 * m + 256 + c) c (omega arith) (omega arith) (omega arith)))
      (in_row (suc (suc m)) (256 * m + 512 + b) b (omega arith) (omega arith) (omega arith)))))
    where
      bits : 32 + 8 * m ≡ 8 + 8 * suc (suc (suc m))
      bits = omega arith

-- the eight bytes at a place, taken in at once: what is left to take in is the rest
pub turn_of_eight : (r i : ℕ) (s : List ℕ) (v w : ℕ) → v ≡ word i s → w ≡ word (i + 4) s → i + 8 ≤ length s → ((j : ℕ) → get_or s j 0 < 256)
    → running_of (bit_xor (divided 64 (bit_xor r v)) (divided 32 w)) (drop (i + 8) s) ≡ running_of r (drop i s)
turn_of_eight r i s v w first second inside byte =
    ap₂ (λ (x k : ℕ). running_of x (drop k s)) (sym both) eight
    ∙ (turn_of_four (divided 32 (bit_xor r v)) (i + 4) s w second (omega arith) byte ∙ turn_of_four r i s v first (omega arith) byte)
  where
    both : divided 32 (bit_xor (divided 32 (bit_xor r v)) w) ≡ bit_xor (divided 64 (bit_xor r v)) (divided 32 w)
    both =
        divided_xor 32 (divided 32 (bit_xor r v)) w
        ∙ ap (λ (z : ℕ). bit_xor z (divided 32 w)) (sym (divided_more 32 32 (bit_xor r v)))

    eight : i + 8 ≡ i + 4 + 4
    eight = omega arith
