-- Four bytes by four tables. Each further table follows from the one before it by one rule: its entry is that one's entry
-- moved down by eight bits and joined with what the first table has for the byte that fell out. So an entry of table k is
-- what its place leaves when k further bytes of zeros are shifted out after it, and four bytes are taken apart into four
-- places. Assumes nothing.
use mathlib.Core.Path.{◌≡◌, sym, ap, ap₂, ◌∙◌}
use mathlib.Core.List.{List, [], ◌∷◌}
use Prim.Native.Nat.{ℕ, zero, suc, ◌+◌, ◌*◌, ◌/◌, ◌%◌, ◌^◌, ◌≤◌, ◌<◌}
use native.Mathlib.Nat.{add-suc, not-suc-le-zero, le_of_suc-le-suc}
use native.Mathlib.Numerals.{add-one}
use native.Mathlib.Omega.{arith}
use lib.Bits.{bit_xor, xor_comm}
use lib.ListN.{length, get_or, drop}
use lib.Pow.{shr-shr}
use lib.Seq.{drop-cons}
use borrow.Author.Tests.{eqb-true}
use Rattle.tape_crc.specs.Check.{divided, byte_in, running_of}
use Rattle.tape_crc.specs.Tables.{moved, moved_on, Remainders, Follows, InTurn, Tables}
use Rattle.tape_crc.proofs.Xor.{xor_assoc}
use Rattle.tape_crc.proofs.Division.{divided_xor, divided_more, divided_apart}
use Rattle.tape_crc.proofs.Entries.{entry}
use Rattle.tape_crc.proofs.ByTable.{remainder, byte_out}
use Rattle.tape_crc.proofs.Together.{four_at_once}

-- the four bytes at a place of a list as a number, the first one lowest
abbrev pub word : ℕ → List ℕ → ℕ
word i s = get_or s i 0 + get_or s (i + 1) 0 * 0x100 + get_or s (i + 2) 0 * 0x1_0000 + get_or s (i + 3) 0 * 0x100_0000

ahead : (s : List ℕ) (i k : ℕ) → i + k < length s → drop (i + k) s ≡ get_or s (i + k) 0 ∷ drop (i + suc k) s
ahead s i k inside = drop-cons s (i + k) 0 inside ∙ ap (λ (m : ℕ). get_or s (i + k) 0 ∷ drop m s) (sym (add-suc i k))

four_ahead : (s : List ℕ) (i : ℕ) → i + 4 ≤ length s
    → drop i s ≡ get_or s i 0 ∷ get_or s (i + 1) 0 ∷ get_or s (i + 2) 0 ∷ get_or s (i + 3) 0 ∷ drop (i + 4) s
four_ahead s i inside =
    drop-cons s i 0 (omega arith)
    ∙ ap (◌∷◌ (get_or s i 0))
    (ap (λ (m : ℕ). drop m s) (sym (add-one i))
    ∙ (ahead s i 1 (omega arith)
    ∙ ap (◌∷◌ (get_or s (i + 1) 0)) (ahead s i 2 (omega arith) ∙ ap (◌∷◌ (get_or s (i + 2) 0)) (ahead s i 3 (omega arith)))))

-- a byte more: the low eight bits decide, and the rest moves down
apart : (n x : ℕ) → divided (8 + n) x ≡ bit_xor (divided (8 + n) (x % 256)) (divided n (x / 256))
apart n x =
    divided_more 8 n x
    ∙ (ap (divided n) (divided_apart 8 x)
    ∙ (divided_xor n (divided 8 (x % 256)) (x / 256)
    ∙ ap (λ (y : ℕ). bit_xor y (divided n (x / 256))) (sym (divided_more 8 n (x % 256)))))

-- four bytes more
four_apart : (x : ℕ)
    → divided 32 x
    ≡ bit_xor
    (divided 32 (x % 256))
    (bit_xor (divided 24 (x / 0x100 % 256)) (bit_xor (divided 16 (x / 0x1_0000 % 256)) (divided 8 (x / 0x100_0000))))
four_apart x =
    apart 24 x
    ∙ ap (bit_xor (divided 32 (x % 256)))
    (apart 16 (x / 0x100)
    ∙ ap (bit_xor (divided 24 (x / 0x100 % 256)))
    (ap (divided 16) (shr-shr x 8 8)
    ∙ (apart 8 (x / 0x1_0000) ∙ ap (bit_xor (divided 16 (x / 0x1_0000 % 256))) (ap (divided 8) (shr-shr x 16 8)))))

-- of four, the first and the last are joined first
sorted : (a b c d : ℕ) → bit_xor a (bit_xor b (bit_xor c d)) ≡ bit_xor (bit_xor (bit_xor a d) c) b
sorted a b c d =
    ap (bit_xor a) (xor_comm b (bit_xor c d))
    ∙ (sym (xor_assoc a (bit_xor c d) b)
    ∙ ap (λ (x : ℕ). bit_xor x b) (ap (bit_xor a) (xor_comm c d) ∙ sym (xor_assoc a d c)))

-- the rule at an entry of the next table
next : {first t u : List ℕ} → Remainders first → Follows first t u → (n : ℕ) → ((j : ℕ) → j < 256 → get_or t j 0 ≡ divided n j)
    → (j : ℕ) → j < 256 → get_or u j 0 ≡ divided (n + 8) j
next {first} {t} {u} h f n at j below =
    eqb-true (get_or u j 0) (moved first (get_or t j 0)) (entry (moved_on first t) u f.rule j (omega (arith, f.size)))
    ∙ (sym (byte_out h (get_or t j 0)) ∙ (ap (divided 8) (at j below) ∙ sym (divided_more n 8 j)))

-- and of any of the tables: table k holds what its places leave when k more bytes are shifted out
further : {first : List ℕ} → Remainders first → (t : List ℕ) (more : List (List ℕ)) → InTurn first t more
    → (n : ℕ) → ((j : ℕ) → j < 256 → get_or t j 0 ≡ divided n j)
    → (k : ℕ) → k < length more → (j : ℕ) → j < 256 → get_or (get_or more k []) j 0 ≡ divided (n + 8 * suc k) j
unfolding InTurn
further h t [] f n at k inside j below = absurd (not-suc-le-zero inside)
further h t (u ∷ more) f n at zero inside j below = next h f.0 n at j below
further h t (u ∷ more) f n at (suc k) inside j below =
    further h u more f.1 (n + 8) (next h f.0 n at) k (le_of_suc-le-suc inside) j below
    ∙ ap (λ (m : ℕ). divided m j) (longer n k)
  where
    longer : (n k : ℕ) → n + 8 + 8 * suc k ≡ n + 8 * suc (suc k)
    longer n k = omega arith

module _ {first one two three : List ℕ} (h : Tables first (one ∷ two ∷ three ∷ [])) where
  -- an entry of one of the three tables
  later : (k : ℕ) → k < 3 → (j : ℕ) → j < 256 → get_or (get_or (one ∷ two ∷ three ∷ []) k []) j 0 ≡ divided (8 + 8 * suc k) j
  later = further h.remainders first (one ∷ two ∷ three ∷ []) h.further 8 (remainder h.remainders)

  -- the four places of a register of 32 bits, each in its table
  abbrev joined : ℕ → ℕ
  joined x =
      bit_xor
      (bit_xor (bit_xor (get_or three (x % 256) 0) (get_or first (x / 0x100_0000) 0)) (get_or one (x / 0x1_0000 % 256) 0))
      (get_or two (x / 0x100 % 256) 0)

  pub four_by_tables : (x : ℕ) → x < 2 ^ 32 → divided 32 x ≡ joined x
  four_by_tables x below =
      four_apart x
      ∙ (sorted (divided 32 (x % 256)) (divided 24 (x / 0x100 % 256)) (divided 16 (x / 0x1_0000 % 256)) (divided 8 (x / 0x100_0000))
      ∙ sym
      (ap₂ bit_xor
      (ap₂ bit_xor
      (ap₂ bit_xor (later 2 (omega arith) (x % 256) (omega arith)) (remainder h.remainders (x / 0x100_0000) (omega arith)))
      (later 0 (omega arith) (x / 0x1_0000 % 256) (omega arith)))
      (later 1 (omega arith) (x / 0x100 % 256) (omega arith))))

-- the four bytes at a place, taken in at once: what is left to take in is the rest
pub turn_of_four : (r i : ℕ) (s : List ℕ) (w : ℕ) → w ≡ word i s → i + 4 ≤ length s → ((j : ℕ) → get_or s j 0 < 256)
    → running_of (divided 32 (bit_xor r w)) (drop (i + 4) s) ≡ running_of r (drop i s)
unfolding running_of
turn_of_four r i s w e inside byte =
    ap (λ (x : ℕ). running_of (divided 32 (bit_xor r x)) (drop (i + 4) s)) e
    ∙ (ap (λ (y : ℕ). running_of y (drop (i + 4) s)) (sym taken) ∙ sym (ap (running_of r) (four_ahead s i inside)))
  where
    taken : byte_in (byte_in (byte_in (byte_in r (get_or s i 0)) (get_or s (i + 1) 0)) (get_or s (i + 2) 0)) (get_or s (i + 3) 0)
        ≡ divided 32 (bit_xor r (word i s))
    taken =
        four_at_once r (get_or s i 0) (get_or s (i + 1) 0) (get_or s (i + 2) 0) (get_or s (i + 3) 0)
        (byte i) (byte (i + 1)) (byte (i + 2)) (byte (i + 3))
