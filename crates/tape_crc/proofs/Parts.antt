-- Two parts side by side. The check is linear: after two parts the register is what the second leaves from nothing, joined with what the
-- first left, past as many zeros as the second has bytes. Such zeros only shift, so they are passed bit by bit: a bit of the register
-- leaves what the one above it leaves, shifted once more. Assumes nothing.
use mathlib.Core.Path.{◌≡◌, sym, ap, subst, ◌∙◌}
use mathlib.Core.Bool.{true}
use mathlib.Core.List.{List, ◌++◌, append_assoc}
use Prim.Native.Nat.{ℕ, zero, suc, ◌+◌, ◌*◌, ◌-◌, ◌/◌, ◌%◌, ◌^◌, ◌≤◌, ◌<◌}
use native.Mathlib.Nat.{add_comm, add-mul, zero-mul, one-mul, mul_assoc, mul_comm, mul-lt-mul_of_pos_right, pow-suc, mod-lt, zero-lt-suc}
use native.Mathlib.Numerals.{add-one}
use native.Mathlib.Omega.{arith}
use lib.Bits.{bit_xor, xor_shifted}
use lib.ListN.{length, take, drop, take-append-drop}
use lib.Pow.{are_bytes, split, pow_pos, shr-shr}
use lib.Seq.{drop-drop}
use Rattle.tape_crc.specs.Check.{shifted, divided, running_of}
use Rattle.tape_crc.proofs.Division.{divided_xor, divided_zeros, divided_more}
use Rattle.tape_crc.proofs.Together.{low_first, together}
use Rattle.tape_crc.proofs.Laws.{running_append}

pub in_parts : (r : ℕ) (a b : List ℕ) → are_bytes b ≡ true
    → running_of r (a ++ b) ≡ bit_xor (divided (8 * length b) (running_of r a)) (running_of 0 b)
in_parts r a b e =
    running_append r a b
    ∙ (together (running_of r a) b e
    ∙ (divided_xor (8 * length b) (running_of r a) (low_first b)
    ∙ ap (bit_xor (divided (8 * length b) (running_of r a))) (sym (together 0 b e))))

-- a part of what is left, from one place to another, and what is left behind it
ahead : (i j : ℕ) (s : List ℕ) → i ≤ j → take (j - i) (drop i s) ++ drop j s ≡ drop i s
ahead i j s order =
    ap (λ (l : List ℕ). take (j - i) (drop i s) ++ l) (ap (λ (k : ℕ). drop k s) (sym next) ∙ sym (drop-drop (j - i) i s))
    ∙ take-append-drop (j - i) (drop i s)
  where
    next : i + (j - i) ≡ j
    next = omega arith

-- two parts taken in, one behind the other: what is left to take in is the rest
pub two_parts : (r i j k : ℕ) (s : List ℕ) → i ≤ j → j ≤ k
    → running_of (running_of r (take (j - i) (drop i s) ++ take (k - j) (drop j s))) (drop k s) ≡ running_of r (drop i s)
two_parts r i j k s first second =
    sym (running_append r (take (j - i) (drop i s) ++ take (k - j) (drop j s)) (drop k s))
    ∙ ap (running_of r)
    (append_assoc (take (j - i) (drop i s)) (take (k - j) (drop j s)) (drop k s)
    ∙ (ap (λ (l : List ℕ). take (j - i) (drop i s) ++ l) (ahead j k s second) ∙ ahead i j s first))

-- the bit below leaves the same, shifted once more
pub bit_below : (n k : ℕ) → divided n (2 ^ k) ≡ shifted (divided n (2 ^ suc k))
unfolding divided
bit_below n k =
    ap (divided n) (sym (ap (divided 1) (pow-suc 2 k) ∙ divided_zeros 1 (2 ^ k)))
    ∙ (sym (divided_more 1 n (2 ^ suc k))
    ∙ (ap (λ (m : ℕ). divided m (2 ^ suc k)) (add_comm 1 n) ∙ divided_more n 1 (2 ^ suc k)))

pub nothing_left : (n : ℕ) → divided n 0 ≡ 0
nothing_left n = ap (divided n) (sym (zero-mul (2 ^ n))) ∙ divided_zeros n 0

-- a bit that is set or not
bit_times : (n b m : ℕ) → b < 2 → divided n (b * m) ≡ b * divided n m
bit_times n zero m h = ap (divided n) (zero-mul m) ∙ (nothing_left n ∙ sym (zero-mul (divided n m)))
bit_times n (suc zero) m h = ap (divided n) (one-mul m) ∙ sym (one-mul (divided n m))
bit_times n (suc (suc b)) m h = absurd (omega arith)

pub bit_below_32 : (b m : ℕ) → b < 2 → m < 2 ^ 32 → b * m < 2 ^ 32
bit_below_32 zero m h small = subst (λ (x : ℕ). x < 2 ^ 32) (sym (zero-mul m)) (omega arith)
bit_below_32 (suc zero) m h small = subst (λ (x : ℕ). x < 2 ^ 32) (sym (one-mul m)) small
bit_below_32 (suc (suc b)) m h small = absurd (omega arith)

-- the lowest bit of a number that stands k bits high, and those above it
lowest_bit : (n y k : ℕ) → divided n (y * 2 ^ k) ≡ bit_xor (divided n (y / 2 * 2 ^ suc k)) (y % 2 * divided n (2 ^ k))
lowest_bit n y k =
    ap (divided n) (apart ∙ sym (xor_shifted (y / 2) (suc k) (y % 2 * 2 ^ k) small))
    ∙ (divided_xor n (y / 2 * 2 ^ suc k) (y % 2 * 2 ^ k)
    ∙ ap (bit_xor (divided n (y / 2 * 2 ^ suc k))) (bit_times n (y % 2) (2 ^ k) digit))
  where
    digit : y % 2 < 2
    digit = mod-lt y (zero-lt-suc 1)

    doubled : 2 * 2 ^ k ≡ 2 ^ suc k
    doubled = mul_comm 2 (2 ^ k) ∙ sym (pow-suc 2 k)

    small : y % 2 * 2 ^ k < 2 ^ suc k
    small = subst (λ (m : ℕ). y % 2 * 2 ^ k < m) doubled (mul-lt-mul_of_pos_right digit (pow_pos k))

    apart : y * 2 ^ k ≡ y / 2 * 2 ^ suc k + y % 2 * 2 ^ k
    apart =
        ap (λ (z : ℕ). z * 2 ^ k) (sym (split y 1))
        ∙ (add-mul (y / 2 * 2) (y % 2) (2 ^ k)
        ∙ ap (λ (z : ℕ). z + y % 2 * 2 ^ k) (mul_assoc (y / 2) 2 (2 ^ k) ∙ ap (λ (z : ℕ). y / 2 * z) doubled))

-- the bits of a number from its top down to k: those down to k + 1, and one more
pub bit_more : (n x k : ℕ)
    → divided n (x / 2 ^ k * 2 ^ k) ≡ bit_xor (divided n (x / 2 ^ suc k * 2 ^ suc k)) (x / 2 ^ k % 2 * divided n (2 ^ k))
bit_more n x k =
    lowest_bit n (x / 2 ^ k) k
    ∙ ap (λ (q : ℕ). bit_xor (divided n (q * 2 ^ suc k)) (x / 2 ^ k % 2 * divided n (2 ^ k)))
    (shr-shr x k 1 ∙ ap (λ (m : ℕ). x / 2 ^ m) (add-one k))
