-- A block as it is laid out: what its fields read as, and that it passes every test. Assumes nothing.
use mathlib.Core.Path.{◌≡◌, refl, sym, ap, ◌∙◌}
use mathlib.Core.Bool.{true, false, not, ◌&&◌, and-eq-true_iff}
use mathlib.Core.List.{List, [], ◌∷◌, ◌++◌, append_assoc, append-nil}
use Prim.Native.Nat.{ℕ, ◌*◌, ◌^◌, ◌≤◌, ◌<◌}
use native.Mathlib.Nat.{mul-one, add-zero}
use native.Mathlib.Omega.{arith}
use Rattle.std.proofs.Common.{None}
use lib.Dec.{leb}
use lib.ListN.{take, drop}
use lib.Pow.{are_bytes}
use lib.Seq.{take_at, drop_at, take-append-le}
use borrow.Author.Tests.{ltb-true, leb-true, eq-eqb}
use Rattle.slices.specs.Tests.{alike}
use Rattle.slices.specs.Writing.{zeros}
use Rattle.slices.proofs.Choice.{and_both}
use Rattle.slices.proofs.Comparing.{same_alike}
use Rattle.slices.proofs.Writing.{zeros_length}
use Rattle.tape_crc.specs.Check.{check_of, block_check_of, covered}
use Rattle.tape_crc.proofs.Bytes.{bytes_cons, bytes_append}
use Rattle.tape_crc.proofs.Laws.{block_check_below}
use Rattle.tape_read.specs.Numbers.{number_of, bytes_of}
use Rattle.tape_read.specs.Blocks.{window, field, number_in, check_in, check_bad, number_bad}
use Rattle.tape_read.proofs.Extra.{zeros_bytes}
use Rattle.tape_read.proofs.Numbers.{number_back, bytes_length, bytes_are}
use Rattle.tape_read.proofs.Windows.{window_middle}
use Rattle.book_block.specs.Entries.{is_verdict, is_long, fits, pass, unreadable}
use Rattle.book_block.specs.Blocks.{head, body, block, padding, padding_at, tape_in, verdict_in}
use Rattle.book_block.specs.Blocks.{place_in, code_in, entry_in, verdict_bad, zeros_bad, fault_of}
use Rattle.book_block.specs.declared.Entry.{Entry}
use Rattle.book_block.proofs.Faults.{good_block}
use Rattle.book_block.proofs.Filling.{head_length, body_length}

pub verdict_most : (v : ℕ) → is_verdict v ≡ true → v ≤ unreadable
unfolding is_verdict
verdict_most v e = leb-true v unreadable ((and-eq-true_iff (leb pass v) (leb v unreadable)).0 e).1

long_below : (n : ℕ) → is_long n ≡ true → n < 2 ^ 32
unfolding is_long
long_below n e = ltb-true n (2 ^ 32) e

-- the numbers of an entry that fits
pub record Fitting (e : Entry) : Type 0 where
  pub tape : e.tape < 2 ^ 32
  pub place : e.place < 2 ^ 32
  pub code : e.code < 2 ^ 32

pub fitting : (e : Entry) → fits e ≡ true → Fitting e
unfolding fits
fitting e h =
    let both = (and-eq-true_iff (is_long e.tape) (is_long e.place && is_long e.code)).0 h in
    let rest = (and-eq-true_iff (is_long e.place) (is_long e.code)).0 both.1 in
    record { tape = long_below _ both.0; place = long_below _ rest.0; code = long_below _ rest.1 }

module _ (n : ℕ) (e : Entry) where
  number_in_lem : n < 2 ^ 32 → number_in (block n e) ≡ n
  unfolding field window block body head bytes_of
  number_in_lem h = number_back 4 n h

  tape_in_lem : e.tape < 2 ^ 32 → tape_in (block n e) ≡ e.tape
  unfolding field window block body head bytes_of
  tape_in_lem h = number_back 4 e.tape h

  verdict_in_lem : verdict_in (block n e) ≡ e.verdict
  unfolding field window number_of block body head bytes_of
  verdict_in_lem = add-zero (e.verdict * 1) ∙ mul-one e.verdict

  place_in_lem : e.place < 2 ^ 32 → place_in (block n e) ≡ e.place
  unfolding field window block body head bytes_of
  place_in_lem h = number_back 4 e.place h

  code_in_lem : e.code < 2 ^ 32 → code_in (block n e) ≡ e.code
  unfolding field window block body head bytes_of
  code_in_lem h = number_back 4 e.code h

  -- a block holds its entry
  pub entry_back : Fitting e → entry_in (block n e) ≡ e
  unfolding entry_in
  entry_back f =
      λ i. record { tape = tape_in_lem f.tape i; verdict = verdict_in_lem i; place = place_in_lem f.place i; code = code_in_lem f.code i }

  spare_zero : take 3 (drop 9 (block n e)) ≡ zeros 3
  unfolding block body head bytes_of zeros
  spare_zero = refl

  padding_zero : take padding (drop padding_at (block n e)) ≡ zeros padding
  unfolding block body
  padding_zero =
      let check = bytes_of 4 (block_check_of (body n e)) in
      ap (λ (b : List ℕ). take padding (drop padding_at b)) (append_assoc (head n e) (zeros padding) check)
      ∙ (ap (take padding) (drop_at (head n e) (zeros padding ++ check) padding_at (head_length n e))
      ∙ take_at (zeros padding) check padding (zeros_length padding))

  zeros_right : zeros_bad (block n e) ≡ false
  unfolding zeros_bad
  zeros_right =
      ap not
      (and_both _ _
      (ap (λ (s : List ℕ). alike s (zeros 3)) spare_zero ∙ same_alike (zeros 3))
      (ap (λ (s : List ℕ). alike s (zeros padding)) padding_zero ∙ same_alike (zeros padding)))

  -- the check covers the body alone
  check_of_lem : block_check_of (block n e) ≡ block_check_of (body n e)
  unfolding block_check_of block
  check_of_lem = ap check_of (take-append-le covered (body n e) _ (omega (arith, body_length n e)))

  check_in_lem : block_check_of (body n e) < 2 ^ 32 → check_in (block n e) ≡ block_check_of (block n e)
  unfolding field block
  check_in_lem h =
      let check = bytes_of 4 (block_check_of (body n e)) in
      ap (λ (b : List ℕ). number_of (window 4 covered b)) (ap (◌++◌ (body n e)) (sym (append-nil check)))
      ∙ (ap number_of (window_middle (body n e) check [] covered 4 (body_length n e) (bytes_length 4 (block_check_of (body n e))))
      ∙ (number_back 4 (block_check_of (body n e)) h ∙ sym check_of_lem))

  module _ (verdict : is_verdict e.verdict ≡ true) where
    body_bytes : are_bytes (body n e) ≡ true
    unfolding body head
    body_bytes =
        bytes_append (head n e) (zeros padding)
        (bytes_append (bytes_of 4 n) _ (bytes_are 4 n)
        (bytes_append (bytes_of 4 e.tape) _ (bytes_are 4 e.tape)
        (bytes_cons e.verdict (0 ∷ 0 ∷ 0 ∷ (bytes_of 4 e.place ++ bytes_of 4 e.code))
        (omega (arith, verdict_most e.verdict verdict))
        (bytes_append (bytes_of 4 e.place) (bytes_of 4 e.code) (bytes_are 4 e.place) (bytes_are 4 e.code)))))
        (zeros_bytes padding)

    -- a block of an entry has no fault
    pub block_fine : n < 2 ^ 32 → fault_of n (block n e) ≡ None
    unfolding check_bad number_bad verdict_bad
    block_fine h =
        good_block n (block n e)
        (record {
          check = ap not (eq-eqb _ _ (check_in_lem (block_check_below (body n e) body_bytes)));
          number = ap not (eq-eqb (number_in (block n e)) n (number_in_lem h));
          verdict = ap not (ap is_verdict verdict_in_lem ∙ verdict);
          zeros = zeros_right;
        })
