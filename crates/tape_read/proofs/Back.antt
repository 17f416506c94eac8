-- A block that was written passes every test, and the entry in it is the one that was written: each field reads as what it
-- was made of, and the check is a number of four bytes since all it covers are bytes. Assumes nothing.
use mathlib.Core.Path.{◌≡◌, refl, ap, ap₂, ◌∙◌}
use mathlib.Core.Bool.{true, not, ◌&&◌, and-eq-true_iff}
use mathlib.Core.List.{◌∷◌}
use Prim.Native.Nat.{ℕ, zero, suc, ◌-◌, ◌^◌, ◌≤◌, ◌<◌}
use native.Mathlib.Nat.{zero-lt-suc}
use native.Mathlib.Omega.{arith}
use lib.Dec.{leb}
use lib.ListN.{length}
use lib.Pow.{are_bytes}
use borrow.Author.Tests.{leb-true, eq-eqb}
use Rattle.slices.specs.Writing.{zeros}
use Rattle.tape_crc.proofs.Bytes.{bytes_cons, bytes_append}
use Rattle.tape_crc.proofs.Laws.{block_check_below}
use Rattle.tape_read.specs.Numbers.{bytes_of}
use Rattle.numbers.specs.Tables.{start, last_kind, is_kind}
use Rattle.tape_read.specs.Entries.{Entry, entry, payload_most, storable}
use Rattle.tape_read.specs.Blocks.{head, body, block, all_zero, number_in, session_in, check_bad, number_bad}
use Rattle.tape_read.specs.Blocks.{session_bad, kind_bad, spare_bad, padding_bad, code_of, entry_in}
use Rattle.tape_read.proofs.Extra.{zeros_bytes}
use Rattle.tape_read.proofs.Numbers.{bytes_are}
use Rattle.tape_read.proofs.Parts.{number_in_lem, session_in_lem, kind_in_lem, spare_in_lem}
use Rattle.tape_read.proofs.Parts.{length_allowed, payload_in_lem, padding_in_lem, check_in_lem}
use Rattle.tape_read.proofs.Codes.{Good, good_code}

pub kind_most : (k : ℕ) → is_kind k ≡ true → k ≤ last_kind
unfolding is_kind
kind_most k e = leb-true k last_kind ((and-eq-true_iff (leb start k) (leb k last_kind)).0 e).1

module _ (e : Entry) (h : storable e ≡ true) where
  pub storable_kind : is_kind e.kind ≡ true
  unfolding storable
  storable_kind = ((and-eq-true_iff (is_kind e.kind) _).0 h).0

  storable_payload : (leb (length e.payload) payload_most && are_bytes e.payload) ≡ true
  unfolding storable
  storable_payload = ((and-eq-true_iff (is_kind e.kind) _).0 h).1

  pub storable_fits : length e.payload ≤ payload_most
  storable_fits = leb-true (length e.payload) payload_most ((and-eq-true_iff _ (are_bytes e.payload)).0 storable_payload).0

  pub storable_bytes : are_bytes e.payload ≡ true
  storable_bytes = ((and-eq-true_iff (leb (length e.payload) payload_most) _).0 storable_payload).1

zeros_zero : (n : ℕ) → all_zero (zeros n) ≡ true
unfolding all_zero zeros
zeros_zero zero = refl
zeros_zero (suc n) = zeros_zero n

module _ (n s : ℕ) (e : Entry) (h : storable e ≡ true) where
  kind_byte : e.kind < 256
  kind_byte = omega (arith, kind_most e.kind (storable_kind e h))

  head_bytes : are_bytes (head n s e) ≡ true
  unfolding head
  head_bytes =
      bytes_append (bytes_of 4 n) _ (bytes_are 4 n)
      (bytes_append (bytes_of 4 s) _ (bytes_are 4 s)
      (bytes_cons e.kind (0 ∷ bytes_of 2 (length e.payload)) kind_byte
      (bytes_cons 0 (bytes_of 2 (length e.payload)) (zero-lt-suc 255) (bytes_are 2 (length e.payload)))))

  body_bytes : are_bytes (body n s e) ≡ true
  unfolding body
  body_bytes =
      bytes_append (head n s e) _ head_bytes
      (bytes_append e.payload (zeros (payload_most - length e.payload)) (storable_bytes e h)
      (zeros_bytes (payload_most - length e.payload)))

  -- it passes every test
  pub good_block : n < 2 ^ 32 → s < 2 ^ 32 → Good n s (block n s e)
  unfolding check_bad number_bad session_bad kind_bad spare_bad padding_bad
  good_block hn hs =
      let fits = storable_fits e h in
      record {
        check = ap not (eq-eqb _ _ (check_in_lem n s e fits (block_check_below (body n s e) body_bytes)));
        number = ap not (eq-eqb (number_in (block n s e)) n (number_in_lem n s e hn));
        session = ap not (eq-eqb (session_in (block n s e)) s (session_in_lem n s e hs));
        kind = ap not (ap is_kind (kind_in_lem n s e) ∙ storable_kind e h);
        spare = ap not (eq-eqb _ _ (spare_in_lem n s e));
        length = length_allowed n s e fits;
        padding = ap not (ap all_zero (padding_in_lem n s e fits) ∙ zeros_zero (payload_most - length e.payload));
      }

  pub block_code : n < 2 ^ 32 → s < 2 ^ 32 → code_of n s (block n s e) ≡ 0
  block_code hn hs = good_code n s (block n s e) (good_block hn hs)

  -- it holds the entry
  pub entry_back : entry_in (block n s e) ≡ e
  unfolding entry_in
  entry_back = ap₂ entry (kind_in_lem n s e) (payload_in_lem n s e (storable_fits e h))
