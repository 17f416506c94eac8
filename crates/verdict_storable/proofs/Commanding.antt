-- Every command is bytes where its data is: the rest is fixed, a length below 256, or a record's number.
-- Assumes nothing.
use mathlib.Core.Path.{◌≡◌, refl, ap, ◌∙◌}
use mathlib.Core.Bool.{true}
use mathlib.Core.List.{List, [], ◌∷◌, ◌++◌}
use Prim.Native.Nat.{ℕ, ◌+◌, ◌*◌, ◌%◌, ◌≤◌, ◌<◌}
use native.Mathlib.Omega.{arith}
use lib.Dec.{ltb, eqb}
use lib.ListN.{length}
use lib.Pow.{are_bytes}
use borrow.Author.Tests.{ltb-true, ltb-false, eqb-true, eqb-false}
use Rattle.slices.proofs.Choice.{either}
use Rattle.tape_crc.proofs.Bytes.{bytes_cons, bytes_append}
use Rattle.dol_wanted.specs.Wanted.{most}
use Rattle.commands.specs.Commands.{select_command, options_command, record_command, cryptogram_command}
use Rattle.commands.proofs.Shapes.{options_short, options_long, cryptogram_empty, cryptogram_filled}

-- data, and the byte that ends the command
ended_bytes : (d : List ℕ) → are_bytes d ≡ true → are_bytes (d ++ (0x00 ∷ [])) ≡ true
ended_bytes d h = bytes_append d (0x00 ∷ []) h refl

pub select_bytes : (aid : List ℕ) → length aid ≤ 16 → are_bytes aid ≡ true → are_bytes (select_command aid) ≡ true
unfolding select_command
select_bytes aid few h = bytes_cons (length aid) (aid ++ (0x00 ∷ [])) (omega arith) (ended_bytes aid h)

pub record_bytes : (number file : ℕ) → number < 256 → are_bytes (record_command number file) ≡ true
unfolding record_command
record_bytes number file h =
    bytes_cons number ((8 * file + 4) % 256 ∷ 0x00 ∷ []) h (bytes_cons ((8 * file + 4) % 256) (0x00 ∷ []) (omega arith) refl)

module _ (d : List ℕ) (few : length d ≤ most) (h : are_bytes d ≡ true) where
  abbrev rest : List ℕ
  rest = length d ∷ (d ++ (0x00 ∷ []))

  rest_bytes : are_bytes rest ≡ true
  rest_bytes = bytes_cons (length d) (d ++ (0x00 ∷ [])) (omega arith) (ended_bytes d h)

  pub options_bytes : are_bytes (options_command d) ≡ true
  options_bytes =
      either (ltb (length d) 0x80)
      (λ y. ap are_bytes (options_short d (ltb-true (length d) 0x80 y)) ∙ bytes_cons (length d + 2) (0x83 ∷ rest) (omega arith) rest_bytes)
      (λ n.
      ap are_bytes (options_long d (ltb-false (length d) 0x80 n) (omega arith))
      ∙ bytes_cons (length d + 3) (0x83 ∷ 0x81 ∷ rest) (omega arith) rest_bytes)

  pub cryptogram_bytes : (request : ℕ) → request < 256 → are_bytes (cryptogram_command request d) ≡ true
  cryptogram_bytes request r =
      either (eqb (length d) 0)
      (λ y. ap are_bytes (cryptogram_empty d request (eqb-true (length d) 0 y)) ∙ bytes_cons request (0x00 ∷ 0x00 ∷ []) r refl)
      (λ n. ap are_bytes (cryptogram_filled d request (eqb-false (length d) 0 n)) ∙ bytes_cons request (0x00 ∷ rest) r rest_bytes)
