-- Each command as a head of known bytes, its data and the byte that ends it; and none is longer than 261 bytes.
-- Assumes nothing.
use mathlib.Core.Path.{◌≡◌, ap, ◌∙◌}
use mathlib.Core.List.{List, [], ◌∷◌, ◌++◌}
use Prim.Native.Nat.{ℕ, ◌+◌, ◌≤◌, ◌<◌}
use native.Mathlib.Omega.{arith}
use lib.ListN.{length, drop, length-append, length-take}
use borrow.Author.Tests.{lt-ltb, le-ltb, ltb-true, ltb-false, eq-eqb, ne_eqb, eqb-true, eqb-false}
use lib.Dec.{ltb, eqb}
use Rattle.slices.specs.Choice.{pick}
use Rattle.slices.proofs.Choice.{pick_yes, pick_no, either}
use Rattle.tlv_write.specs.Written.{written, tag_bytes, length_bytes}
use Rattle.start_fields.specs.Layout.{aid_room, aid_at}
use Rattle.start_fields.specs.Reading.{reading_of}
use Rattle.dol_wanted.specs.Wanted.{most}
use Rattle.commands.specs.Commands.{select_command, options_command, record_command, cryptogram_command, with_length, longest}

-- the object 83, with a length of one byte and of two
module _ (d : List ℕ) where
  written_short : length d < 0x80 → written 0x83 d ≡ 0x83 ∷ length d ∷ d
  unfolding written tag_bytes length_bytes pick
  written_short h = ap (λ (l : List ℕ). 0x83 ∷ (l ++ d)) (pick_yes _ _ _ (lt-ltb (length d) 0x80 h))

  written_long : 0x80 ≤ length d → length d < 256 → written 0x83 d ≡ 0x83 ∷ 0x81 ∷ length d ∷ d
  unfolding written tag_bytes length_bytes pick
  written_long h k =
      ap (λ (l : List ℕ). 0x83 ∷ (l ++ d)) (pick_no _ _ _ (le-ltb (length d) 0x80 h) ∙ pick_yes _ _ _ (lt-ltb (length d) 256 k))

  pub options_short : length d < 0x80
      → options_command d ≡ (0x80 ∷ 0xA8 ∷ 0x00 ∷ 0x00 ∷ (length d + 2) ∷ 0x83 ∷ length d ∷ []) ++ (d ++ (0x00 ∷ []))
  unfolding options_command
  options_short h =
      let two : length (0x83 ∷ length d ∷ d) ≡ length d + 2 = omega arith in
      ap (λ (w : List ℕ). 0x80 ∷ 0xA8 ∷ 0x00 ∷ 0x00 ∷ length w ∷ (w ++ (0x00 ∷ []))) (written_short h)
      ∙ ap (λ (n : ℕ). 0x80 ∷ 0xA8 ∷ 0x00 ∷ 0x00 ∷ n ∷ 0x83 ∷ length d ∷ (d ++ (0x00 ∷ []))) two

  pub options_long : 0x80 ≤ length d → length d < 256
      → options_command d ≡ (0x80 ∷ 0xA8 ∷ 0x00 ∷ 0x00 ∷ (length d + 3) ∷ 0x83 ∷ 0x81 ∷ length d ∷ []) ++ (d ++ (0x00 ∷ []))
  unfolding options_command
  options_long h k =
      let three : length (0x83 ∷ 0x81 ∷ length d ∷ d) ≡ length d + 3 = omega arith in
      ap (λ (w : List ℕ). 0x80 ∷ 0xA8 ∷ 0x00 ∷ 0x00 ∷ length w ∷ (w ++ (0x00 ∷ []))) (written_long h k)
      ∙ ap (λ (n : ℕ). 0x80 ∷ 0xA8 ∷ 0x00 ∷ 0x00 ∷ n ∷ 0x83 ∷ 0x81 ∷ length d ∷ (d ++ (0x00 ∷ []))) three

  pub cryptogram_empty : (request : ℕ) → length d ≡ 0 → cryptogram_command request d ≡ 0x80 ∷ 0xAE ∷ request ∷ 0x00 ∷ 0x00 ∷ []
  unfolding cryptogram_command with_length
  cryptogram_empty request e =
      ap (λ (l : List ℕ). 0x80 ∷ 0xAE ∷ request ∷ 0x00 ∷ (l ++ (0x00 ∷ []))) (pick_yes _ _ _ (eq-eqb (length d) 0 e))

  pub cryptogram_filled : (request : ℕ) → (length d ≡ 0 → ⊥)
      → cryptogram_command request d ≡ (0x80 ∷ 0xAE ∷ request ∷ 0x00 ∷ length d ∷ []) ++ (d ++ (0x00 ∷ []))
  unfolding cryptogram_command with_length
  cryptogram_filled request e =
      ap (λ (l : List ℕ). 0x80 ∷ 0xAE ∷ request ∷ 0x00 ∷ (l ++ (0x00 ∷ []))) (pick_no _ _ _ (ne_eqb (length d) 0 e))

-- data and the byte that ends the command
pub ended_length : (d : List ℕ) → length (d ++ (0x00 ∷ [])) ≡ length d + 1
ended_length d = length-append d (0x00 ∷ [])

-- an AID has at most 16 bytes, in any bytes read as START
pub aid_most : (s : List ℕ) → length (reading_of s).aid ≤ 16
unfolding reading_of
aid_most s = let room = length-take aid_room (drop aid_at s) in rw length-take (omega arith)

-- no command is longer than 261 bytes
pub select_most : (aid : List ℕ) → length aid ≤ 16 → length (select_command aid) ≤ longest
unfolding select_command
select_most aid h = let e = ended_length aid in omega arith

pub options_most : (d : List ℕ) → length d ≤ most → length (options_command d) ≤ longest
options_most d h =
    let e = ended_length d in
    either (ltb (length d) 0x80)
    (λ y. let n = ap length (options_short d (ltb-true (length d) 0x80 y)) in omega arith)
    (λ z. let n = ap length (options_long d (ltb-false (length d) 0x80 z) (omega arith)) in omega arith)

pub record_most : (number file : ℕ) → length (record_command number file) ≤ longest
unfolding record_command
record_most number file = omega arith

pub cryptogram_most : (request : ℕ) (d : List ℕ) → length d ≤ most → length (cryptogram_command request d) ≤ longest
cryptogram_most request d h =
    let e = ended_length d in
    either (eqb (length d) 0)
    (λ y. let n = ap length (cryptogram_empty d request (eqb-true (length d) 0 y)) in omega arith)
    (λ z. let n = ap length (cryptogram_filled d request (eqb-false (length d) 0 z)) in omega arith)
