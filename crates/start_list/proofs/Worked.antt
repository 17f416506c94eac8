-- A START's list worked out: two AIDs, the second partial, with and without faults (02, R-12). What stands before byte 57 is zeros here; no
-- test of the list looks at it.
-- Assumes nothing.
use mathlib.Core.Path.{◌≡◌, refl}
use mathlib.Core.Bool.{Bool, true, false}
use mathlib.Core.List.{List, [], ◌∷◌, ◌++◌}
use Prim.Native.Nat.{ℕ}
use Rattle.slices.specs.Choice.{pick}
use Rattle.slices.specs.Tests.{every, between}
use Rattle.slices.specs.Writing.{zeros}
use Rattle.decimal_dates.specs.Decimal.{zeros_only}
use Rattle.start_list.specs.Rows.{room_in, name_in, mark_in, rows_in}
use Rattle.start_list.specs.Listing.{count_in, fields_in, listed_of, applications_in}
use Rattle.start_list.specs.Valid.{valid_field, valid_list}

abbrev exact : List ℕ
exact = 7 ∷ 0xA0 ∷ 0 ∷ 0 ∷ 0 ∷ 3 ∷ 0x10 ∷ 0x10 ∷ (zeros 9 ++ (0 ∷ []))

-- a field with an AID of five bytes, filled with b, and its last byte
abbrev short : ℕ → ℕ → List ℕ
short b mark = 5 ∷ 0xA0 ∷ 0 ∷ 0 ∷ 0 ∷ 4 ∷ b ∷ (zeros 10 ++ (mark ∷ []))

-- the bytes of a START: the count, two fields, what stands in the others, and the last two bytes
abbrev listing : ℕ → List ℕ → List ℕ → ℕ → ℕ → List ℕ
listing count second unused choice edition =
    zeros 57 ++ (count ∷ (exact ++ (second ++ (unused ++ (zeros 3 ++ (choice ∷ edition ∷ []))))))

two : (applications_in (listing 2 (short 0 1) (zeros 108) 1 1)).list
    ≡ record { aid = 0xA0 ∷ 0 ∷ 0 ∷ 0 ∷ 3 ∷ 0x10 ∷ 0x10 ∷ []; partial = false }
    ∷ record { aid = 0xA0 ∷ 0 ∷ 0 ∷ 0 ∷ 4 ∷ []; partial = true }
    ∷ []
unfolding applications_in count_in fields_in rows_in listed_of name_in room_in mark_in pick zeros
two = refl

abbrev verdicts : List Bool
verdicts =
    valid_list (listing 2 (short 0 1) (zeros 108) 1 1)
    ∷ valid_list (listing 2 (short 0 0) (zeros 108) 0 1)
    ∷ valid_list (listing 9 (short 0 1) (zeros 108) 1 1)
    ∷ valid_list (listing 1 (short 0 1) (zeros 108) 1 1)
    ∷ valid_list (listing 2 (short 7 1) (zeros 108) 1 1)
    ∷ valid_list (listing 2 (short 0 2) (zeros 108) 1 1)
    ∷ valid_list (listing 2 (short 0 1) (zeros 107 ++ (1 ∷ [])) 1 1)
    ∷ valid_list (listing 2 (short 0 1) (zeros 108) 2 1)
    ∷ valid_list (listing 2 (short 0 1) (zeros 108) 1 0)
    ∷ []

-- good; none partial and no choice; nine AIDs; an unused field that is not zero; a byte behind an AID; a last byte 2; a byte in the last
-- field; a choice of 2; edition 0
judged : verdicts ≡ true ∷ true ∷ false ∷ false ∷ false ∷ false ∷ false ∷ false ∷ false ∷ []
unfolding valid_list valid_field every between zeros_only count_in fields_in rows_in room_in mark_in pick zeros
judged = refl
