-- The longest exchange there is: every '60', one byte of data at a time both ways, a warning, '6C', and sixteen '61'.
-- Assumes nothing.
use Rattle.std.specs.Prelude.{List, [], ◌∷◌, ◌++◌, ℕ, zero, suc, replicate}
use Rattle.slices.specs.Writing.{zeros}

unfoldable pub copies : ℕ → List ℕ → List ℕ
copies zero l = []
copies (suc n) l = l ++ copies n l

-- a command of case 4 with 255 bytes of data
unfoldable pub longest_command : List ℕ
longest_command = 0x00 ∷ 0xA4 ∷ 0x04 ∷ 0x00 ∷ 0xFF ∷ (zeros 255 ++ (0x00 ∷ []))

-- 256 bytes, each behind the complement of INS of GET RESPONSE
unfoldable pub slowly : List ℕ
slowly = copies 256 (0x3F ∷ 0x00 ∷ [])

-- all that the card says but the last byte
unfoldable pub longest_capture : List ℕ
longest_capture =
    replicate 255 0x60
    ++ (replicate 255 0x5B
    ++ ((0x62 ∷ 0x00 ∷ 0x6C ∷ 0x00 ∷ [])
    ++ (slowly ++ (copies 16 (0x61 ∷ 0x00 ∷ slowly) ++ (0x90 ∷ [])))))
