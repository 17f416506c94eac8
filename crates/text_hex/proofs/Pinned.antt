-- Worked texts that hold the definitions to what a reader expects of digits and pairs: each by computation.
-- Assumes nothing.
use mathlib.Core.Path.{◌≡◌, refl}
use mathlib.Core.List.{[], ◌∷◌}
use Rattle.slices.specs.Choice.{pick}
use Rattle.text_hex.specs.Digits.{among, digit, digit_for, pair, unhexed, hexed, unhexed_for, hexed_for}

-- the first and the last digit of each range, and the bytes beside them
edges : (digit 0x2F ≡ 16) × (digit 0x30 ≡ 0) × (digit 0x39 ≡ 9) × (digit 0x3A ≡ 16)
    × (digit 0x40 ≡ 16) × (digit 0x41 ≡ 10) × (digit 0x46 ≡ 15) × (digit 0x47 ≡ 16)
    × (digit 0x60 ≡ 16) × (digit 0x61 ≡ 10) × (digit 0x66 ≡ 15) × (digit 0x67 ≡ 16)
unfolding digit among pick
edges = (refl, refl, refl, refl, refl, refl, refl, refl, refl, refl, refl, refl)

-- "5Aff" and then "0": the last digit has no partner
odd : unhexed (0x35 ∷ 0x41 ∷ 0x66 ∷ 0x66 ∷ 0x30 ∷ []) ≡ 0x5A ∷ 0xFF ∷ []
unfolding unhexed pair digit among pick
odd = refl

-- "12-34": what is no pair ends the reading
broken : unhexed (0x31 ∷ 0x32 ∷ 0x2D ∷ 0x33 ∷ 0x34 ∷ []) ≡ 0x12 ∷ []
unfolding unhexed pair digit among pick
broken = refl

-- letters are printed in upper case: "09AF"
upper : hexed (0x09 ∷ 0xAF ∷ []) ≡ 0x30 ∷ 0x39 ∷ 0x41 ∷ 0x46 ∷ []
unfolding hexed digit_for pick
upper = refl

-- room for three characters holds one byte's text, and room for one byte holds one byte
room : (hexed_for 3 (0x12 ∷ 0x34 ∷ []) ≡ 0x31 ∷ 0x32 ∷ []) × (unhexed_for 1 (0x31 ∷ 0x32 ∷ 0x33 ∷ 0x34 ∷ []) ≡ 0x12 ∷ [])
unfolding hexed_for unhexed_for hexed digit_for unhexed pair digit among pick
room = (refl, refl)
