-- What the writer lays at the limits of its forms, and which numbers are a tag, by computation. Assumes nothing.
use mathlib.Core.Path.{◌≡◌, refl}
use mathlib.Core.Bool.{true, false}
use mathlib.Core.List.{[], ◌∷◌}
use Rattle.slices.specs.Choice.{pick}
use Rattle.tlv_head.specs.Head.{two_bytes}
use Rattle.tlv_write.specs.Written.{is_tag, length_bytes}

-- the shortest form at its limits
shortest : (length_bytes 0x7F ≡ 0x7F ∷ []) × (length_bytes 0x80 ≡ 0x81 ∷ 0x80 ∷ []) × (length_bytes 0xFF ≡ 0x81 ∷ 0xFF ∷ [])
    × (length_bytes 0x100 ≡ 0x82 ∷ 0x01 ∷ 0x00 ∷ [])
unfolding length_bytes pick
shortest = (refl, refl, refl, refl)

-- numbers that are one tag, and numbers that are none
tags : (is_tag 0x5A ≡ true) × (is_tag 0x9F00 ≡ true) × (is_tag 0x9F7F ≡ true) × (is_tag 0 ≡ false) × (is_tag 0x5F ≡ false)
    × (is_tag 0x9F80 ≡ false) × (is_tag 0x5A01 ≡ false) × (is_tag 0x19F02 ≡ false)
unfolding is_tag two_bytes pick
tags = (refl, refl, refl, refl, refl, refl, refl, refl)
