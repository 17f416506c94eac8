-- Worked values that hold the definitions to document 01, each by computation; cases E and F of its bench are among them.
-- Assumes nothing.
use mathlib.Core.Path.{◌≡◌, refl}
use mathlib.Core.List.{[], ◌∷◌}
use mathlib.Core.Option.{none, some}
use Rattle.slices.specs.Choice.{pick, unless_empty}
use Rattle.slices.specs.Tables.{beside}
use Rattle.slices.specs.Writing.{zeros}
use Rattle.start_fields.specs.Reading.{reading_of}
use Rattle.start_fields.proofs.Sample.{sample, full_sample}
use Rattle.facts.specs.Facts.{Facts}
use Rattle.dol_values.specs.Shape.{shaped, format_of}
use Rattle.dol_values.specs.Known.{own_field, value_by, value_for, with_format, supplied}
use Rattle.answer_common.specs.declared.content.Format.TheVariants.{Numeric, CardNumber, Other, Unknown}

-- numeric: cut and filled on the left
numeric_shapes :
    (shaped Numeric 4 (0x00 ∷ 0x00 ∷ 0x00 ∷ 0x00 ∷ 0x75 ∷ 0x00 ∷ []) ≡ 0x00 ∷ 0x00 ∷ 0x75 ∷ 0x00 ∷ [])
    × (shaped Numeric 3 (0x12 ∷ 0x34 ∷ []) ≡ 0x00 ∷ 0x12 ∷ 0x34 ∷ [])
unfolding shaped zeros
numeric_shapes = (refl, refl)

-- the card number: cut on the right, filled there with 'FF'
number_shapes : (shaped CardNumber 1 (0x12 ∷ 0x34 ∷ []) ≡ 0x12 ∷ []) × (shaped CardNumber 3 (0x12 ∷ 0x34 ∷ []) ≡ 0x12 ∷ 0x34 ∷ 0xFF ∷ [])
unfolding shaped
number_shapes = (refl, refl)

-- the rest: cut on the right, filled there with zeros
other_shapes : (shaped Other 2 (0x11 ∷ 0x22 ∷ 0x33 ∷ 0x44 ∷ []) ≡ 0x11 ∷ 0x22 ∷ [])
    × (shaped Other 3 (0x12 ∷ 0x34 ∷ []) ≡ 0x12 ∷ 0x34 ∷ 0x00 ∷ [])
unfolding shaped zeros
other_shapes = (refl, refl)

-- which is which
formats :
    (format_of 0x9F02 ≡ Numeric) × (format_of 0x9F03 ≡ Numeric) × (format_of 0x9F1A ≡ Numeric) × (format_of 0x5F2A ≡ Numeric)
    × (format_of 0x9A ≡ Numeric)
    × (format_of 0x9C ≡ Numeric) × (format_of 0x5F24 ≡ Numeric) × (format_of 0x5F25 ≡ Numeric) × (format_of 0x5A ≡ CardNumber)
    × (format_of 0x9F37 ≡ Other)
    × (format_of 0x95 ≡ Other) × (format_of 0x8A ≡ Other) × (format_of 0x9F0D ≡ Other) × (format_of 0x8C ≡ Unknown)
    × (format_of 0x9F27 ≡ Unknown) × (format_of 0x9F33 ≡ Other) × (format_of 0x8E ≡ Unknown) × (format_of 0x9F42 ≡ Unknown)
unfolding format_of beside pick
formats = (refl, refl, refl, refl, refl, refl, refl, refl, refl, refl, refl, refl, refl, refl, refl, refl, refl, refl)

-- what START has is supplied: 9F33 only where it has 77 bytes, whatever else is known
supplied_own : (k : Facts)
    → (supplied (reading_of full_sample) k 0x9F33 ≡ some (Other, 0xC1 ∷ 0xC2 ∷ 0xC3 ∷ [])) × (supplied (reading_of sample) k 0x9F33 ≡ none)
    × (supplied (reading_of sample) k 0x9F03 ≡ some (Numeric, 0 ∷ 0 ∷ 0 ∷ 0 ∷ 0x75 ∷ 0 ∷ []))
unfolding supplied with_format value_for value_by own_field format_of beside pick reading_of unless_empty
supplied_own k = (refl, refl, refl)
