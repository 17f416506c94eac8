-- Worked lists, each by computation: 9F33 is START's where START has 77 bytes; in one of 74 it is filled with zeros, and counts.
-- Assumes nothing.
use Rattle.std.proofs.Common.{◌≡◌, ℕ, List, [], ◌∷◌, refl}
use Rattle.slices.specs.Choice.{pick, unless_empty}
use Rattle.slices.specs.Shorter.{counted, shorter}
use Rattle.slices.specs.Tables.{beside}
use Rattle.slices.specs.Tests.{every, between, is_some}
use Rattle.slices.specs.Writing.{zeros}
use Rattle.tlv_head.specs.Head.{first_byte, two_bytes, tag_right, tag_size, tag_of}
use Rattle.start_fields.specs.Reading.{reading_of}
use Rattle.start_fields.proofs.Sample.{sample, full_sample}
use Rattle.facts.specs.Facts.{Facts}
use Rattle.dol_wanted.specs.Wanted.{and_then, size_at, first_wanted, asks, wanted_step, entries_of, total, fits, fillable}
use Rattle.dol_values.specs.Shape.{shaped, format_of}
use Rattle.dol_values.specs.Known.{own_field, value_by, value_for, with_format, supplied}
use Rattle.dol_fill.specs.Filled.{entry_bytes, filled, filled_by, filled_list, filling, missing, missing_in, missing_by, unsupplied}

-- Terminal Capabilities in four bytes, then the transaction type in one
abbrev list : List ℕ
list = 0x9F ∷ 0x33 ∷ 4 ∷ 0x9C ∷ 1 ∷ []

module _ (k : Facts) where
  filled_own : (filling (reading_of full_sample) k list ≡ 0xC1 ∷ 0xC2 ∷ 0xC3 ∷ 0 ∷ 0x09 ∷ [])
      × (filling (reading_of sample) k list ≡ 0 ∷ 0 ∷ 0 ∷ 0 ∷ 0x09 ∷ [])
  unfolding filling filled_list filled_by filled entry_bytes shaped supplied with_format value_for value_by own_field format_of unless_empty
      reading_of fillable fits total entries_of shorter counted wanted_step asks and_then first_wanted size_at tag_of tag_size tag_right
      two_bytes first_byte beside is_some pick between every zeros
  filled_own = (refl, refl)

  counted_own : (unsupplied (reading_of full_sample) k list ≡ 0) × (unsupplied (reading_of sample) k list ≡ 1)
  unfolding unsupplied missing_by missing_in missing supplied with_format value_for value_by own_field format_of unless_empty reading_of
      fillable fits total entries_of shorter counted wanted_step asks and_then first_wanted size_at tag_of tag_size tag_right two_bytes
      first_byte beside is_some pick between every
  counted_own = (refl, refl)
