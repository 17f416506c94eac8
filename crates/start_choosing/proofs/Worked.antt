-- STARTs with a list worked out, made from one of 74 bytes.
-- Assumes nothing.
use mathlib.Core.Path.{◌≡◌, refl}
use mathlib.Core.Bool.{true, false}
use mathlib.Core.List.{List, [], ◌∷◌, ◌++◌}
use Prim.Native.Nat.{ℕ}
use lib.ListN.{take, drop}
use Rattle.slices.specs.Choice.{pick}
use Rattle.slices.specs.Tests.{every, between}
use Rattle.slices.specs.Writing.{zeros}
use Rattle.decimal_dates.specs.Decimal.{decimal_from, decimal, decimal_byte, digits_only, zeros_only}
use Rattle.decimal_dates.specs.Dates.{month_and_day, valid_start_date}
use Rattle.start_fields.specs.Layout.{is_length}
use Rattle.start_fields.specs.Reading.{reading_of}
use Rattle.start_fields.proofs.Sample.{sample}
use Rattle.start_valid.specs.Start.{valid_start, valid_kind, valid_digits, valid_random, valid_percentages, valid_threshold, valid_aid}
use Rattle.start_list.specs.Rows.{room_in, mark_in, rows_in}
use Rattle.start_list.specs.Listing.{count_in, fields_in}
use Rattle.start_list.specs.Valid.{valid_field, valid_list}
use Rattle.start_choosing.specs.Start.{is_listing, with_first_alone, valid_listing}

-- the sample's AID, partial or exact by the last byte of its field, as the one of a list
abbrev listing : ℕ → ℕ → List ℕ
listing edition partial =
    take 57 sample ++ (1 ∷ (take 17 (drop 57 sample) ++ (partial ∷ (zeros 126 ++ (0xE0 ∷ 0xF8 ∷ 0xC8 ∷ 1 ∷ edition ∷ [])))))

pub listing_valid : (valid_listing (listing 1 0) ≡ true) × (valid_listing (listing 1 1) ≡ true)
unfolding valid_listing is_listing with_first_alone zeros valid_start every pick between is_length valid_kind valid_digits digits_only
    decimal_byte
    valid_start_date month_and_day valid_random valid_percentages valid_threshold valid_aid zeros_only reading_of decimal decimal_from
    valid_list
    count_in fields_in rows_in valid_field room_in mark_in
listing_valid = (refl, refl)

-- edition 0, a last byte of 2, a byte too few, and a START of an earlier length
pub listing_invalid : (valid_listing (listing 0 0) ≡ false) × (valid_listing (listing 1 2) ≡ false)
    × (valid_listing (take 206 (listing 1 0)) ≡ false) × (valid_listing sample ≡ false)
unfolding valid_listing is_listing with_first_alone zeros valid_start every pick between is_length valid_kind valid_digits digits_only
    decimal_byte
    valid_start_date month_and_day valid_random valid_percentages valid_threshold valid_aid zeros_only reading_of decimal decimal_from
    valid_list
    count_in fields_in rows_in valid_field room_in mark_in
listing_invalid = (refl, refl, refl, refl)

-- what it holds beside its list is the sample's, with the capabilities behind it
pub sample_alone : with_first_alone (listing 1 0) ≡ sample ++ (0xE0 ∷ 0xF8 ∷ 0xC8 ∷ [])
unfolding with_first_alone zeros
sample_alone = refl
