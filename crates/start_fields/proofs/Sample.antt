-- A START whose fields all differ, and what is read of it: where each field stands. Everything here is computed.
-- Assumes nothing.
use mathlib.Core.Path.{◌≡◌, refl}
use mathlib.Core.List.{List, [], ◌∷◌, ◌++◌, map}
use mathlib.Core.Option.{none, some}
use Prim.Native.Nat.{ℕ, zero, suc, ◌-◌}
use lib.ListN.{length}
use Rattle.slices.specs.Choice.{unless_empty}
use Rattle.decimal_dates.specs.Decimal.{decimal_from, decimal}
use Rattle.start_fields.specs.declared.fields.Field.{Field}
use Rattle.start_fields.specs.declared.fields.Field.TheVariants.{Amount, OtherAmount, Country, Currency, Date}
use Rattle.start_fields.specs.declared.fields.Field.TheVariants.{TransactionType, Unpredictable, FloorLimit, Threshold}
use Rattle.start_fields.specs.declared.fields.Field.TheVariants.{Version, Denial, Online, Default}
use Rattle.start_fields.specs.declared.fields.Octet.TheVariants.{Kind, Random, Target, Maximum}
use Rattle.start_fields.specs.Layout.{full_length}
use Rattle.start_fields.specs.Reading.{reading_of, amount_of, other_amount_of, floor_limit_of, threshold_of, bytes_of, octet_of}

-- type 1, amount 123456789012, other amount 7500, country 0826, currency 0978, date 251231, transaction type 09,
-- unpredictable number 11223344, floor limit 6000, random number 40, target percentage 10, threshold 5000, maximum 70,
-- version 0102, the three action codes, and an AID of 7 bytes
abbrev pub sample : List ℕ
sample =
    1
    ∷ 0x12 ∷ 0x34 ∷ 0x56 ∷ 0x78 ∷ 0x90 ∷ 0x12
    ∷ 0 ∷ 0 ∷ 0 ∷ 0 ∷ 0x75 ∷ 0
    ∷ 0x08 ∷ 0x26 ∷ 0x09 ∷ 0x78
    ∷ 0x25 ∷ 0x12 ∷ 0x31
    ∷ 0x09
    ∷ 0x11 ∷ 0x22 ∷ 0x33 ∷ 0x44
    ∷ 0 ∷ 0 ∷ 0 ∷ 0 ∷ 0x60 ∷ 0
    ∷ 40 ∷ 10
    ∷ 0 ∷ 0 ∷ 0 ∷ 0 ∷ 0x50 ∷ 0
    ∷ 70
    ∷ 1 ∷ 2
    ∷ 0xD1 ∷ 0xD2 ∷ 0xD3 ∷ 0xD4 ∷ 0xD5
    ∷ 0xE1 ∷ 0xE2 ∷ 0xE3 ∷ 0xE4 ∷ 0xE5
    ∷ 0xF1 ∷ 0xF2 ∷ 0xF3 ∷ 0xF4 ∷ 0xF5
    ∷ 7
    ∷ 0xA0 ∷ 0 ∷ 0 ∷ 0 ∷ 0 ∷ 0 ∷ 0 ∷ 0 ∷ 0 ∷ 0 ∷ 0 ∷ 0 ∷ 0 ∷ 0 ∷ 0 ∷ 0
    ∷ []

-- the runs of bytes that the 74 have
abbrev runs : List Field
runs =
    Amount ∷ OtherAmount ∷ Country ∷ Currency ∷ Date ∷ TransactionType ∷ Unpredictable ∷ FloorLimit ∷ Threshold ∷ Version ∷ Denial
    ∷ Online ∷ Default ∷ []

sample_runs : map (λ f. bytes_of f (reading_of sample)) runs
    ≡ (0x12 ∷ 0x34 ∷ 0x56 ∷ 0x78 ∷ 0x90 ∷ 0x12 ∷ [])
    ∷ (0 ∷ 0 ∷ 0 ∷ 0 ∷ 0x75 ∷ 0 ∷ [])
    ∷ (0x08 ∷ 0x26 ∷ [])
    ∷ (0x09 ∷ 0x78 ∷ [])
    ∷ (0x25 ∷ 0x12 ∷ 0x31 ∷ [])
    ∷ (0x09 ∷ [])
    ∷ (0x11 ∷ 0x22 ∷ 0x33 ∷ 0x44 ∷ [])
    ∷ (0 ∷ 0 ∷ 0 ∷ 0 ∷ 0x60 ∷ 0 ∷ [])
    ∷ (0 ∷ 0 ∷ 0 ∷ 0 ∷ 0x50 ∷ 0 ∷ [])
    ∷ (1 ∷ 2 ∷ [])
    ∷ (0xD1 ∷ 0xD2 ∷ 0xD3 ∷ 0xD4 ∷ 0xD5 ∷ [])
    ∷ (0xE1 ∷ 0xE2 ∷ 0xE3 ∷ 0xE4 ∷ 0xE5 ∷ [])
    ∷ (0xF1 ∷ 0xF2 ∷ 0xF3 ∷ 0xF4 ∷ 0xF5 ∷ [])
    ∷ []
unfolding reading_of
sample_runs = refl

sample_octets : map (λ o. octet_of o (reading_of sample)) (Kind ∷ Random ∷ Target ∷ Maximum ∷ []) ≡ 1 ∷ 40 ∷ 10 ∷ 70 ∷ []
unfolding reading_of
sample_octets = refl

sample_rest : ((reading_of sample).aid ≡ 0xA0 ∷ 0 ∷ 0 ∷ 0 ∷ 0 ∷ 0 ∷ 0 ∷ []) × ((reading_of sample).capabilities ≡ none)
unfolding reading_of unless_empty
sample_rest = (refl, refl)

-- zeros behind it, as many as the longest START has more: none, as long as Terminal Capabilities are its last field
abbrev pub blank : ℕ → List ℕ
blank zero = []
blank (suc n) = 0 ∷ blank n

abbrev pub filled : List ℕ → List ℕ
filled s = s ++ blank (full_length - length s)

-- the same with Terminal Capabilities behind it
abbrev pub full_sample : List ℕ
full_sample = filled (sample ++ (0xC1 ∷ 0xC2 ∷ 0xC3 ∷ []))

full_read : ((reading_of full_sample).capabilities ≡ some (0xC1 ∷ 0xC2 ∷ 0xC3 ∷ []))
    × ((reading_of full_sample).aid ≡ (reading_of sample).aid)
unfolding reading_of unless_empty
full_read = (refl, refl)

sample_numbers : amount_of (reading_of sample) ∷ other_amount_of (reading_of sample) ∷ floor_limit_of (reading_of sample) ∷ threshold_of
    (reading_of sample) ∷ [] ≡ 123456789012 ∷ 7500 ∷ 6000 ∷ 5000 ∷ []
unfolding reading_of decimal decimal_from
sample_numbers = refl
