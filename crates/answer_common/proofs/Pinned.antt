-- Worked answers and values that hold the definitions to document 01, each by computation and every limit from both sides.
-- Assumes nothing.
use mathlib.Core.Path.{◌≡◌, refl}
use mathlib.Core.Bool.{Bool, true, false}
use mathlib.Core.List.{List, [], ◌∷◌, ◌++◌, map}
use Prim.Native.Nat.{ℕ}
use lib.ListN.{replicate}
use Rattle.slices.specs.Choice.{pick, first_of}
use Rattle.slices.specs.Shorter.{counted, shorter}
use Rattle.tlv_head.specs.Head.{first_byte, constructed, two_bytes, tag_size, tag_of, tag_right, length_byte}
use Rattle.tlv_head.specs.Head.{length_form, length_size, length_of, value_start, value_end, whole}
use Rattle.slices.specs.Tests.{is_some, every, between}
use Rattle.tlv_list.specs.Objects.{between as part, first_object, before, right_inside, listed, objects}
use Rattle.tlv_list.specs.Place.{data_field}
use Rattle.tlv_list.specs.Lookup.{Lookup, absent, once, twice, met, lookup}
use Rattle.decimal_dates.specs.Decimal.{digits_only, decimal_byte}
use Rattle.decimal_dates.specs.Dates.{month_and_day, valid_card_date}
use Rattle.answer_afl.specs.Entries.{whole_entries}
use Rattle.slices.specs.Tables.{any_of, beside}
use Rattle.answer_common.specs.CardNumber.{halves, digits, only_f, card_number}
use Rattle.answer_common.specs.Content.{meets, rules, rule_for, right_value}
use Rattle.answer_common.specs.Answer.{size_bad, status_bad, only, outer, tagged, value_under, is_one, inside, outer_bad, frame}
use Rattle.answer_common.specs.Named.{members_in, among, direct, times, wrong_value, any_times, any_wrong}

-- reason 1
sizes : map (λ n. size_bad (replicate n 0)) (0 ∷ 1 ∷ 2 ∷ 258 ∷ 259 ∷ 496 ∷ []) ≡ true ∷ true ∷ false ∷ false ∷ true ∷ true ∷ []
unfolding size_bad
sizes = refl

-- reason 2
statuses : map status_bad
    ((0x90 ∷ 0x00 ∷ []) ∷ (0x70 ∷ 0x00 ∷ 0x90 ∷ 0x00 ∷ []) ∷ (0x90 ∷ 0x01 ∷ []) ∷ (0x91 ∷ 0x00 ∷ []) ∷ (0x69 ∷ 0x85 ∷ [])
    ∷ (0x90 ∷ 0x00 ∷ 0x00 ∷ []) ∷ []) ≡ false ∷ false ∷ true ∷ true ∷ true ∷ true ∷ []
unfolding status_bad
statuses = refl

-- the reasons that every answer is asked first, with all that they rest on open
first : List ℕ → List ℕ → ℕ
unfolding pick first_of counted shorter first_byte constructed two_bytes tag_size tag_of tag_right length_byte length_form length_size
    length_of value_start value_end whole part first_object is_some before right_inside listed objects data_field any_of size_bad status_bad
    only outer tagged is_one outer_bad frame
first expected field = first_of (frame expected (field ++ (0x90 ∷ 0x00 ∷ [])))

-- data, the tags expected, and the reason
abbrev rows : List (List ℕ × List ℕ × ℕ)
rows =
    -- one object, with '00' around it
    (0x70 ∷ 0x00 ∷ [], 0x70 ∷ [], 0)
    ∷ (0x00 ∷ 0x70 ∷ 0x03 ∷ 0x5A ∷ 0x01 ∷ 0x12 ∷ 0x00 ∷ 0x00 ∷ [], 0x70 ∷ [], 0)
    ∷ (0x70 ∷ 0x81 ∷ 0x00 ∷ [], 0x70 ∷ [], 0)
    -- none, another one, two, also of the same kind
    ∷ ([], 0x70 ∷ [], 3)
    ∷ (0x00 ∷ 0x00 ∷ [], 0x70 ∷ [], 3)
    ∷ (0x77 ∷ 0x00 ∷ [], 0x70 ∷ [], 3)
    ∷ (0x70 ∷ 0x00 ∷ 0x70 ∷ 0x00 ∷ [], 0x70 ∷ [], 3)
    ∷ (0x70 ∷ 0x00 ∷ 0x5A ∷ 0x01 ∷ 0x12 ∷ [], 0x70 ∷ [], 3)
    -- not a list, outside and inside, at whatever depth
    ∷ (0x70 ∷ 0x01 ∷ [], 0x70 ∷ [], 3)
    ∷ (0x70 ∷ 0x02 ∷ 0x5A ∷ 0x01 ∷ [], 0x70 ∷ [], 3)
    ∷ (0x70 ∷ 0x04 ∷ 0x61 ∷ 0x02 ∷ 0x5A ∷ 0x01 ∷ [], 0x70 ∷ [], 3)
    -- either of two
    ∷ (0x77 ∷ 0x00 ∷ [], 0x77 ∷ 0x80 ∷ [], 0)
    ∷ (0x80 ∷ 0x01 ∷ 0xFF ∷ [], 0x77 ∷ 0x80 ∷ [], 0)
    ∷ (0x70 ∷ 0x00 ∷ [], 0x77 ∷ 0x80 ∷ [], 3)
    ∷ []

framed : map (λ row. first row.1 row.0) rows ≡ map (λ row. row.2) rows
unfolding first
framed = refl

-- the lowest counts: size before status before data
lowest : (first (0x70 ∷ []) (replicate 257 0) ≡ 1) × (first_of (frame (0x70 ∷ []) (0x70 ∷ 0x01 ∷ 0x6A ∷ 0x82 ∷ [])) ≡ 2)
unfolding first
lowest = (refl, refl)

-- a value, by its name and its size alone
abbrev sized : List (ℕ × ℕ × Bool)
sized =
    (0x84, 4, false) ∷ (0x84, 5, true) ∷ (0x84, 16, true) ∷ (0x84, 17, false)
    ∷ (0xA5, 0, true) ∷ (0xA5, 200, true)
    ∷ (0x9F38, 0, true) ∷ (0x9F38, 252, true) ∷ (0x9F38, 253, false)
    ∷ (0x82, 1, false) ∷ (0x82, 2, true) ∷ (0x82, 3, false)
    ∷ (0x94, 0, false) ∷ (0x94, 3, false) ∷ (0x94, 4, true) ∷ (0x94, 6, false) ∷ (0x94, 8, true)
    ∷ (0x9F08, 1, false) ∷ (0x9F08, 2, true) ∷ (0x9F08, 3, false)
    ∷ (0x8C, 0, true) ∷ (0x8C, 252, true) ∷ (0x8C, 253, false)
    ∷ (0x8D, 0, true) ∷ (0x8D, 252, true) ∷ (0x8D, 253, false)
    ∷ (0x9F0D, 4, false) ∷ (0x9F0D, 5, true) ∷ (0x9F0D, 6, false)
    ∷ (0x9F0E, 4, false) ∷ (0x9F0E, 5, true) ∷ (0x9F0E, 6, false)
    ∷ (0x9F0F, 4, false) ∷ (0x9F0F, 5, true) ∷ (0x9F0F, 6, false)
    ∷ (0x9F27, 0, false) ∷ (0x9F27, 1, true) ∷ (0x9F27, 2, false)
    ∷ (0x9F36, 1, false) ∷ (0x9F36, 2, true) ∷ (0x9F36, 3, false)
    ∷ (0x9F26, 7, false) ∷ (0x9F26, 8, true) ∷ (0x9F26, 9, false)
    ∷ (0x9F10, 0, true) ∷ (0x9F10, 32, true) ∷ (0x9F10, 33, false)
    ∷ (0x57, 0, true) ∷ (0x57, 40, true)
    ∷ []

sizes_right : map (λ row. right_value row.0 (replicate row.1 0)) sized ≡ map (λ row. row.2) sized
unfolding right_value rule_for rules beside meets whole_entries every pick between
sizes_right = refl

-- the card number, and the two dates
abbrev values : List (ℕ × List ℕ × Bool)
values =
    (0x5A, 0x12 ∷ [], true) ∷ (0x5A, 0x1F ∷ [], true) ∷ (0x5A, 0x12 ∷ 0x3F ∷ 0xFF ∷ [], true) ∷ (0x5A, 0x12 ∷ 0xFF ∷ [], true)
    ∷ (0x5A, replicate 10 0x99, true) ∷ (0x5A, replicate 11 0x99, false) ∷ (0x5A, [], false)
    -- at least one digit, and none after an 'F'
    ∷ (0x5A, 0xFF ∷ [], false) ∷ (0x5A, 0xF1 ∷ [], false) ∷ (0x5A, 0x1F ∷ 0x12 ∷ [], false) ∷ (0x5A, 0x1F ∷ 0xF2 ∷ [], false)
    ∷ (0x5A, 0x1F ∷ 0xFF ∷ 0x1F ∷ [], false)
    -- digits to 9, and nothing between them and 'F'
    ∷ (0x5A, 0x19 ∷ [], true) ∷ (0x5A, 0x1A ∷ [], false) ∷ (0x5A, 0x1E ∷ [], false) ∷ (0x5A, 0xA1 ∷ [], false)
    ∷ (0x5A, 0x12 ∷ 0xFE ∷ [], false)
    ∷ (0x5F24, 0x26 ∷ 0x12 ∷ 0x31 ∷ [], true) ∷ (0x5F24, 0x26 ∷ 0x13 ∷ 0x31 ∷ [], false) ∷ (0x5F24, 0x26 ∷ 0x12 ∷ [], false)
    ∷ (0x5F25, 0x26 ∷ 0x12 ∷ 0x31 ∷ [], true) ∷ (0x5F25, 0x26 ∷ 0x12 ∷ 0x32 ∷ [], false) ∷ (0x5F25, 0x26 ∷ 0x12 ∷ 0x3A ∷ [], false)
    ∷ []

values_right : map (λ row. right_value row.0 row.1) values ≡ map (λ row. row.2) values
unfolding right_value rule_for rules beside meets every pick between card_number halves digits only_f valid_card_date digits_only
    decimal_byte month_and_day
values_right = refl

-- what stands under names: only direct members, by how often they stand there
found : List ℕ → ℕ → Lookup
unfolding first inside value_under members_in among direct lookup met
found field name = direct 0x70 (field ++ (0x90 ∷ 0x00 ∷ [])) name

named : (found (0x70 ∷ 0x04 ∷ 0x5A ∷ 0x02 ∷ 0x12 ∷ 0x34 ∷ []) 0x5A ≡ once (0x12 ∷ 0x34 ∷ []))
    × (found (0x70 ∷ 0x04 ∷ 0x5A ∷ 0x02 ∷ 0x12 ∷ 0x34 ∷ []) 0x57 ≡ absent)
    × (found (0x70 ∷ 0x07 ∷ 0x5A ∷ 0x01 ∷ 0x12 ∷ 0x00 ∷ 0x5A ∷ 0x01 ∷ 0x12 ∷ []) 0x5A ≡ twice)
    × (found (0x70 ∷ 0x05 ∷ 0x72 ∷ 0x03 ∷ 0x5A ∷ 0x01 ∷ 0x12 ∷ []) 0x5A ≡ absent)
    × (found (0x77 ∷ 0x03 ∷ 0x5A ∷ 0x01 ∷ 0x12 ∷ []) 0x5A ≡ absent)
unfolding found
named = (refl, refl, refl, refl, refl)

-- the tests of names: 4 where one stands twice, 8 where one is missing, 5 where a value is wrong
looks : ℕ → Lookup
looks name = beside absent name ((1, once (0x12 ∷ [])) ∷ (2, twice) ∷ (0x9F08, once (0 ∷ 0 ∷ [])) ∷ (0x9F36, once (0 ∷ [])) ∷ [])

tests : (any_times 2 (1 ∷ 3 ∷ []) looks ≡ false) × (any_times 2 (1 ∷ 2 ∷ []) looks ≡ true) × (any_times 0 (1 ∷ 2 ∷ []) looks ≡ false)
    × (any_times 0 (1 ∷ 3 ∷ []) looks ≡ true) × (any_wrong (1 ∷ 2 ∷ 3 ∷ 0x9F08 ∷ []) looks ≡ false)
    × (any_wrong (0x9F08 ∷ 0x9F36 ∷ []) looks ≡ true)
unfolding looks beside pick any_times any_wrong any_of times wrong_value right_value rule_for rules meets every between
tests = (refl, refl, refl, refl, refl, refl)
