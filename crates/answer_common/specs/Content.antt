-- What the value of each named object must be: 01, "What the card must answer", all four kinds of answer in one table; 02, R-7. No
-- tag is named at two places with two rules.
-- Assumes nothing.
use Rattle.std.specs.Prelude.{Bool, true, false, ◌&&◌, List, [], ◌∷◌, ◌++◌, map, ℕ, ◌%◌, leb, eqb, length}
use Rattle.slices.specs.Choice.{pick}
use Rattle.slices.specs.Tests.{between, is_some}
use Rattle.decimal_dates.specs.Dates.{valid_card_date}
use Rattle.start_fields.specs.Reading.{Terminal}
use Rattle.answer_afl.specs.Entries.{whole_entries}
use Rattle.slices.specs.Tables.{beside}
use Rattle.answer_common.specs.CardNumber.{card_number}
use Rattle.answer_common.specs.declared.content.Rule.{Rule}
use Rattle.answer_common.specs.declared.content.Rule.TheVariants.{Sizes, Entries, Number, Date, Verification, Anything}
use Rattle.answer_common.specs.declared.content.Format.{Format}
use Rattle.answer_common.specs.declared.content.Format.TheVariants.{Numeric, CardNumber, Other, Unknown}

unfoldable pub meets : Rule → List ℕ → Bool
meets (Sizes fewest most) v = between fewest most (length v)
meets Entries v = whole_entries v
meets Number v = card_number v
meets Date v = valid_card_date v
meets Verification v = leb 8 (length v) && eqb (length v % 2) 0
meets Anything v = true

-- the tag of a record's one object
abbrev pub record_tag : ℕ
record_tag = 0x70

-- an object that records name: the rule of its value, whether some record must tell it, and its format in object lists (01,
-- "The commands": the lists themselves are not known there)
pub record Row : Type 0 where
  pub tag : ℕ
  pub rule : Rule
  pub mandatory : Bool
  pub format : Format

-- the most bytes of an object list: 9F38, 8C, 8D
abbrev pub list_most : ℕ
list_most = 252

abbrev row : ℕ → Rule → Bool → Format → Row
row tag rule mandatory format = record { tag = tag; rule = rule; mandatory = mandatory; format = format }

-- what records name for every terminal: card number, expiry, effective date, version, the object lists for the first and the
-- second GENERATE AC, and the action codes default, denial and online
abbrev base_rows : List Row
base_rows =
    row 0x5A Number true CardNumber
    ∷ row 0x5F24 Date true Numeric
    ∷ row 0x5F25 Date false Numeric
    ∷ row 0x9F08 (Sizes 2 2) false Other
    ∷ row 0x8C (Sizes 0 list_most) true Unknown
    ∷ row 0x8D (Sizes 0 list_most) true Unknown
    ∷ row 0x9F0D (Sizes 5 5) false Other
    ∷ row 0x9F0E (Sizes 5 5) false Other
    ∷ row 0x9F0F (Sizes 5 5) false Other
    ∷ []

-- and for one with Terminal Capabilities: the verification list and the application's currency (02, R-7)
abbrev verification_rows : List Row
verification_rows =
    row 0x8E Verification false Unknown
    ∷ row 0x9F42 (Sizes 2 2) false Unknown
    ∷ []

-- the one table of what records name
abbrev pub record_table : List Row
record_table = base_rows ++ verification_rows

-- those rows of it that hold for a terminal
unfoldable pub rows_for : Terminal → List Row
rows_for t = pick (is_some t.capabilities) record_table base_rows

-- the names that count in its records
unfoldable pub names_for : Terminal → List ℕ
names_for t = map (λ r. r.tag) (rows_for t)

-- its tags
abbrev pub record_names : List ℕ
record_names = map (λ r. r.tag) record_table

-- how many there are
abbrev pub name_count : ℕ
name_count = length record_names

-- those that some record must tell
abbrev only_needed : Bool → ℕ → List ℕ → List ℕ
only_needed true tag tags = tag ∷ tags
only_needed false tag tags = tags

abbrev needed_in : List Row → List ℕ
needed_in [] = []
needed_in (r ∷ rows) = only_needed r.mandatory r.tag (needed_in rows)

abbrev pub mandatory : List ℕ
mandatory = needed_in record_table

-- the format of each in object lists
abbrev pub record_formats : List (ℕ × Format)
record_formats = map (λ r. (r.tag, r.format)) record_table

abbrev pub format_told : ℕ → Format
format_told tag = beside Unknown tag record_formats

unfoldable pub rules : List (ℕ × Rule)
rules =
    -- SELECT; A5 may hold anything
    (0x84, Sizes 5 16)
    ∷ (0x9F38, Sizes 0 list_most)
    -- GPO
    ∷ (0x82, Sizes 2 2)
    ∷ (0x94, Entries)
    -- records
    ∷ (map (λ r. (r.tag, r.rule)) record_table
    -- GENERATE AC
    ++ ((0x9F27, Sizes 1 1)
    ∷ (0x9F36, Sizes 2 2)
    ∷ (0x9F26, Sizes 8 8)
    ∷ (0x9F10, Sizes 0 32)
    ∷ []))

unfoldable pub rule_for : ℕ → Rule
rule_for tag = beside Anything tag rules

unfoldable pub right_value : ℕ → List ℕ → Bool
right_value tag v = meets (rule_for tag) v
