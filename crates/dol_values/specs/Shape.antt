-- A value in the room that a list entry gives it. 01, "The commands"; 000, II-1.4.
-- Assumes nothing.
use Rattle.std.specs.Prelude.{List, [], ◌∷◌, ◌++◌, map, ℕ, ◌-◌, length, take, drop, replicate}
use Rattle.slices.specs.Tables.{beside}
use Rattle.slices.specs.Writing.{zeros}
use Rattle.start_fields.specs.declared.fields.Field.{Field}
use Rattle.start_fields.specs.declared.fields.Field.TheVariants.{Amount, OtherAmount, Country, Currency, Date}
use Rattle.start_fields.specs.declared.fields.Field.TheVariants.{TransactionType, Unpredictable, Version, Capabilities}
use Rattle.answer_common.specs.Content.{record_formats}
use Rattle.answer_common.specs.declared.content.Format.{Format}
use Rattle.answer_common.specs.declared.content.Format.TheVariants.{Numeric, CardNumber, Other, Unknown}

-- numeric values are cut or zero-filled on the left; the card number is cut on the right and filled there with 'FF'; the
-- rest are cut or zero-filled on the right; what lists do not know is all zeros
unfoldable pub shaped : Format → ℕ → List ℕ → List ℕ
shaped Numeric n v = zeros (n - length v) ++ drop (length v - n) v
shaped CardNumber n v = take n v ++ replicate (n - length v) 0xFF
shaped Other n v = take n v ++ zeros (n - length v)
shaped Unknown n v = zeros n

-- the tags in START, each with its field and its format
abbrev pub own_table : List (ℕ × (Field × Format))
own_table =
    (0x9F02, (Amount, Numeric))
    ∷ (0x9F03, (OtherAmount, Numeric))
    ∷ (0x9F1A, (Country, Numeric))
    ∷ (0x5F2A, (Currency, Numeric))
    ∷ (0x9A, (Date, Numeric))
    ∷ (0x9C, (TransactionType, Numeric))
    ∷ (0x9F37, (Unpredictable, Other))
    ∷ (0x9F09, (Version, Other))
    -- 02, R-7
    ∷ (0x9F33, (Capabilities, Other))
    ∷ []

-- TVR, TSI, response code and profile
abbrev pub made_formats : List (ℕ × Format)
made_formats = (0x95, Other) ∷ (0x9B, Other) ∷ (0x8A, Other) ∷ (0x82, Other) ∷ []

-- all tags that object lists know, with the formats; what records name stands in the table of these
abbrev pub formats : List (ℕ × Format)
formats = map (λ row. (row.0, row.1.1)) own_table ++ (made_formats ++ record_formats)

unfoldable pub format_of : ℕ → Format
format_of tag = beside Unknown tag formats
