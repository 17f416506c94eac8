-- What the terminal can supply for an object list: its own data, what the session has come to, and what the card has told.
-- 01, "The commands". Whatever is not here, or not yet there, is not supplied, which is another thing than a value of zeros.
-- Assumes nothing.
use Rattle.std.specs.Prelude.{List, map, ℕ}
use Rattle.std.proofs.Math.Option.{Option, none, some}
use Rattle.slices.specs.Choice.{unless_empty}
use Rattle.slices.specs.Tables.{beside}
use Rattle.start_fields.specs.Reading.{Terminal, bytes_of}
use Rattle.answer_common.specs.declared.content.Format.{Format}
use Rattle.answer_common.specs.declared.content.Format.TheVariants.{Numeric, CardNumber, Other, Unknown}
use Rattle.facts.specs.Facts.{Facts}
use Rattle.dol_values.specs.Shape.{own_table, format_of}
use Rattle.dol_values.specs.Own.{Own}
use Rattle.std.specs.Prelude.{Some, None}

-- the field of START that a tag stands for
unfoldable pub own_field : ℕ → Own
own_field tag = beside None tag (map (λ row. (row.0, Some row.1.0)) own_table)

-- START's own, where START has it, and else what is known beside it: TVR and TSI at any time, the response code from the second
-- request on, and the rest once it was read
unfoldable pub value_by : Terminal → Option (List ℕ) → Own → Option (List ℕ)
value_by t other (Some field) = unless_empty (bytes_of field t)
value_by t other None = other

unfoldable pub value_for : Terminal → Facts → ℕ → Option (List ℕ)
value_for t known tag = value_by t (known tag) (own_field tag)

-- what has no format among those of object lists is not supplied: the lists themselves, 8C and 8D, are told by records and asked for by
-- no list
unfoldable pub with_format : Format → Option (List ℕ) → Option (Format × List ℕ)
with_format f none = none
with_format Numeric (some v) = some (Numeric, v)
with_format CardNumber (some v) = some (CardNumber, v)
with_format Other (some v) = some (Other, v)
with_format Unknown (some v) = none

-- a tag's format and value; nothing where lists do not know the tag, or where it is not yet there
unfoldable pub supplied : Terminal → Facts → ℕ → Option (Format × List ℕ)
supplied t known tag = with_format (format_of tag) (value_for t known tag)
