-- How object lists were filled before cardholder verification (02, R-7): START had no 9F33, and every field of it was there. Each
-- definition is today's of the same name with the older ones in place (dol_values, dol_fill, rulebook and rulebook_zeros).
-- Assumes nothing.
use Rattle.std.specs.Prelude.{List, [], ◌∷◌, ◌++◌, map, ℕ, ◌+◌}
use Rattle.std.proofs.Math.Option.{Option, none, some}
use Rattle.slices.specs.Choice.{pick}
use Rattle.slices.specs.Tests.{is_some}
use Rattle.slices.specs.Tables.{beside}
use Rattle.start_fields.specs.declared.fields.Field.{Field}
use Rattle.start_fields.specs.declared.fields.Field.TheVariants.{Amount, OtherAmount, Country, Currency, Date}
use Rattle.start_fields.specs.declared.fields.Field.TheVariants.{TransactionType, Unpredictable, Version}
use Rattle.start_fields.specs.Reading.{Terminal, bytes_of}
use Rattle.answer_common.specs.declared.content.Format.{Format}
use Rattle.answer_common.specs.declared.content.Format.TheVariants.{Numeric, Other, Unknown}
use Rattle.facts.specs.Facts.{Facts}
use Rattle.dol_wanted.specs.Wanted.{Wanted, entries_of, fillable}
use Rattle.dol_values.specs.Shape.{made_formats}
use Rattle.dol_values.specs.Known.{with_format}
use Rattle.dol_values.specs.Own.{Own}
use Rattle.std.specs.Prelude.{Some, None}
use Rattle.dol_fill.specs.Filled.{entry_bytes}
use Rattle.commands.specs.Commands.{select_command, options_command, record_command, cryptogram_command}
use Rattle.decide_cryptogram.specs.Cryptograms.{p1_of}
use Rattle.rulebook.specs.Situation.{known_in, list_in}
use Rattle.rulebook.specs.Phase.{Asked, selecting, optioning, reading, first, second, Phase, asks, hears, decides}
use Rattle.verdict_before.specs.Before.{records_before}

-- ---- what was known

-- the tags in START, each with its field and its format
abbrev pub own_table_before : List (ℕ × (Field × Format))
own_table_before =
    (0x9F02, (Amount, Numeric))
    ∷ (0x9F03, (OtherAmount, Numeric))
    ∷ (0x9F1A, (Country, Numeric))
    ∷ (0x5F2A, (Currency, Numeric))
    ∷ (0x9A, (Date, Numeric))
    ∷ (0x9C, (TransactionType, Numeric))
    ∷ (0x9F37, (Unpredictable, Other))
    ∷ (0x9F09, (Version, Other))
    ∷ []

-- all tags that object lists knew, with the formats
abbrev pub formats_before : List (ℕ × Format)
formats_before = map (λ row. (row.0, row.1.1)) own_table_before ++ (made_formats ++ records_before)

unfoldable pub format_of_before : ℕ → Format
format_of_before tag = beside Unknown tag formats_before

-- the field of START that a tag stood for
unfoldable pub own_field_before : ℕ → Own
own_field_before tag = beside None tag (map (λ row. (row.0, Some row.1.0)) own_table_before)

-- START's own, and else what is known beside it
unfoldable pub value_by_before : Terminal → Option (List ℕ) → Own → Option (List ℕ)
value_by_before t other (Some field) = some (bytes_of field t)
value_by_before t other None = other

-- a tag's format and value; nothing where lists did not know the tag, or where it is not yet there
unfoldable pub supplied_before : Terminal → Facts → ℕ → Option (Format × List ℕ)
supplied_before t known tag = with_format (format_of_before tag) (value_by_before t (known tag) (own_field_before tag))

-- ---- a list filled with it

unfoldable pub filled_before : Terminal → Facts → List Wanted → List ℕ
filled_before t k [] = []
filled_before t k (w ∷ ws) = entry_bytes w.size (supplied_before t k w.tag) ++ filled_before t k ws

-- a list that is not well formed is filled with nothing
unfoldable pub filled_by_before : Terminal → Facts → Option (List Wanted) → List ℕ
filled_by_before t k none = []
filled_by_before t k (some ws) = filled_before t k ws

-- and so is one that asks for too much
unfoldable pub filling_before : Terminal → Facts → List ℕ → List ℕ
filling_before t k list = pick (fillable list) (filled_by_before t k (entries_of list)) []

-- the command that asks something
unfoldable pub command_before : Asked → List ℕ
command_before (selecting s) = select_command s.terminal.aid
command_before (optioning s list) = options_command (filling_before s.terminal (known_in s none) list)
command_before (reading s number file rest) = record_command number file
command_before (first s request) = cryptogram_command (p1_of request) (filling_before s.terminal (known_in s none) (list_in s 0x8C))
command_before (second s request code) =
    cryptogram_command (p1_of request) (filling_before s.terminal (known_in s (some code)) (list_in s 0x8D))

-- ---- what was filled with zeros (02, R-6)

unfoldable pub missing_in_before : Terminal → Facts → List Wanted → ℕ
missing_in_before t k [] = 0
missing_in_before t k (w ∷ ws) = pick (is_some (supplied_before t k w.tag)) 0 1 + missing_in_before t k ws

unfoldable pub missing_by_before : Terminal → Facts → Option (List Wanted) → ℕ
missing_by_before t k none = 0
missing_by_before t k (some ws) = missing_in_before t k ws

-- how many entries of a list were filled with zeros for want of a value
unfoldable pub unsupplied_before : Terminal → Facts → List ℕ → ℕ
unsupplied_before t k list = pick (fillable list) (missing_by_before t k (entries_of list)) 0

-- the same of a command's list
unfoldable pub unsupplied_asking_before : Asked → ℕ
unsupplied_asking_before (selecting s) = 0
unsupplied_asking_before (optioning s list) = unsupplied_before s.terminal (known_in s none) list
unsupplied_asking_before (reading s number file rest) = 0
unsupplied_asking_before (first s request) = unsupplied_before s.terminal (known_in s none) (list_in s 0x8C)
unsupplied_asking_before (second s request code) = unsupplied_before s.terminal (known_in s (some code)) (list_in s 0x8D)

-- and of the command that a phase makes due
unfoldable pub unsupplied_in_before : Phase → ℕ
unsupplied_in_before (asks w) = unsupplied_asking_before w
unsupplied_in_before (hears h) = 0
unsupplied_in_before (decides outcome reason s) = 0
