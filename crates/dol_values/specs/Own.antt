-- The field of START that a tag stands for, where it is one of START's.
-- Assumes nothing.
use Rattle.std.specs.Prelude.{Option}
use Rattle.start_fields.specs.declared.fields.Field.{Field}

abbrev pub Own : Type 0
Own = Option Field
