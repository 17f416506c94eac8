-- `fill::fill_entry` meets its contract: START's own, what is known, and where nothing is the room is all zeros.
-- Assumes nothing.
use Rattle.std.proofs.Common.{◌≡◌, ℕ, true, false, List, [], length, sym, ap, ◌∙◌}
use mathlib.Core.Option.{Option, get_or}
use Rattle.slices.specs.Choice.{unless_empty}
use Rattle.slices.specs.Tests.{is_some}
use Rattle.slices.specs.Writing.{zeros}
use Rattle.start_fields.specs.Reading.{Terminal, reading_of, bytes_of}
use Rattle.start_fields.specs.declared.fields.Field.{Field}
use Rattle.facts.specs.Facts.{Facts}
use Rattle.session_records.specs.Slots.{told_in}
use Rattle.session_records.proofs.Present.{is_there_lem, is_none}
use Rattle.dol_values.specs.Shape.{shaped, format_of}
use Rattle.dol_values.specs.Known.{own_field, value_by, value_for, with_format, supplied}
use Rattle.dol_values.specs.Own.{Own}
use Rattle.std.specs.Prelude.{Some, None}
use Rattle.dol_fill.specs.Filled.{entry_bytes}
use Rattle.dol_fill.proofs.Filling.{shaped_entry, blank_entry}
use Rattle.dol_fill.proofs.fill.fill_entry.Goals as goal

-- the entry's bytes by what the tag is: START's own, known, or not there
module _ (n : ℕ) (t : Terminal) (known : Facts) (tag : ℕ) where
  abbrev by_own : Own → Option (List ℕ) → List ℕ
  by_own own other = entry_bytes n (with_format (format_of tag) (value_by t other own))

  own_bytes : (f : Field) → own_field tag ≡ Some f
      → entry_bytes n (with_format (format_of tag) (unless_empty (bytes_of f t))) ≡ entry_bytes n (supplied t known tag)
  unfolding supplied value_for value_by
  own_bytes f e = sym (ap (λ o. by_own o (known tag)) e)

  known_bytes : own_field tag ≡ None → is_some (known tag) ≡ true
      → shaped (format_of tag) n (get_or (known tag) []) ≡ entry_bytes n (supplied t known tag)
  unfolding supplied value_for value_by
  known_bytes e h =
      sym
      (ap (λ o. by_own o (known tag)) e
      ∙ (ap (by_own None) (is_there_lem (known tag) h) ∙ shaped_entry (format_of tag) n (get_or (known tag) [])))

  not_there : own_field tag ≡ None → is_some (known tag) ≡ false → zeros n ≡ entry_bytes n (supplied t known tag)
  unfolding supplied value_for value_by
  not_there e h =
      sym (ap (λ o. by_own o (known tag)) e ∙ (ap (by_own None) (is_none (known tag) h) ∙ blank_entry (format_of tag) n))

pub returns-in-Some : goal.returns-in-Some
returns-in-Some c =
    let a = c.args in
    c.fill_own.ensures
    ∙ ((λ i. entry_bytes (length a.part.now) (with_format (c.format_of-format.ensures i) (unless_empty (c.bytes.ensures i))))
    ∙ own_bytes (length a.part.now) (reading_of a.from.start.now) (told_in a.from.known.now) a.tag c.in-Some.field
    (sym c.own_field.ensures ∙ c.in-Some.is))

pub returns-then-has : goal.returns-then-has
returns-then-has c =
    let a = c.args in
    c.shape.ensures
    ∙ ((λ i. shaped (c.format_of-format.ensures i) (length a.part.now) (c.value.ensures i))
    ∙ known_bytes (length a.part.now) (reading_of a.from.start.now) (told_in a.from.known.now) a.tag
    (sym c.own_field.ensures ∙ c.in-None.is) (sym c.has.ensures ∙ c.if-has.true))

pub returns-else-has : goal.returns-else-has
unfolding zeros
returns-else-has c =
    let a = c.args in
    c.blank.ensures
    ∙ not_there (length a.part.now) (reading_of a.from.start.now) (told_in a.from.known.now) a.tag
    (sym c.own_field.ensures ∙ c.in-None.is) (sym c.has.ensures ∙ c.if-has.false)
