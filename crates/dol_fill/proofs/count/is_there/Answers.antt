-- `count::is_there` meets its contract: START's own is there where START has its bytes, and what is not its own is there once it is known.
-- Assumes nothing.
use Rattle.std.proofs.Common.{◌≡◌, ℕ, not, eqb, List, length, sym, ap, ◌∙◌}
use Rattle.slices.specs.Tests.{is_some}
use Rattle.slices.proofs.Choice.{is_there_lem}
use Rattle.start_fields.specs.Reading.{Terminal, reading_of, bytes_of}
use Rattle.start_fields.specs.declared.fields.Field.{Field}
use Rattle.facts.specs.Facts.{Facts}
use Rattle.session_records.specs.Slots.{told_in}
use Rattle.dol_values.specs.Known.{own_field, value_by, value_for}
use Rattle.dol_values.specs.Own.{Own}
use Rattle.std.specs.Prelude.{Some, None}
use Rattle.dol_fill.proofs.count.is_there.Goals as goal

module _ (t : Terminal) (known : Facts) (tag : ℕ) where
  own_there : (f : Field) → own_field tag ≡ Some f → not (eqb (length (bytes_of f t)) 0) ≡ is_some (value_for t known tag)
  unfolding value_for value_by
  own_there f e = sym (ap (λ (o : Own). is_some (value_by t (known tag) o)) e ∙ is_there_lem (bytes_of f t))

  known_there : own_field tag ≡ None → is_some (known tag) ≡ is_some (value_for t known tag)
  unfolding value_for value_by
  known_there e = sym (ap (λ (o : Own). is_some (value_by t (known tag) o)) e)

pub returns-in-Some : goal.returns-in-Some
returns-in-Some c =
    let a = c.args in
    ap (λ (v : List ℕ). not (eqb (length v) 0)) c.bytes.ensures
    ∙ own_there (reading_of a.from.start.now) (told_in a.from.known.now) a.tag c.in-Some.field
    (sym c.own_field.ensures ∙ c.in-Some.is)

pub returns-in-None : goal.returns-in-None
returns-in-None c =
    let a = c.args in
    c.has.ensures
    ∙ known_there (reading_of a.from.start.now) (told_in a.from.known.now) a.tag (sym c.own_field.ensures
    ∙ c.in-None.is)
