-- `count::is_supplied` meets its contract: in a format that lists know, what is there is supplied; in no other is anything.
-- Assumes nothing.
use Rattle.std.proofs.Common.{◌≡◌, ℕ, false, List, sym, refl, ap, ◌∙◌}
use mathlib.Core.Option.{Option, none, some}
use Rattle.slices.specs.Tests.{is_some}
use Rattle.start_fields.specs.Reading.{Terminal}
use Rattle.facts.specs.Facts.{Facts}
use Rattle.dol_values.specs.Shape.{format_of}
use Rattle.dol_values.specs.Known.{value_for, with_format, supplied}
use Rattle.answer_common.specs.declared.content.Format.{Format}
use Rattle.answer_common.specs.declared.content.Format.TheVariants.{Numeric, CardNumber, Other, Unknown}
use Rattle.dol_fill.proofs.count.is_supplied.Goals as goal

numeric : (o : Option (List ℕ)) → is_some o ≡ is_some (with_format Numeric o)
unfolding with_format is_some
numeric none = refl
numeric (some v) = refl

card_number_lem : (o : Option (List ℕ)) → is_some o ≡ is_some (with_format CardNumber o)
unfolding with_format is_some
card_number_lem none = refl
card_number_lem (some v) = refl

other : (o : Option (List ℕ)) → is_some o ≡ is_some (with_format Other o)
unfolding with_format is_some
other none = refl
other (some v) = refl

unknown : (o : Option (List ℕ)) → false ≡ is_some (with_format Unknown o)
unfolding with_format is_some
unknown none = refl
unknown (some v) = refl

-- under the format of the tag
module _ (t : Terminal) (k : Facts) (tag : ℕ) {f : Format} (e : format_of tag ≡ f) where
  by_format : is_some (with_format f (value_for t k tag)) ≡ is_some (supplied t k tag)
  unfolding supplied
  by_format = ap (λ (x : Format). is_some (with_format x (value_for t k tag))) (sym e)

pub returns-in-Numeric : goal.returns-in-Numeric
returns-in-Numeric c =
    c.is_there.ensures ∙ (numeric _ ∙ by_format _ _ c.args.tag (sym c.format_of.ensures ∙ c.in-Numeric.is))

pub returns-in-CardNumber : goal.returns-in-CardNumber
returns-in-CardNumber c =
    c.is_there-in-CardNumber.ensures ∙ (card_number_lem _ ∙ by_format _ _ c.args.tag (sym c.format_of.ensures ∙ c.in-CardNumber.is))

pub returns-in-Other : goal.returns-in-Other
returns-in-Other c =
    c.is_there-in-Other.ensures ∙ (other _ ∙ by_format _ _ c.args.tag (sym c.format_of.ensures ∙ c.in-Other.is))

pub returns-in-Unknown : goal.returns-in-Unknown
returns-in-Unknown c =
    unknown _ ∙ by_format _ _ c.args.tag (sym c.format_of.ensures ∙ c.in-Unknown.is)
