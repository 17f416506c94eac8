-- `tag::tag_size` meets its contract: by the test that the definition makes.
-- Assumes nothing.
use mathlib.Core.Path.{sym, ap, ◌∙◌}
use borrow.Author.Rules.{rules}
use Rattle.slices.proofs.Choice.{pick_yes, pick_no}
use Rattle.tlv_head.specs.Head.{tag_size, two_bytes}
use Rattle.tlv_head.proofs.tag.tag_size.Goals as goal

pub returns-then-has_two_bytes : goal.returns-then-has_two_bytes
unfolding tag_size
returns-then-has_two_bytes c = (
  sym
      (pick_yes _ _ _ (ap two_bytes (sym c.byte.ensures.0)
      ∙ (sym c.has_two_bytes.ensures ∙ c.if-has_two_bytes.true))),
  search rules,
)

pub returns-else-has_two_bytes : goal.returns-else-has_two_bytes
unfolding tag_size
returns-else-has_two_bytes c = (
  sym (pick_no _ _ _ (ap two_bytes (sym c.byte.ensures.0)
      ∙ (sym c.has_two_bytes.ensures ∙ c.if-has_two_bytes.false))),
  search rules,
)
