-- `tag::tag_of` meets its contract: by the test that the definition makes.
-- Assumes nothing.
use mathlib.Core.Path.{◌∙◌, sym, ap, ap₂}
use Prim.Native.Nat.{ℕ, ◌+◌, ◌*◌}
use native.Mathlib.Omega.{arith}
use Rattle.slices.proofs.Choice.{pick_yes, pick_no}
use Rattle.tlv_head.specs.Head.{tag_of, two_bytes}
use Rattle.tlv_head.proofs.tag.tag_of.Goals as goal

pub returns-then-has_two_bytes : goal.returns-then-has_two_bytes
unfolding tag_of
returns-then-has_two_bytes c = (
  ap₂ (λ (a b : ℕ). 256 * a + b) c.byte-first.ensures.0 c.byte.ensures.0
      ∙ sym (pick_yes _ _ _ (ap two_bytes (sym c.byte-first.ensures.0)
      ∙ (sym c.has_two_bytes.ensures ∙ c.if-has_two_bytes.true))),
  omega arith,
)

pub returns-else-has_two_bytes : goal.returns-else-has_two_bytes
unfolding tag_of
returns-else-has_two_bytes c = (
  c.byte-first.ensures.0
      ∙ sym (pick_no _ _ _ (ap two_bytes (sym c.byte-first.ensures.0)
      ∙ (sym c.has_two_bytes.ensures ∙ c.if-has_two_bytes.false))),
  omega arith,
)
