-- `tlv_write::lay_tag` meets its contract: the bytes laid are those that the definition names.
-- Assumes nothing.
use mathlib.Core.Path.{sym, ap, ◌∙◌}
use mathlib.Core.List.{List}
use Prim.Native.Nat.{ℕ}
use borrow.Author.Tests.{lt-ltb, le-ltb}
use Rattle.slices.proofs.Choice.{pick_yes, pick_no}
use Rattle.slices.specs.Writing.{laid}
use Rattle.tlv_write.specs.Written.{tag_bytes}
use Rattle.tlv_write.proofs.lay_tag.Goals as goal

pub returns-then-tag-lt256 : goal.returns-then-tag-lt256
unfolding tag_bytes
returns-then-tag-lt256 c =
    c.lay.ensures
    ∙ ap (λ (s : List ℕ). laid s 0 c.args.buf.now)
    (sym (pick_yes _ _ _ (lt-ltb _ _ c.if-tag-lt256.true)))

pub returns-else-tag-lt256 : goal.returns-else-tag-lt256
unfolding tag_bytes
returns-else-tag-lt256 c =
    c.lay-else-tag-lt256.ensures
    ∙ ap (λ (s : List ℕ). laid s 0 c.args.buf.now)
    (sym (pick_no _ _ _ (le-ltb _ _ c.if-tag-lt256.false)))
