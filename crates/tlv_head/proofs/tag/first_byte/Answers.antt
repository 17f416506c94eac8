-- `tag::first_byte` meets its contract: by the test that the definition makes.
-- Assumes nothing.
use mathlib.Core.Path.{sym}
use borrow.Author.Tests.{lt-ltb, le-ltb}
use Rattle.slices.proofs.Choice.{pick_yes, pick_no}
use Rattle.tlv_head.specs.Head.{first_byte}
use Rattle.tlv_head.proofs.tag.first_byte.Goals as goal

pub returns-then-tag-lt256 : goal.returns-then-tag-lt256
unfolding first_byte
returns-then-tag-lt256 c = sym (pick_yes _ _ _ (lt-ltb _ _ c.if-tag-lt256.true))

pub returns-else-tag-lt256 : goal.returns-else-tag-lt256
unfolding first_byte
returns-else-tag-lt256 c = sym (pick_no _ _ _ (le-ltb _ _ c.if-tag-lt256.false))
