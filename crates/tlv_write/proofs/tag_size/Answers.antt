-- `tlv_write::tag_size` meets its contract: by the test that the definition makes.
-- Assumes nothing.
use mathlib.Core.Path.{sym, ap}
use lib.ListN.{length}
use borrow.Author.Tests.{lt-ltb, le-ltb}
use Rattle.slices.proofs.Choice.{pick_yes, pick_no}
use Rattle.tlv_write.specs.Written.{tag_bytes}
use borrow.Author.Rules.{rules}
use Rattle.tlv_write.proofs.tag_size.Goals as goal

pub returns-then-tag-lt256 : goal.returns-then-tag-lt256
unfolding tag_bytes
returns-then-tag-lt256 c = (sym (ap length (pick_yes _ _ _ (lt-ltb _ _ c.if-tag-lt256.true))), search rules)

pub returns-else-tag-lt256 : goal.returns-else-tag-lt256
unfolding tag_bytes
returns-else-tag-lt256 c = (sym (ap length (pick_no _ _ _ (le-ltb _ _ c.if-tag-lt256.false))), search rules)
