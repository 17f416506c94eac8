-- `tlv_write::length_size` meets its contract: by the tests that the definition makes.
-- Assumes nothing.
use mathlib.Core.Path.{sym, ap, ◌∙◌}
use lib.ListN.{length}
use borrow.Author.Tests.{lt-ltb, le-ltb}
use Rattle.slices.proofs.Choice.{pick_yes, pick_no}
use Rattle.tlv_write.specs.Written.{length_bytes}
use borrow.Author.Rules.{rules}
use Rattle.tlv_write.proofs.length_size.Goals as goal

pub returns-then-n-lt128 : goal.returns-then-n-lt128
unfolding length_bytes
returns-then-n-lt128 c = (sym (ap length (pick_yes _ _ _ (lt-ltb _ _ c.if-n-lt128.true))), search rules)

pub returns-then-n-lt256 : goal.returns-then-n-lt256
unfolding length_bytes
returns-then-n-lt256 c =
    (sym (ap length (pick_no _ _ _ (le-ltb _ _ c.if-n-lt128.false) ∙ pick_yes _ _ _ (lt-ltb _ _ c.if-n-lt256.true))), search rules)

pub returns-else-n-lt256 : goal.returns-else-n-lt256
unfolding length_bytes
returns-else-n-lt256 c =
    (sym (ap length (pick_no _ _ _ (le-ltb _ _ c.if-n-lt128.false) ∙ pick_no _ _ _ (le-ltb _ _ c.if-n-lt256.false))), search rules)
