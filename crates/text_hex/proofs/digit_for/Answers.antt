-- `text_hex::digit_for` meets its contract: it makes the definition's choice.
-- Assumes nothing.
use mathlib.Core.Path.{sym}
use borrow.Author.Tests.{lt-ltb, le-ltb}
use Rattle.slices.proofs.Choice.{pick_yes, pick_no}
use Rattle.text_hex.specs.Digits.{digit_for}
use Rattle.text_hex.proofs.digit_for.Goals as goal

pub returns-then-d-lt10 : goal.returns-then-d-lt10
unfolding digit_for
returns-then-d-lt10 c = sym (pick_yes _ _ _ (lt-ltb _ _ c.if-d-lt10.true))

pub returns-else-d-lt10 : goal.returns-else-d-lt10
unfolding digit_for
returns-else-d-lt10 c = sym (pick_no _ _ _ (le-ltb _ _ c.if-d-lt10.false))
