-- `is_wrong` meets its contract: the kind first, then the length.
-- Assumes nothing.
use mathlib.Core.Path.{sym, ◌∙◌}
use borrow.Author.Tests.{not-true, not-false}
use Rattle.kernel_record.proofs.Refusing.{wrong_kind, wrong_length}
use Rattle.kernel_record.proofs.is_wrong.Goals as goal

pub returns-then-no_kind : goal.returns-then-no_kind
returns-then-no_kind c = sym (wrong_kind _ (not-true _ (sym c.no_kind.ensures ∙ c.if-no_kind.true)))

pub returns-else-no_kind : goal.returns-else-no_kind
returns-else-no_kind c = sym (wrong_length _ (not-false _ (sym c.no_kind.ensures ∙ c.if-no_kind.false)))
