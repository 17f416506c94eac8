-- What is due by the rules with choosing, as it is under any rules that open with a word (Theorem of due_under).
-- Assumes nothing.
use mathlib.Core.Path.{refl}
use Rattle.rulebook.specs.Phase.{terminal}
use Rattle.rulebook.specs.Later.{HeardLater}
use Rattle.rulebook_choosing.proofs.Kept.{kept}
use Rattle.due_under.proofs.Theorem as Under
use Rattle.choosing_due.specs.Theorem.{MayFollow}

pub may_follow : MayFollow
may_follow = Under.may_follow kept (HeardLater.was terminal) refl
