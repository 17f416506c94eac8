-- What is due by the rules of 01, as it is under any rules that open with a word (Theorem of due_under).
-- Assumes nothing.
use mathlib.Core.Path.{refl}
use Rattle.rulebook.specs.Phase.{terminal}
use Rattle.rulebook.proofs.Kept.{kept}
use Rattle.due_under.proofs.Theorem as Under
use Rattle.rulebook_due.specs.Theorem.{MayFollow}

pub may_follow : MayFollow
may_follow = Under.may_follow kept terminal refl
