-- The number that is told of a choice is the one that it is held to: a choice is allowed where it is a place below it, or 'FF' (02, R-12).
-- Assumes nothing.
use mathlib.Core.Path.{◌≡◌, refl}
use mathlib.Core.List.{List}
use Prim.Native.Nat.{ℕ}
use Rattle.rulebook.specs.Later.{HeardLater, allowed_later}
use Rattle.words.specs.Choice.{is_choice}
use Rattle.rulebook_choosing.specs.Choosing.{Choosing, may_choose}
use Rattle.rulebook_choosing.specs.Session.{rules}
use Rattle.choosing_due.specs.Due.{count_in}

pub choice_counted : (x : Choosing) (p : List ℕ) → rules.allowed (HeardLater.new x) p ≡ is_choice (count_in (HeardLater.new x)) p
unfolding allowed_later may_choose count_in
choice_counted x p = refl
