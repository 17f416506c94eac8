-- A value that is there, and one that is not.
-- Assumes nothing.
use mathlib.Core.Path.{◌≡◌, refl, sym}
use mathlib.Core.Bool.{true, false, false≢true}
use mathlib.Core.List.{List, []}
use mathlib.Core.Option.{Option, none, some, get_or}
use Prim.Native.Nat.{ℕ}
use Rattle.slices.specs.Tests.{is_some}

pub is_there_lem : (o : Option (List ℕ)) → is_some o ≡ true → o ≡ some (get_or o [])
unfolding is_some
is_there_lem none e = absurd (false≢true e)
is_there_lem (some v) e = refl

pub is_none : (o : Option (List ℕ)) → is_some o ≡ false → o ≡ none
unfolding is_some
is_none none e = refl
is_none (some v) e = absurd (false≢true (sym e))
