-- 001, 12.3.1, worked out: an AID of five bytes as an exact one and as a partial one, with the same name, a longer one and another.
-- Assumes nothing.
use mathlib.Core.Path.{◌≡◌, refl}
use mathlib.Core.Bool.{Bool, true, false}
use mathlib.Core.List.{List, [], ◌∷◌, map}
use Prim.Native.Nat.{ℕ}
use Rattle.slices.specs.Choice.{pick}
use Rattle.slices.specs.Tests.{alike}
use Rattle.slices.specs.Tables.{any_of}
use Rattle.start_list.specs.Listing.{Applications}
use Rattle.select_names.specs.Names.{begins_with, matches, supported}

abbrev five : List ℕ
five = 0xA0 ∷ 0 ∷ 0 ∷ 0 ∷ 3 ∷ []

abbrev seven : List ℕ
seven = 0xA0 ∷ 0 ∷ 0 ∷ 0 ∷ 3 ∷ 0x10 ∷ 0x10 ∷ []

abbrev only : Bool → Applications
only partial = record { list = record { aid = five; partial = partial } ∷ []; choice = true }

-- the AID itself, a longer name, a shorter one, another
abbrev answers : Applications → List Bool
answers t = map (supported t) (five ∷ seven ∷ (0xA0 ∷ 0 ∷ []) ∷ (0xA0 ∷ 0 ∷ 0 ∷ 0 ∷ 4 ∷ 0x10 ∷ []) ∷ [])

exact : answers (only false) ≡ true ∷ false ∷ false ∷ false ∷ []
unfolding supported matches begins_with any_of alike pick
exact = refl

partial : answers (only true) ≡ true ∷ true ∷ false ∷ false ∷ []
unfolding supported matches begins_with any_of alike pick
partial = refl
