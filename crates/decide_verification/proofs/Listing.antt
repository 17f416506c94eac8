-- The list as it stands in the slots: no value there is longer than an answer has room for, so that nothing of it is cut off.
-- Assumes nothing.
use mathlib.Core.Path.{◌≡◌, refl}
use mathlib.Core.List.{List, []}
use mathlib.Core.Option.{Option, none, some, get_or}
use Prim.Native.Nat.{ℕ}
use lib.Seq.{take_all}
use Rattle.slices.specs.Choice.{pick}
use Rattle.slices.specs.Tests.{is_some}
use Rattle.session_records.specs.Slots.{told_in}
use Rattle.session_records.proofs.Apart.{value_short}
use Rattle.decide_verification.specs.Verification.{verification_list}

pub list_whole : (d : List ℕ) → verification_list (told_in d) ≡ get_or (told_in d 0x8E) []
unfolding verification_list
list_whole d = take_all _ (get_or (told_in d 0x8E) []) (value_short d 0x8E)

-- a value that is there, and else none, is what is told
pub as_told : (o : Option (List ℕ)) → pick (is_some o) (some (get_or o [])) none ≡ o
unfolding is_some pick
as_told none = refl
as_told (some v) = refl
