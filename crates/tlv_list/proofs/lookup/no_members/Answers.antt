-- `lookup::no_members` meets its contract.
-- Assumes nothing.
use mathlib.Core.Path.{refl}
use Rattle.tlv_list.specs.Lookup.{no_members}
use Rattle.tlv_list.proofs.lookup.no_members.Goals as goal

pub returns : goal.returns
unfolding no_members
returns c = refl
