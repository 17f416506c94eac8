-- An object list filled: entry by entry, each value shaped to the room that its entry gives it (01, "The commands"); and how many of
-- its entries the terminal could not supply (02, R-6).
-- Assumes nothing.
use Rattle.std.specs.Prelude.{ℕ, ◌+◌, ◌%◌, ◌^◌, List, [], ◌∷◌, ◌++◌}
use Rattle.std.proofs.Math.Option.{Option, none, some}
use Rattle.slices.specs.Choice.{pick}
use Rattle.slices.specs.Tests.{is_some}
use Rattle.slices.specs.Writing.{zeros}
use Rattle.tlv_head.specs.Head.{tag_of}
use Rattle.start_fields.specs.Reading.{Terminal}
use Rattle.dol_wanted.specs.Wanted.{Wanted, size_at, entries_of, fillable}
use Rattle.dol_values.specs.Shape.{shaped}
use Rattle.dol_values.specs.Known.{supplied}
use Rattle.answer_common.specs.declared.content.Format.{Format}
use Rattle.facts.specs.Facts.{Facts}

-- what is not supplied is all zeros
unfoldable pub entry_bytes : ℕ → Option (Format × List ℕ) → List ℕ
entry_bytes n none = zeros n
entry_bytes n (some v) = shaped v.0 n v.1

-- the bytes of the entry at the front of a list
unfoldable pub first_bytes : Terminal → Facts → List ℕ → List ℕ
first_bytes t k list = entry_bytes (size_at list) (supplied t k (tag_of list))

unfoldable pub filled : Terminal → Facts → List Wanted → List ℕ
filled t k [] = []
filled t k (w ∷ ws) = entry_bytes w.size (supplied t k w.tag) ++ filled t k ws

-- a list that is not well formed is filled with nothing
unfoldable pub filled_by : Terminal → Facts → Option (List Wanted) → List ℕ
filled_by t k none = []
filled_by t k (some ws) = filled t k ws

unfoldable pub filled_list : Terminal → Facts → List ℕ → List ℕ
filled_list t k list = filled_by t k (entries_of list)

-- and so is one that asks for too much
unfoldable pub filling : Terminal → Facts → List ℕ → List ℕ
filling t k list = pick (fillable list) (filled_list t k list) []

-- an entry counts where nothing is supplied for its tag, also where it asks for no byte; a value that happens to be zeros is supplied
unfoldable pub missing : Terminal → Facts → ℕ → ℕ
missing t k tag = pick (is_some (supplied t k tag)) 0 1

unfoldable pub missing_in : Terminal → Facts → List Wanted → ℕ
missing_in t k [] = 0
missing_in t k (w ∷ ws) = missing t k w.tag + missing_in t k ws

unfoldable pub missing_by : Terminal → Facts → Option (List Wanted) → ℕ
missing_by t k none = 0
missing_by t k (some ws) = missing_in t k ws

-- how many entries of a list are filled with zeros for want of a value; a list that is not filled has none
unfoldable pub unsupplied : Terminal → Facts → List ℕ → ℕ
unsupplied t k list = pick (fillable list) (missing_by t k (entries_of list)) 0

-- the sum over the lists filled so far. It goes on from 0 after the largest number, so that any sum has a next one; no session comes near
-- (rulebook_zeros, proofs/Most)
unfoldable pub summed : ℕ → ℕ → ℕ
summed zeros more = (zeros + more) % 2 ^ 64
