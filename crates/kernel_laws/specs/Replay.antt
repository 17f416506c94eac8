-- The kernel as a function of the entries so far: the events among them are handed to a fresh session, each with the same buffer, and
-- what its log has next is what the kernel gives.
-- Assumes nothing.
use Rattle.std.specs.Prelude.{List, [], ◌∷◌, ℕ, length, drop}
use Rattle.slices.specs.Choice.{pick}
use Rattle.tape_read.specs.Entries.{Entry, entry}
use Rattle.rulebook.specs.Roles.{given}
use Rattle.kernel_laws.specs.Log.{Call, plays}

-- a command and a decision are the kernel's own; every other entry is an event
unfoldable pub calls_in : List ℕ → List Entry → List Call
calls_in buf [] = []
calls_in buf (e ∷ es) = pick (given e) (calls_in buf es) (record { event = e; buffer = buf } ∷ calls_in buf es)

-- the first of some entries; where there is none, an entry of no kind
unfoldable pub first_entry : List Entry → Entry
first_entry [] = entry 0 []
first_entry (e ∷ es) = e

unfoldable pub given_after : List ℕ → List Entry → Entry
given_after buf es = first_entry (drop (length es) (plays (calls_in buf es)).log)
