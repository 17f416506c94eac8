-- What makes a tape unreadable: what `read_tape` says of it, as place and code (01, "The tape"). And the same of each of many tapes that
-- stand one behind the other (02, R-14). Assumes nothing.
use Rattle.std.specs.Prelude.{List, [], ◌∷◌, map, not, ℕ, ◌-◌, ◌/◌, ◌%◌, ltb, eqb, length, take, drop}
use Rattle.std.proofs.lemmas.List.Edits.{sets}
use Rattle.slices.specs.Choice.{pick}
use Rattle.numbers.specs.Tables.{code_long, code_torn}
use Rattle.tape_read.specs.Entries.{block_size, tape_most}
use Rattle.tape_read.specs.Tapes.{Reading, entries, unreadable, read_tape}
use Rattle.tape_feed.specs.declared.Damage.{Damage}
use Rattle.tape_feed.specs.Feeding.{damaged}

-- code 0: it reads as entries
unfoldable pub damage_said : Reading → Damage
damage_said (entries es) = damaged 0 0
damage_said (unreadable place code) = damaged place code

unfoldable pub damage_in : List ℕ → Damage
damage_in t = damage_said (read_tape t)

-- what its length alone makes of it (01, codes 1 and 2); code 0 where its blocks decide
unfoldable pub length_damage : List ℕ → Damage
length_damage t =
    pick (ltb tape_most (length t)) (damaged 0 code_long)
    (pick (not (eqb (length t % block_size) 0)) (damaged (length t / block_size) code_torn) (damaged 0 0))

-- ---- many tapes

-- where a tape ends that is said to end at a place: an end before its beginning or past the bytes makes it an empty one
unfoldable pub end_of : ℕ → ℕ → ℕ → ℕ
end_of size from to = pick (ltb to from) from (pick (ltb size to) from to)

-- the bytes from one place to another
unfoldable pub tape_in : ℕ → ℕ → List ℕ → List ℕ
tape_in from to bytes = take (to - from) (drop from bytes)

-- the tapes themselves: the first begins at a place, and each other where the one before it ends
unfoldable pub tapes_from : ℕ → List ℕ → List ℕ → List (List ℕ)
tapes_from from bytes [] = []
tapes_from from bytes (to ∷ ends) =
    tape_in from (end_of (length bytes) from to) bytes ∷ tapes_from (end_of (length bytes) from to) bytes ends

-- a buffer that holds the place, or the code, of each tape at its index; where it ends before, those that are past its end are left out
abbrev pub places_told : List ℕ → List ℕ → List ℕ → List ℕ
places_told bytes ends out = sets out 0 (map (λ t. (damage_in t).place) (tapes_from 0 bytes ends))

abbrev pub codes_told : List ℕ → List ℕ → List ℕ → List ℕ
codes_told bytes ends out = sets out 0 (map (λ t. (damage_in t).code) (tapes_from 0 bytes ends))
