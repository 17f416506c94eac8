-- Which bytes are a list of data objects, and of which objects. 01, "Data objects"; 000, Annex C.
-- Assumes nothing.
use Rattle.std.specs.Prelude.{Bool, true, not, ◌&&◌, List, [], ◌∷◌, ℕ, ◌-◌, ltb, eqb, length, get_or, take, drop}
use Rattle.std.proofs.Math.Option.{Option, none, some}
use Rattle.slices.specs.Choice.{pick, first_of}
use Rattle.slices.specs.Shorter.{shorter}
use Rattle.numbers.specs.Tables.{refused_reading}
use Rattle.tlv_head.specs.Head.{constructed, tag_of, value_start, value_end, whole}
use Rattle.slices.specs.Tests.{is_some}

pub record Object : Type 0 where
  pub tag : ℕ
  pub value : List ℕ

-- the part of some bytes from place a up to place e
unfoldable pub between : List ℕ → ℕ → ℕ → List ℕ
between s a e = take (e - a) (drop a s)

-- the object at the front of some bytes
unfoldable pub first_object : List ℕ → Object
first_object s = record { tag = tag_of s; value = between s (value_start s) (value_end s) }

-- an object before the others, where those are a list
unfoldable pub before : Object → Option (List Object) → Option (List Object)
before m none = none
before m (some ms) = some (m ∷ ms)

-- the value of a constructed object must itself be a list
unfoldable pub right_inside : (List ℕ → Option (List Object)) → Object → Bool
right_inside objects m = pick (constructed m.tag) (is_some (objects m.value)) true

-- the objects of a list, given those of every shorter one: no bytes are a list of none; a '00' byte between objects means
-- nothing; else a whole object stands there, and the others follow it
unfoldable pub listed : (List ℕ → Option (List Object)) → List ℕ → Option (List Object)
listed objects s =
    pick (eqb (length s) 0) (some [])
    (pick (eqb (get_or s 0 0) 0) (objects (drop 1 s))
    (pick (whole s && right_inside objects (first_object s)) (before (first_object s) (objects (drop (value_end s) s))) none))

-- the direct members of a list, in order; none where the bytes are no list, at whatever depth
unfoldable pub objects : List ℕ → Option (List Object)
objects = shorter listed none

unfoldable pub is_list : List ℕ → Bool
is_list s = is_some (objects s)

-- the most bytes that are read as a list, and that a written object may have (house)
abbrev pub longest : ℕ
longest = 4096

-- 01, "When a call is turned away", 9; 0 where the list is read
unfoldable pub read_refusal : List ℕ → ℕ
read_refusal s = first_of ((ltb longest (length s), refused_reading) ∷ (not (is_list s), refused_reading) ∷ [])
