-- A reader that holds the lent answer and its place in it: where it goes on, and which objects it gives. 01, "Data objects".
-- Assumes nothing.
use Rattle.std.specs.Prelude.{List, [], ◌∷◌, ℕ, zero, suc, length}
use Rattle.std.proofs.Math.Option.{Option, none, some}
use Rattle.tlv_list.specs.Objects.{Object, between}
use Rattle.tlv_list.specs.Place.{next_at}
use Rattle.tlv_head.specs.declared.Next.{Next}
use Rattle.tlv_head.specs.declared.Next.TheVariants.{Member, End, Broken}
use Rattle.tlv_reader.specs.declared.Reader.{Reader}

-- past the object that was found; where none was, the place stays
unfoldable pub go_on : ℕ → Next → ℕ
go_on at (Member tag start end) = end
go_on at End = at
go_on at Broken = at

unfoldable pub place_after : List ℕ → ℕ → ℕ
place_after s at = go_on at (next_at s at)

-- "the value handed back is that part of the lent answer itself"; of nothing it is empty
unfoldable pub value_in : List ℕ → Next → List ℕ
value_in s (Member tag start end) = between s start end
value_in s End = []
value_in s Broken = []

unfoldable pub value_at : List ℕ → ℕ → List ℕ
value_at s at = value_in s (next_at s at)

-- what a reader finds next, the value of that, and the reader moved on past it: the same answer, at the next place
abbrev pub next_of : Reader → Next
next_of r = next_at r.src.now r.at

abbrev pub value_of : Reader → List ℕ
value_of r = value_at r.src.now r.at

abbrev pub moved_on : Reader → Reader
moved_on r = record { src = r.src; at = place_after r.src.now r.at }

-- what stands there after n steps
unfoldable pub nth_from : ℕ → List ℕ → ℕ → Next
nth_from zero s at = next_at s at
nth_from (suc n) s at = nth_from n s (place_after s at)

-- the object that was found, if any, and the object with n others before it
unfoldable pub object_in : List ℕ → Next → Option Object
object_in s (Member tag start end) = some (record { tag = tag; value = between s start end })
object_in s End = none
object_in s Broken = none

unfoldable pub nth : ℕ → List Object → Option Object
nth n [] = none
nth zero (m ∷ ms) = some m
nth (suc n) (m ∷ ms) = nth n ms

-- the object of what `next` and `value` give, and then the others, until no object stands there
unfoldable pub given : Next → List ℕ → List Object → List Object
given (Member tag start end) v others = record { tag = tag; value = v } ∷ others
given End v others = []
given Broken v others = []

-- what a reader gives that is asked `next` and `value` and moved on, n times
unfoldable pub given_in : ℕ → Reader → List Object
given_in zero r = []
given_in (suc n) r = given (next_of r) (value_of r) (given_in n (moved_on r))

-- "it gives the same objects": all that it gives, as there are never more objects than bytes
unfoldable pub all_given : Reader → List Object
all_given r = given_in (length r.src.now) r
