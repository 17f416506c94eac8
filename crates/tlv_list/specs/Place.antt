-- The reader by place: what stands at a place of a list, where its value lies, and where to go on. It looks at one object's
-- head at a time, so it has an answer for any bytes and any place.
-- Assumes nothing.
use Rattle.std.specs.Prelude.{List, [], ◌∷◌, ℕ, zero, suc, ◌+◌, ◌-◌, leb, eqb, length, take, drop}
use Rattle.slices.specs.Choice.{pick}
use Rattle.tlv_head.specs.Head.{constructed}
use Rattle.tlv_head.specs.Member.{member_at}
use Rattle.tlv_list.specs.Objects.{Object, between, read_refusal}
use Rattle.tlv_head.specs.declared.Next.{Next}
use Rattle.tlv_head.specs.declared.Next.TheVariants.{Member, End, Broken}

-- how many '00' bytes stand at the front
unfoldable pub fillers : List ℕ → ℕ
fillers [] = 0
fillers (b ∷ s) = pick (eqb b 0) (suc (fillers s)) 0

-- the next object at or after a place: '00' bytes are passed over. At the end of the bytes and past it there is none.
-- In the middle of an object, and on bytes that are no list, the bytes there are read as if a head stood there
unfoldable pub next_at : List ℕ → ℕ → Next
next_at s at = pick (leb (length s) (at + fillers (drop at s))) End (member_at s (at + fillers (drop at s)))

-- the same with a look inside: a constructed object whose value is refused as a list is none. A walk that goes by this from the front to the
-- end of some bytes has checked that they are a list
unfoldable pub looked_into : List ℕ → Next → Next
looked_into s (Member tag start end) =
    pick (constructed tag) (pick (eqb (read_refusal (between s start end)) 0) (Member tag start end) Broken) (Member tag start end)
looked_into s End = End
looked_into s Broken = Broken

unfoldable pub checked_at : List ℕ → ℕ → Next
checked_at s at = looked_into s (next_at s at)

-- a place where an object was found: its tag, where its value starts and where it ends, which is where to go on
pub record Place : Type 0 where
  pub tag : ℕ
  pub start : ℕ
  pub end : ℕ

unfoldable pub object_at : List ℕ → Place → Object
object_at s p = record { tag = p.tag; value = between s p.start p.end }

-- the place of what the reader found, and those that `on` finds from where it goes on
unfoldable pub follow : (ℕ → List Place) → Next → List Place
follow on (Member tag start end) = record { tag = tag; start = start; end = end } ∷ on end
follow on End = []
follow on Broken = []

-- the objects found from a place on, at most n of them
unfoldable pub walk : ℕ → List ℕ → ℕ → List Place
walk zero s at = []
walk (suc n) s at = follow (walk n s) (next_at s at)

-- all of them: there are never more than there are bytes
unfoldable pub places_from : List ℕ → ℕ → List Place
places_from s at = walk (length s) s at

-- an answer's data field: the answer without its two status bytes, and empty where it has fewer than two
unfoldable pub data_field : List ℕ → List ℕ
data_field answer = take (length answer - 2) answer
