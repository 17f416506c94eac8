-- The object that stands at a place. It looks at one head alone, so it has an answer for any bytes and any place.
-- Assumes nothing.
use Rattle.std.specs.Prelude.{List, ℕ, ◌+◌, drop}
use Rattle.slices.specs.Choice.{pick}
use Rattle.tlv_head.specs.Head.{tag_of, value_start, value_end, whole}
use Rattle.tlv_head.specs.declared.Next.{Next}
use Rattle.tlv_head.specs.declared.Next.TheVariants.{Member, Broken}

-- the object whose head stands at place p of s; `Broken` where none does
unfoldable pub member_at : List ℕ → ℕ → Next
member_at s p =
    pick (whole (drop p s)) (Member (tag_of (drop p s)) (p + value_start (drop p s)) (p + value_end (drop p s))) Broken
