-- What is right of an answer, said of what stands in it and not by the tests: the laws over whole answers are stated with these. 01,
-- "What the card must answer".
-- Assumes nothing.
use Rattle.std.specs.Prelude.{◌≡◌, true, List, map, ◌⊎◌, ℕ, ◌-◌, ◌≤◌, length, get_or}
use Rattle.tlv_list.specs.Lookup.{Lookup, absent, once}
use Rattle.slices.specs.Tables.{any_of}
use Rattle.answer_common.specs.Content.{right_value}
use Rattle.answer_common.specs.Answer.{fewest as fewest_bytes, most as most_bytes, is_one}

-- an answer that passes the lines for every answer
pub record Framed (expected a : List ℕ) : Type 0 where
  pub fewest : fewest_bytes ≤ length a
  pub most : length a ≤ most_bytes
  pub first : get_or a (length a - 2) 0 ≡ 0x90
  pub second : get_or a (length a - 1) 0 ≡ 0x00
  pub one : any_of (map (λ tag. is_one tag a) expected) ≡ true

-- one value stands there, and it is as P says
abbrev pub There : (List ℕ → Type 0) → Lookup → Type 0
There P l = (v : List ℕ) × (l ≡ once v) × P v

-- none does, or one as P says
abbrev pub MayBe : (List ℕ → Type 0) → Lookup → Type 0
MayBe P l = (l ≡ absent) ⊎ There P l

-- as the table of rules wants it under a name
abbrev pub Right : ℕ → List ℕ → Type 0
Right name v = right_value name v ≡ true

-- a number of bytes between two limits
abbrev pub Sized : ℕ → ℕ → List ℕ → Type 0
Sized fewest most v = (fewest ≤ length v) × (length v ≤ most)
