-- An answer as a whole: its size, its status, and the one object that its data is. 01, "What the card must answer", reasons
-- 1 to 3.
-- Assumes nothing.
use Rattle.std.specs.Prelude.{Bool, false, not, ◌||◌, List, [], ◌∷◌, map, ℕ, ◌-◌, ltb, eqb, length, get_or}
use Rattle.std.proofs.Math.Option.{Option, none, some}
use Rattle.slices.specs.Choice.{pick}
use Rattle.numbers.specs.Tables.{for_size, for_status, for_object}
use Rattle.tlv_list.specs.Objects.{Object, between, objects}
use Rattle.tlv_list.specs.Place.{data_field}
use Rattle.tlv_head.specs.declared.Next.{Next}
use Rattle.tlv_head.specs.declared.Next.TheVariants.{Member, End, Broken}
use Rattle.slices.specs.Tables.{any_of}

-- the fewest and the most bytes of an answer
abbrev pub fewest : ℕ
fewest = 2

abbrev pub most : ℕ
most = 258

-- the most bytes of a value in an answer's one object: less the status, and a tag and a length at each depth
abbrev pub value_most : ℕ
value_most = most - 2 - 2 - 2

unfoldable pub size_bad : List ℕ → Bool
size_bad a = ltb (length a) fewest || ltb most (length a)

-- the last two bytes are to be '90 00'
unfoldable pub status_bad : List ℕ → Bool
status_bad a = not (eqb (get_or a (length a - 2) 0) 0x90) || not (eqb (get_or a (length a - 1) 0) 0x00)

-- the only one of some objects
unfoldable pub only : Option (List Object) → Option Object
only none = none
only (some []) = none
only (some (m ∷ [])) = some m
only (some (m ∷ n ∷ ms)) = none

-- the one object of an answer's data. An answer of a bad size is not looked into
unfoldable pub outer : List ℕ → Option Object
outer a = pick (size_bad a) none (only (objects (data_field a)))

-- the object at a place where the reader found one
unfoldable pub the_one : List ℕ → Next → Option Object
the_one s (Member tag start end) = some (record { tag = tag; value = between s start end })
the_one s End = none
the_one s Broken = none

unfoldable pub tagged : ℕ → Option Object → Bool
tagged tag none = false
tagged tag (some m) = eqb m.tag tag

unfoldable pub value_under : ℕ → Option Object → List ℕ
value_under tag none = []
value_under tag (some m) = pick (eqb m.tag tag) m.value []

-- whether an answer's data is one object, and that with this tag
unfoldable pub is_one : ℕ → List ℕ → Bool
is_one tag a = tagged tag (outer a)

-- the value of that object; empty where it is not so
unfoldable pub inside : ℕ → List ℕ → List ℕ
inside tag a = value_under tag (outer a)

unfoldable pub outer_bad : List ℕ → List ℕ → Bool
outer_bad expected a = not (any_of (map (λ tag. is_one tag a) expected))

-- the lines that every answer is asked first; `expected` are the tags that its one object may have
unfoldable pub frame : List ℕ → List ℕ → List (Bool × ℕ)
frame expected a = (size_bad a, for_size) ∷ (status_bad a, for_status) ∷ (outer_bad expected a, for_object) ∷ []
