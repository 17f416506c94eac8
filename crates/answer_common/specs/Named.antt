-- Named objects: what stands under each name directly in an answer's one object, how often, and whether its value is right.
-- 01, "What the card must answer", reasons 4, 5 and 8. Objects that are not named are passed over by every look-up.
-- Assumes nothing.
use Rattle.std.specs.Prelude.{Bool, false, not, List, [], ◌∷◌, map, ℕ, eqb}
use Rattle.std.proofs.Math.Option.{Option, none, some, get_or}
use Rattle.slices.specs.Choice.{pick}
use Rattle.tlv_list.specs.Objects.{Object, objects}
use Rattle.tlv_list.specs.Lookup.{Lookup, absent, once, twice, lookup, find_in_checked, found_value}
use Rattle.tlv_list.specs.declared.Found.{Found}
use Rattle.tlv_list.specs.declared.Found.TheVariants.{Absent, Once, Twice}
use Rattle.slices.specs.Tables.{any_of}
use Rattle.answer_common.specs.Answer.{inside}
use Rattle.answer_common.specs.Content.{right_value}

-- the direct members of some bytes; none where they are no list
unfoldable pub members_in : List ℕ → List Object
members_in s = get_or (objects s) []

unfoldable pub listed : ℕ → List ℕ → Bool
listed name names = any_of (map (eqb name) names)

-- those of some objects that are named, in their order
unfoldable pub named : List ℕ → List Object → List Object
named names [] = []
named names (m ∷ ms) = pick (listed m.tag names) (m ∷ named names ms) (named names ms)

-- what stands under a name among the direct members of some bytes
unfoldable pub among : List ℕ → ℕ → Lookup
among s name = lookup name (members_in s)

-- and among those of an answer's one object, if that has the tag
unfoldable pub direct : ℕ → List ℕ → ℕ → Lookup
direct tag a = among (inside tag a)

-- the same by place, for bytes that were checked: in a list it finds what stands among the members
unfoldable pub standing : List ℕ → ℕ → Lookup
standing s name = found_value s (find_in_checked s name)

-- how often a name was found: 2 stands for twice and more
unfoldable pub times : Lookup → ℕ
times absent = 0
times (once v) = 1
times twice = 2

-- the same of what a search found by place
unfoldable pub found_times : Found → ℕ
found_times Absent = 0
found_times (Once start end) = 1
found_times Twice = 2

-- its value, where it stands once
unfoldable pub told : Lookup → Option (List ℕ)
told absent = none
told (once v) = some v
told twice = none

-- the same as bytes: none of them where there is no value
unfoldable pub value_of : Lookup → List ℕ
value_of l = get_or (told l) []

-- its value is not as 01 wants it
unfoldable pub wrong_value : ℕ → Lookup → Bool
wrong_value name absent = false
wrong_value name (once v) = not (right_value name v)
wrong_value name twice = false

-- one of the names was found so often
unfoldable pub any_times : ℕ → List ℕ → (ℕ → Lookup) → Bool
any_times n names look = any_of (map (λ name. eqb (times (look name)) n) names)

abbrev pub any_twice : List ℕ → (ℕ → Lookup) → Bool
any_twice names look = any_times 2 names look

abbrev pub any_missing : List ℕ → (ℕ → Lookup) → Bool
any_missing names look = any_times 0 names look

-- one of them has a wrong value
unfoldable pub any_wrong : List ℕ → (ℕ → Lookup) → Bool
any_wrong names look = any_of (map (λ name. wrong_value name (look name)) names)
