-- A record of the payment system directory: one 70, whose direct members 61 are its entries; all other members are ignored. 001, 12.2.3.
-- Assumes nothing.
use Rattle.std.specs.Prelude.{Bool, not, List, [], ◌∷◌, map, ℕ, eqb}
use Rattle.slices.specs.Choice.{pick}
use Rattle.slices.specs.Tests.{every}
use Rattle.tlv_list.specs.Objects.{Object}
use Rattle.tlv_list.specs.Lookup.{Lookup}
use Rattle.answer_common.specs.Answer.{is_one, inside}
use Rattle.answer_common.specs.Content.{record_tag}
use Rattle.answer_common.specs.Named.{members_in, among, times, value_of}
use Rattle.select_answers.specs.Objects.{name_right, indicator_right, indicator_of}

abbrev pub entry_tag : ℕ
entry_tag = 0x61

-- an entry is an application's where it has a name, by what stands in it
unfoldable pub is_named : (ℕ → Lookup) → Bool
is_named entry = not (eqb (times (entry 0x4F)) 0)

-- an application's entry: its name, and its priority indicator (001, Table 12). One without a name is a DDF's where it has 9D, and passed
-- over whatever else it has (001, 12.2.3, "it may ignore it"); else a mandatory object is missing
unfoldable pub entry_right : (ℕ → Lookup) → Bool
entry_right entry =
    pick (is_named entry)
    (every (name_right (entry 0x4F) ∷ indicator_right (entry 0x87) ∷ []))
    (not (eqb (times (entry 0x9D)) 0))

-- the values of those of some objects that are entries, in their order
unfoldable pub entries : List Object → List (List ℕ)
entries [] = []
entries (m ∷ ms) = pick (eqb m.tag entry_tag) (m.value ∷ entries ms) (entries ms)

unfoldable pub entries_in : List ℕ → List (List ℕ)
entries_in a = entries (members_in (inside record_tag a))

-- every entry is tested, also one that could not match; a record without entries is good
unfoldable pub record_right : List ℕ → Bool
record_right a = every (is_one record_tag a ∷ every (map (λ e. entry_right (among e)) (entries_in a)) ∷ [])

-- an application as it was met: its name, and what its priority indicator says
pub record Met : Type 0 where
  pub name : List ℕ
  pub indicator : ℕ

unfoldable pub entry_name : (ℕ → Lookup) → List ℕ
entry_name entry = value_of (entry 0x4F)

unfoldable pub entry_indicator : (ℕ → Lookup) → ℕ
entry_indicator entry = indicator_of (entry 0x87)

-- the applications among some entries
unfoldable pub applications : List (List ℕ) → List Met
applications [] = []
applications (e ∷ es) =
    pick (is_named (among e)) (record { name = entry_name (among e); indicator = entry_indicator (among e) } ∷ applications es)
    (applications es)

-- and those that a record tells
unfoldable pub applications_of : List ℕ → List Met
applications_of a = applications (entries_in a)
