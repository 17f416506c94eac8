-- The slot of each name, and how an array of slots is read and written. Each name of the table of what records name has one, and
-- so has what the session itself comes to, for object lists (01, "The commands").
-- Assumes nothing.
use Rattle.std.specs.Prelude.{List, [], ◌∷◌, ◌++◌, map, ℕ, ◌+◌, ◌-◌, eqb, ltb, length, take, drop}
use Rattle.std.proofs.Math.Option.{Option, none, some}
use Rattle.slices.specs.Choice.{pick}
use Rattle.slices.specs.Tables.{beside}
use Rattle.slices.specs.Writing.{laid, zeros}
use Rattle.facts.specs.Facts.{Facts}
use Rattle.tlv_list.specs.Objects.{Object}
use Rattle.tlv_list.specs.Place.{Place, object_at, places_from}
use Rattle.answer_common.specs.declared.content.Rule.{Rule}
use Rattle.answer_common.specs.declared.content.Rule.TheVariants.{Sizes, Entries, Number, Date, Verification, Anything}
use Rattle.answer_common.specs.Answer.{value_most, inside}
use Rattle.answer_common.specs.Content.{rule_for, record_tag, record_names}
use Rattle.answer_common.specs.Named.{listed}
use Rattle.session_records.specs.declared.Slot.{Slot}
use Rattle.session_records.specs.declared.Store.{Store}

-- the most bytes that a rule lets a value have
unfoldable pub room : Rule → ℕ
room (Sizes fewest most) = most
room Entries = value_most
room Number = 10
room Date = 3
room Verification = value_most
room Anything = value_most

-- TVR, TSI, response code and profile, each with its number of bytes
abbrev pub made_rooms : List (ℕ × ℕ)
made_rooms = (0x95, 5) ∷ (0x9B, 2) ∷ (0x8A, 2) ∷ (0x82, 2) ∷ []

abbrev pub rooms_of : List ℕ → List (ℕ × ℕ)
rooms_of names = map (λ name. (name, room (rule_for name))) names

-- the bytes of all slots together
abbrev pub end : ℕ
end = 817

-- where the slots of what records name begin
abbrev pub told_from : ℕ
told_from = 15

unfoldable pub nowhere : Slot
nowhere = record { at = end; size = 0 }

-- one slot after another: each has a byte for the length, and room for the longest value
unfoldable pub placed : ℕ → List (ℕ × ℕ) → List (ℕ × Slot)
placed at [] = []
placed at (row ∷ rows) = (row.0, record { at = at; size = row.1 + 1 }) ∷ placed (at + (row.1 + 1)) rows

-- the bytes of some slots
unfoldable pub total : List (ℕ × ℕ) → ℕ
total [] = 0
total (row ∷ rows) = row.1 + 1 + total rows

unfoldable pub record_slot : ℕ → Slot
record_slot tag = beside nowhere tag (placed told_from (rooms_of record_names))

unfoldable pub slot_for : ℕ → Slot
slot_for tag = beside nowhere tag (placed 0 (made_rooms ++ rooms_of record_names))

-- the bytes of a slot
unfoldable pub cell_in : List ℕ → Slot → List ℕ
cell_in d slot = take slot.size (drop slot.at d)

-- what they say
unfoldable pub read : List ℕ → Option (List ℕ)
read [] = none
read (n ∷ v) = pick (eqb n 0) none (some (take (n - 1) v))

unfoldable pub told_in : List ℕ → Facts
told_in d tag = read (cell_in d (slot_for tag))

unfoldable pub kept_at : Slot → List ℕ → List ℕ → List ℕ
kept_at slot v d =
    pick (ltb (length v) slot.size) (laid v (slot.at + 1) (laid ((length v + 1) ∷ []) slot.at d)) d

unfoldable pub kept_in : ℕ → List ℕ → List ℕ → List ℕ
kept_in tag v d = kept_at (slot_for tag) v d

-- a record's object is kept where its tag is one of the names that count
unfoldable pub kept_told : List ℕ → ℕ → List ℕ → List ℕ → List ℕ
kept_told names tag v d = pick (listed tag names) (kept_in tag v d) d

-- objects, one after the other
unfoldable pub kept_objects : List ℕ → List Object → List ℕ → List ℕ
kept_objects names [] d = d
kept_objects names (m ∷ ms) d = kept_objects names ms (kept_told names m.tag m.value d)

unfoldable pub kept_places : List ℕ → List ℕ → List Place → List ℕ → List ℕ
kept_places names s ps d = kept_objects names (map (object_at s) ps) d

-- every list has a reading as an array of slots
unfoldable pub full : List ℕ → List ℕ
full d = take end (d ++ zeros end)

unfoldable pub empty_store : Store
empty_store = record { bytes = zeros end }

unfoldable pub told : Store → Facts
told s tag = told_in (full s.bytes) tag

-- one record more, given the names that count in it
unfoldable pub with_record : List ℕ → List ℕ → Store → Store
with_record names a s = record { bytes = kept_places names (inside record_tag a) (places_from (inside record_tag a) 0) (full s.bytes) }
