-- The slots of two names do not meet, and all of them lie within the array: each begins where the one before it ends.
-- Assumes nothing.
use mathlib.Core.Path.{◌≡◌, refl, sym, ap, ◌∙◌}
use mathlib.Core.Bool.{true, false, false≢true}
use mathlib.Core.List.{List, [], ◌∷◌, ◌++◌, map}
use mathlib.Core.Option.{none, some, get_or}
use Prim.Native.Nat.{ℕ, ◌+◌, ◌-◌, ◌≤◌}
use native.Mathlib.Omega.{arith}
use lib.Dec.{eqb, leb}
use lib.ListN.{length, take, drop, length-take}
use borrow.Author.Tests.{eqb-true, leb-true}
use Rattle.slices.specs.Choice.{pick}
use Rattle.slices.specs.Tables.{beside, any_of}
use Rattle.slices.specs.Tests.{every}
use Rattle.slices.proofs.Tests.{first_held}
use Rattle.slices.specs.Writing.{put}
use Rattle.slices.proofs.Choice.{pick_yes, pick_no, picked, either}
use Rattle.answer_common.specs.Content.{rules, rule_for, record_names}
use Rattle.answer_common.specs.Named.{listed}
use Rattle.session_records.specs.Runs.{longest}
use Rattle.session_records.specs.Slots.{end, room, made_rooms, rooms_of, told_from, nowhere, placed}
use Rattle.session_records.specs.Slots.{total, record_slot, slot_for, cell_in, read, told_in}
use Rattle.session_records.specs.declared.Slot.{Slot}
use Rattle.session_records.proofs.Cells.{put_before, put_behind}

abbrev slot_in : ℕ → List (ℕ × ℕ) → ℕ → Slot
slot_in at rows tag = beside nowhere tag (placed at rows)

abbrev all_rooms : List (ℕ × ℕ)
all_rooms = made_rooms ++ rooms_of record_names

inside_all : (rows : List (ℕ × ℕ)) (at tag : ℕ) → at + total rows ≤ end
    → (at ≤ (slot_in at rows tag).at) × ((slot_in at rows tag).at + (slot_in at rows tag).size ≤ end)
unfolding total placed beside nowhere
inside_all [] at tag h = (omega arith, omega arith)
inside_all (row ∷ rows) at tag h =
    let n = row.1 + 1 in
    let more = inside_all rows (at + n) tag (omega arith) in
    picked (λ s. (at ≤ s.at) × (s.at + s.size ≤ end)) (eqb tag row.0) (record { at = at; size = n }) (slot_in (at + n) rows tag)
    (λ y. (omega arith, omega arith))
    (λ e. (omega arith, omega arith))

module _ (t u : ℕ) (other : t ≡ u → ⊥) (c d : List ℕ) (all : length d ≡ end) where
  apart_all : (rows : List (ℕ × ℕ)) (at : ℕ) → at + total rows ≤ end → length c ≤ (slot_in at rows t).size
      → cell_in (put c (slot_in at rows t).at d) (slot_in at rows u) ≡ cell_in d (slot_in at rows u)
  unfolding total placed beside nowhere cell_in
  apart_all [] at h = λ k. refl
  apart_all (row ∷ rows) at h =
      let n = row.1 + 1 in
      let here : Slot = record { at = at; size = n } in
      let rt = slot_in (at + n) rows t in
      let ru = slot_in (at + n) rows u in
      let it = inside_all rows (at + n) t (omega arith) in
      let iu = inside_all rows (at + n) u (omega arith) in
      picked (λ s. length c ≤ s.size → cell_in (put c s.at d) (pick (eqb u row.0) here ru) ≡ cell_in d
      (pick (eqb u row.0) here ru)) (eqb t row.0) here rt
      (λ y k.
      picked (λ s. cell_in (put c at d) s ≡ cell_in d s) (eqb u row.0) here ru
      (λ z. absurd (other (eqb-true _ _ y ∙ sym (eqb-true _ _ z))))
      (λ z. ap (take ru.size) (put_behind ru.at c at d (omega arith) (omega arith))))
      (λ y k.
      picked (λ s. cell_in (put c rt.at d) s ≡ cell_in d s) (eqb u row.0) here ru
      (λ z. put_before n at c rt.at d (omega arith) (omega arith))
      (λ z. apart_all rows (at + n) (omega arith) k))

  pub apart : length c ≤ (slot_for t).size → cell_in (put c (slot_for t).at d) (slot_for u) ≡ cell_in d (slot_for u)
  unfolding slot_for total rule_for rules room beside pick
  apart k = apart_all all_rooms 0 (omega arith) k

pub within : (tag : ℕ) → (slot_for tag).at + (slot_for tag).size ≤ end
unfolding slot_for total rule_for rules room beside pick
within tag = (inside_all all_rooms 0 tag (omega arith)).1

-- all that records name, from where they begin on
pub told_fits : told_from + total (rooms_of record_names) ≤ end
unfolding total rule_for rules room beside pick
told_fits = omega arith

pub within_told : (tag : ℕ) → (record_slot tag).at + (record_slot tag).size ≤ end
unfolding record_slot
within_told tag = (inside_all (rooms_of record_names) told_from tag told_fits).1

-- no slot has more bytes than the longest value and its length
small_all : (rows : List (ℕ × ℕ)) (at tag : ℕ) → every (map (λ row. leb row.1 longest) rows) ≡ true
    → (slot_in at rows tag).size ≤ longest + 1
unfolding every placed beside nowhere
small_all [] at tag h = omega arith
small_all (row ∷ rows) at tag h =
    let n = row.1 + 1 in
    let f = first_held (leb row.1 longest) (map (λ row. leb row.1 longest) rows) h in
    let k = leb-true row.1 longest f.0 in
    picked (λ s. s.size ≤ longest + 1) (eqb tag row.0) (record { at = at; size = n }) (slot_in (at + n) rows tag)
    (λ y. omega (arith, k))
    (λ e. small_all rows (at + n) tag f.1)

pub small : (tag : ℕ) → (slot_for tag).size ≤ longest + 1
unfolding slot_for rule_for rules room beside pick every
small tag = small_all all_rooms 0 tag refl

pub small_told : (tag : ℕ) → (record_slot tag).size ≤ longest + 1
unfolding record_slot rule_for rules room beside pick every
small_told tag = small_all (rooms_of record_names) told_from tag refl

-- a tag that records name is none of the session's own
own_unnamed : (tag own : ℕ) → listed own record_names ≡ false → listed tag record_names ≡ true → eqb tag own ≡ false
own_unnamed tag own free l =
    either (eqb tag own) (λ y. absurd (false≢true (sym free ∙ (ap (λ (t : ℕ). listed t record_names) (sym (eqb-true _ _ y)) ∙ l)))) (λ n. n)

-- a tag that is none of the session's own has its slot among what records name
pub slot_told : (tag : ℕ) → eqb tag 0x95 ≡ false → eqb tag 0x9B ≡ false → eqb tag 0x8A ≡ false → eqb tag 0x82 ≡ false
    → slot_for tag ≡ record_slot tag
unfolding slot_for record_slot placed beside
slot_told tag a b c d = pick_no _ _ _ a ∙ (pick_no _ _ _ b ∙ (pick_no _ _ _ c ∙ pick_no _ _ _ d))

pub named_slot : (tag : ℕ) → listed tag record_names ≡ true → slot_for tag ≡ record_slot tag
unfolding listed any_of pick
named_slot tag l =
    slot_told tag (own_unnamed tag 0x95 refl l) (own_unnamed tag 0x9B refl l) (own_unnamed tag 0x8A refl l) (own_unnamed tag 0x82 refl l)

no_slot : (names : List ℕ) (at tag : ℕ) → listed tag names ≡ false → slot_in at (rooms_of names) tag ≡ nowhere
unfolding listed any_of placed beside
no_slot [] at tag l = refl
no_slot (name ∷ names) at tag l =
    either (eqb tag name)
    (λ y. absurd (false≢true (sym l ∙ pick_yes _ _ _ y)))
    (λ e. pick_no _ _ _ e ∙ no_slot names (at + (room (rule_for name) + 1)) tag (sym (pick_no _ _ _ e) ∙ l))

-- the slot of a name has the room of its rule
sizes : (names : List ℕ) (at tag : ℕ) → listed tag names ≡ true → (slot_in at (rooms_of names) tag).size ≡ room (rule_for tag) + 1
unfolding listed any_of placed beside
sizes [] at tag l = absurd (false≢true l)
sizes (name ∷ names) at tag l =
    let n = room (rule_for name) + 1 in
    picked (λ s. s.size ≡ room (rule_for tag) + 1) (eqb tag name) (record { at = at; size = n }) (slot_in (at + n) (rooms_of names) tag)
    (λ y. ap (λ (t : ℕ). room (rule_for t) + 1) (sym (eqb-true _ _ y)))
    (λ e. sizes names (at + n) tag (sym (pick_no _ _ _ e) ∙ l))

pub named_size : (tag : ℕ) → listed tag record_names ≡ true → (slot_for tag).size ≡ room (rule_for tag) + 1
unfolding record_slot
named_size tag l = ap (λ s. s.size) (named_slot tag l) ∙ sizes record_names told_from tag l

-- a slot among what records name begins behind the session's own
pub told_begins : (tag : ℕ) → told_from ≤ (record_slot tag).at
unfolding record_slot
told_begins tag = (inside_all (rooms_of record_names) told_from tag told_fits).0

-- no value is longer than what an answer has room for
value_fits : (c : List ℕ) → length c ≤ longest + 1 → length (get_or (read c) []) ≤ longest
unfolding read
value_fits [] h = omega arith
value_fits (n ∷ v) h =
    picked (λ o. length (get_or o []) ≤ longest) (eqb n 0) none (some (take (n - 1) v)) (λ y. omega arith)
    (λ e. omega (arith, length-take (n - 1) v))

pub value_short : (d : List ℕ) (tag : ℕ) → length (get_or (told_in d tag) []) ≤ longest
unfolding told_in cell_in
value_short d tag =
    value_fits (take (slot_for tag).size (drop (slot_for tag).at d))
    (omega (arith, small tag, length-take (slot_for tag).size (drop (slot_for tag).at d)))
