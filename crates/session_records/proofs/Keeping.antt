-- What a store tells after a value was kept, and after a record's objects were: no slot but the value's own is touched.
-- Assumes nothing.
use mathlib.Core.Path.{◌≡◌, refl, sym, ap, ◌∙◌}
use mathlib.Core.Bool.{true, false, false≢true}
use mathlib.Core.List.{List, [], ◌∷◌, ◌++◌}
use mathlib.Core.Option.{Option, none, some}
use Prim.Native.Nat.{ℕ, zero, suc, ◌+◌, ◌≤◌, ◌<◌}
use native.Mathlib.Omega.{arith}
use lib.Dec.{eqb, ltb}
use lib.ListN.{length, get_or, take, drop, replicate, length-append, length-replicate, get_or-replicate, get_or-eq_default}
use lib.Seq.{take_at, length-take-le, get_or-take, get_or-drop}
use borrow.Author.Tests.{eqb-true, eqb-false, ltb-true, ltb-false}
use Rattle.slices.specs.Writing.{zeros}
use Rattle.slices.proofs.Choice.{pick_yes, pick_no, picked, either}
use Rattle.slices.proofs.Tests.{first_held}
use Rattle.slices.proofs.Writing.{zeros_length}
use Rattle.slices.specs.Tests.{is_some}
use Rattle.tlv_list.specs.Objects.{Object}
use Rattle.tlv_list.specs.Lookup.{Lookup, absent, once, twice, met, lookup}
use Rattle.answer_common.specs.Named.{listed, told as told_of}
use Rattle.answer_common.specs.Content.{rule_for, right_value, meets, record_names}
use Rattle.answer_common.specs.CardNumber.{card_number}
use Rattle.answer_common.proofs.Limits.{bounds}
use Rattle.decimal_dates.specs.Dates.{valid_card_date}
use Rattle.answer_common.specs.declared.content.Rule.{Rule}
use Rattle.answer_common.specs.declared.content.Rule.TheVariants.{Sizes, Entries, Number, Date, Verification, Anything}
use Rattle.session_records.specs.Runs.{longest}
use Rattle.facts.specs.Facts.{or_else}
use Rattle.session_records.specs.Slots.{end, room, read, cell_in, slot_for, told_in, kept_at}
use Rattle.session_records.specs.Slots.{kept_in, kept_told, kept_objects, full, empty_store, told}
use Rattle.session_records.proofs.Cells.{kept_put, kept_length, read_put, read_none}
use Rattle.session_records.proofs.Apart.{apart, within, named_size}

module _ (d : List ℕ) (all : length d ≡ end) where
  pub keep_same : (tag : ℕ) (v : List ℕ) → length v < (slot_for tag).size → told_in (kept_in tag v d) tag ≡ some v
  unfolding told_in kept_in
  keep_same tag v f =
      let w = within tag in
      ap (λ l. read (cell_in l (slot_for tag))) (kept_put (slot_for tag) v d f (omega arith)) ∙ read_put (slot_for tag) v d f (omega arith)

  pub keep_other : (t u : ℕ) (v : List ℕ) → (t ≡ u → ⊥) → told_in (kept_in t v d) u ≡ told_in d u
  unfolding told_in kept_in kept_at
  keep_other t u v other =
      let w = within t in
      either (ltb (length v) (slot_for t).size)
      (λ y.
      let f = ltb-true _ _ y in
      ap (λ l. read (cell_in l (slot_for u))) (kept_put (slot_for t) v d f (omega arith))
      ∙ ap read (apart t u other ((length v + 1) ∷ v) d all (omega arith)))
      (λ n. ap (λ l. read (cell_in l (slot_for u))) (untouched n))
    where
      untouched : ltb (length v) (slot_for t).size ≡ false → kept_at (slot_for t) v d ≡ d
      untouched n = pick_no _ _ _ n

  pub keep_all : (tag : ℕ) (v : List ℕ) → length (kept_in tag v d) ≡ end
  unfolding kept_in
  keep_all tag v = kept_length (slot_for tag) v d ∙ all

  told_all : (names : List ℕ) (tag : ℕ) (v : List ℕ) → length (kept_told names tag v d) ≡ end
  unfolding kept_told
  told_all names tag v = picked (λ (x : List ℕ). length x ≡ end) (listed tag names) _ d (λ y. keep_all tag v) (λ n. all)

  told_other : (names : List ℕ) (t u : ℕ) (v : List ℕ) → (t ≡ u → ⊥) → told_in (kept_told names t v d) u ≡ told_in d u
  unfolding kept_told
  told_other names t u v other =
      picked (λ (x : List ℕ). told_in x u ≡ told_in d u) (listed t names) _ d (λ y. keep_other t u v other) (λ n. refl)

-- a name that does not count, no record touches
pub unnamed_kept : (names : List ℕ) (u : ℕ) → listed u names ≡ false → (ms : List Object) (d : List ℕ) → length d ≡ end
    → told_in (kept_objects names ms d) u ≡ told_in d u
unfolding kept_objects kept_told
unnamed_kept names u free [] d all = refl
unnamed_kept names u free (m ∷ ms) d all =
    unnamed_kept names u free ms (kept_told names m.tag m.value d) (told_all d all names m.tag m.value)
    ∙ either (eqb m.tag u)
    (λ y. ap (λ x. told_in x u) (pick_no _ _ _ (ap (λ (t : ℕ). listed t names) (eqb-true _ _ y) ∙ free)))
    (λ n. told_other d all names m.tag u m.value (eqb-false _ _ n))

-- objects of which each name stands at most once, and where it does has room and is new
stays : (o : Option (List ℕ)) → or_else o none ≡ o
unfolding or_else
stays none = refl
stays (some x) = refl

was_none : (o : Option (List ℕ)) → is_some o ≡ false → o ≡ none
unfolding is_some
was_none none e = refl
was_none (some x) e = absurd (false≢true (sym e))

abbrev kind : Lookup → ℕ
kind absent = 0
kind (once v) = 1
kind twice = 2

absent_twice : absent ≡ twice → ⊥
absent_twice e = let z : ◌≡◌ {A = ℕ} 0 2 = ap kind e in omega arith

absent_once : (v : List ℕ) → absent ≡ once v → ⊥
absent_once v e = let z : ◌≡◌ {A = ℕ} 0 1 = ap kind e in omega arith

pub record Fits (tag : ℕ) (o : Option (List ℕ)) (l : Lookup) : Type 0 where
  pub not_twice : l ≡ twice → ⊥
  pub new : (v : List ℕ) → l ≡ once v → (length v < (slot_for tag).size) × (is_some o ≡ false)

module _ (names : List ℕ) (tag : ℕ) (named : listed tag names ≡ true) where
  abbrev pub Goes : List Object → Type 0
  Goes ms =
      (d : List ℕ) → length d ≡ end → Fits tag (told_in d tag) (lookup tag ms) → told_in (kept_objects names ms d) tag
      ≡ or_else (told_in d tag)
      (told_of (lookup tag ms))

  module _ (m : Object) (ms : List Object) (again : Goes ms) (d : List ℕ) (all : length d ≡ end)
      (f : Fits tag (told_in d tag) (lookup tag (m ∷ ms))) where
    abbrev one_more : List ℕ
    one_more = kept_told names m.tag m.value d

    now_there : eqb m.tag tag ≡ true → (l : Lookup) → lookup tag ms ≡ l
        → told_in (kept_objects names ms one_more) tag ≡ or_else (told_in d tag) (told_of (lookup tag (m ∷ ms)))
    unfolding lookup met told_of or_else kept_told
    now_there y absent e =
        let l : lookup tag (m ∷ ms) ≡ once m.value = pick_yes _ _ _ y ∙ ap (met m.value) e in
        let g = f.new m.value l in
        let there : told_in one_more tag ≡ some m.value =
        ap (λ t. told_in (kept_told names t m.value d) tag) (eqb-true _ _ y)
        ∙ (ap (λ x. told_in x tag) (pick_yes _ _ _ named) ∙ keep_same d all tag m.value g.0) in
        again one_more (told_all d all names m.tag m.value)
        (record { not_twice = λ z. absent_twice (sym e ∙ z); new = λ w z. absurd (absent_once w (sym e ∙ z)) })
        ∙ (ap (λ x. or_else (told_in one_more tag) (told_of x)) e
        ∙ (stays (told_in one_more tag)
        ∙ (there
        ∙ sym (ap (λ o. or_else o (told_of (lookup tag (m ∷ ms)))) (was_none (told_in d tag) g.1) ∙ ap told_of l))))
    now_there y (once w) e = absurd (f.not_twice (pick_yes _ _ _ y ∙ ap (met m.value) e))
    now_there y twice e = absurd (f.not_twice (pick_yes _ _ _ y ∙ ap (met m.value) e))

    another : eqb m.tag tag ≡ false → told_in (kept_objects names ms one_more) tag ≡ or_else (told_in d tag) (told_of (lookup tag (m ∷ ms)))
    unfolding lookup
    another n =
        let same = told_other d all names m.tag tag m.value (eqb-false _ _ n) in
        again one_more (told_all d all names m.tag m.value)
        (record {
          not_twice = λ e. f.not_twice (pick_no _ _ _ n ∙ e);
          new = λ v e. let g = f.new v (pick_no _ _ _ n ∙ e) in
              (g.0, ap is_some same ∙ g.1);
        })
        ∙ (ap (λ o. or_else o (told_of (lookup tag ms))) same
        ∙ ap (λ l. or_else (told_in d tag) (told_of l)) (sym (pick_no _ _ _ n)))

  pub objects_kept : (ms : List Object) → Goes ms
  unfolding kept_objects lookup told_of
  objects_kept [] d all f = sym (stays (told_in d tag))
  objects_kept (m ∷ ms) d all f =
      either (eqb m.tag tag)
      (λ y. now_there m ms (objects_kept ms) d all f y (lookup tag ms) refl)
      (another m ms (objects_kept ms) d all f)

-- every list has a reading
pub full_all : (d : List ℕ) → length d ≡ end → full d ≡ d
unfolding full
full_all d all = take_at d (zeros end) end all

pub full_length_lem : (d : List ℕ) → length (full d) ≡ end
unfolding full
full_length_lem d = let z = zeros_length end in length-take-le end (d ++ zeros end) (rw length-append (omega arith))

pub objects_length : (names : List ℕ) (ms : List Object) (d : List ℕ) → length d ≡ end → length (kept_objects names ms d) ≡ end
unfolding kept_objects
objects_length names [] d all = all
objects_length names (m ∷ ms) d all =
    objects_length names ms (kept_told names m.tag m.value d) (told_all d all names m.tag m.value)

-- a value that is right for its name has room in its slot
meets_room : (rule : Rule) (v : List ℕ) → meets rule v ≡ true → length v ≤ longest → length v ≤ room rule
unfolding meets room card_number valid_card_date
meets_room (Sizes fewest most) v e h = (bounds fewest most (length v) e).1
meets_room Entries v e h = h
meets_room Number v e h = (bounds 1 10 (length v) (first_held _ _ e).0).1
meets_room Date v e h = let z = eqb-true (length v) 3 (first_held _ _ e).0 in omega arith
meets_room Verification v e h = h
meets_room Anything v e h = h

pub right_room : (tag : ℕ) (v : List ℕ) → listed tag record_names ≡ true → right_value tag v ≡ true → length v ≤ longest
    → length v < (slot_for tag).size
unfolding right_value
right_room tag v l r h =
    let s = named_size tag l in
    let k = meets_room (rule_for tag) v r h in
    omega (arith, s, k)

zero_byte : (i : ℕ) → get_or (zeros end) i 0 ≡ 0
unfolding zeros
zero_byte i =
    either (ltb i end)
    (λ y. get_or-replicate end i 0 0 (ltb-true _ _ y))
    (λ n. get_or-eq_default (replicate end 0) 0 {n = i}
    (let z = length-replicate {A = ℕ} end 0 in let k = ltb-false i end n in omega arith))

-- a store with nothing told
pub told_nothing : (tag : ℕ) → told empty_store tag ≡ none
unfolding told empty_store told_in cell_in
told_nothing tag =
    let z = zeros_length end in
    let slot = slot_for tag in
    ap (λ d. read (take slot.size (drop slot.at d))) (full_all (zeros end) z)
    ∙ read_none (take slot.size (drop slot.at (zeros end))) (first slot.size slot.at)
  where
    first : (n p : ℕ) → get_or (take n (drop p (zeros end))) 0 0 ≡ 0
    first zero p = refl
    first (suc n) p = get_or-take (suc n) (drop p (zeros end)) 0 0 (omega arith) ∙ (get_or-drop p (zeros end) 0 0 ∙ zero_byte (p + 0))
