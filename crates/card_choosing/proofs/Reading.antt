-- What a search reads of an answer, from what is seen of it: the directory's file, a record and its applications, and an application's FCI.
-- Assumes nothing.
use mathlib.Core.Path.{◌≡◌, refl, sym, ap, ap₂, ◌∙◌}
use mathlib.Core.Bool.{Bool, true, false, not}
use mathlib.Core.List.{List, [], ◌∷◌, map}
use Prim.Native.Nat.{ℕ}
use lib.Dec.{eqb}
use lib.ListN.{get_or}
use Rattle.slices.specs.Choice.{pick}
use Rattle.slices.specs.Tables.{any_of, beside}
use Rattle.slices.specs.Tests.{every}
use Rattle.slices.proofs.Choice.{pick_yes, pick_no, either}
use Rattle.tlv_list.specs.Objects.{Object}
use Rattle.tlv_list.specs.Lookup.{Lookup, lookup}
use Rattle.answer_common.specs.Answer.{is_one, inside, outer_bad}
use Rattle.answer_common.specs.Content.{record_tag}
use Rattle.answer_common.specs.Named.{members_in, listed, among, times, value_of}
use Rattle.answer_select.specs.Select.{pdol_of}
use Rattle.select_names.specs.Names.{begins_with}
use Rattle.select_answers.specs.Objects.{name_right, indicator_right, indicator_of, file_right}
use Rattle.select_answers.specs.Files as files
use Rattle.select_answers.specs.Files.{environment_right, directory_file, application_right, is_application, application_name}
use Rattle.select_answers.specs.Files.{application_indicator}
use Rattle.select_answers.specs.Directory.{Met, entry_tag, is_named, entry_right, entries}
use Rattle.select_answers.specs.Directory.{entries_in, record_right, entry_name, entry_indicator}
use Rattle.select_answers.specs.Directory.{applications, applications_of}
use Rattle.card_seen.specs.Seen.{Counts, noting, environment, directory, application, environment_names, application_names}
use Rattle.card_seen.specs.Seen.{entry_names, entry_noted, names_at, expected_at, objects_at, noted, Shown, shown_as, shown, named_at}
use Rattle.card_seen.specs.Seen.{Seen, seen}
use Rattle.card_seen.proofs.Looking.{under}
use Rattle.card_seen.proofs.Noting.{noted_value, noted_there}
use Rattle.card_seen.proofs.Files.{inner_by, as_often, name_seen, inner_seen}

-- ---- the environment

unfoldable pub file_by : Seen → ℕ
file_by v =
    let ts = v.objects in
    pick (environment_right (under ts) (inner_by ts)) (get_or (value_of (inner_by ts 0x88)) 0 0) 0

pub file_seen : (a : List ℕ) → directory_file a ≡ file_by (seen environment a)
unfolding directory_file environment_right file_by seen named_at names_at objects_at listed any_of pick
file_seen a =
    let name = name_seen environment_names a in
    let often = as_often environment_names a 0xA5 refl in
    let file = inner_seen environment_names a 0x88 refl in
    λ i. pick (every (name_right (name i) ∷ begins_with files.environment (value_of (name i)) ∷ eqb (often i) 1 ∷ file_right (file i) ∷ []))
    (get_or (value_of (file i)) 0 0) 0

-- ---- an application

unfoldable pub fci_by : Seen → Bool
fci_by v = application_right (under v.objects) (inner_by v.objects)

unfoldable pub name_by : Seen → List ℕ
name_by v = value_of (under v.objects 0x84)

unfoldable pub indicator_by : Seen → ℕ
indicator_by v = indicator_of (inner_by v.objects 0x87)

unfoldable pub list_by : Seen → List ℕ
list_by v = value_of (inner_by v.objects 0x9F38)

module _ (a : List ℕ) where
  pub fci_seen : is_application a ≡ fci_by (seen application a)
  unfolding is_application application_right fci_by seen named_at names_at objects_at listed any_of pick
  fci_seen =
      let name = name_seen application_names a in
      let often = as_often application_names a 0xA5 refl in
      let indicator = inner_seen application_names a 0x87 refl in
      let list = inner_seen application_names a 0x9F38 refl in
      λ i. every (name_right (name i) ∷ eqb (often i) 1 ∷ indicator_right (indicator i) ∷ not (eqb (times (list i)) 2) ∷ [])

  pub name_told : application_name a ≡ name_by (seen application a)
  unfolding application_name name_by seen named_at names_at objects_at
  name_told = ap value_of (name_seen application_names a)

  pub indicator_told : application_indicator a ≡ indicator_by (seen application a)
  unfolding application_indicator indicator_by seen named_at names_at objects_at listed any_of pick
  indicator_told = ap indicator_of (inner_seen application_names a 0x87 refl)

  pub list_told : pdol_of a ≡ list_by (seen application a)
  unfolding pdol_of list_by seen named_at names_at objects_at listed any_of pick
  list_told = ap value_of (inner_seen application_names a 0x9F38 refl)

-- ---- a directory record: all that is shown of it are its entries

abbrev pub in_entry : Shown → ℕ → Lookup
in_entry t name = lookup name t.members

unfoldable pub right_by : Seen → Bool
right_by v = every (not v.form_wrong ∷ every (map (λ t. entry_right (in_entry t)) v.objects) ∷ [])

unfoldable pub met_by : List Shown → List Met
met_by [] = []
met_by (t ∷ ts) =
    pick (is_named (in_entry t)) (record { name = entry_name (in_entry t); indicator = entry_indicator (in_entry t) } ∷ met_by ts)
    (met_by ts)

module _ (m : Object) where
  abbrev noted_in : ℕ → Lookup
  noted_in name = lookup name (noted entry_names entry_noted (members_in m.value))

  name_noted : among m.value 0x4F ≡ noted_in 0x4F
  unfolding among listed any_of pick
  name_noted = sym (noted_value 0x4F (members_in m.value) entry_names entry_noted refl refl)

  indicator_noted : among m.value 0x87 ≡ noted_in 0x87
  unfolding among listed any_of pick
  indicator_noted = sym (noted_value 0x87 (members_in m.value) entry_names entry_noted refl refl)

  file_noted : eqb (times (among m.value 0x9D)) 0 ≡ eqb (times (noted_in 0x9D)) 0
  unfolding among listed any_of pick
  file_noted = sym (noted_there 0x9D (members_in m.value) entry_names entry_noted refl refl)

  right_noted : entry_right (among m.value) ≡ entry_right noted_in
  unfolding entry_right is_named
  right_noted = λ i.
      pick (not (eqb (times (name_noted i)) 0)) (every (name_right (name_noted i) ∷ indicator_right (indicator_noted i) ∷ []))
      (not (file_noted i))

abbrev table : List (ℕ × Counts)
table = (0x61, noting entry_names entry_noted) ∷ []

-- an object is shown exactly where it is an entry, with what is noted in it
entry_shown : (m : Object) (ms : List Object) → eqb m.tag entry_tag ≡ true
    → shown table (m ∷ ms) ≡ shown_as (noting entry_names entry_noted) m ∷ shown table ms
unfolding shown listed any_of beside
entry_shown m ms y =
    pick_yes _ _ _ (pick_yes _ _ _ y) ∙ ap (λ (c : Counts). shown_as c m ∷ shown table ms) (pick_yes _ _ _ y)

other_passed : (m : Object) (ms : List Object) → eqb m.tag entry_tag ≡ false → shown table (m ∷ ms) ≡ shown table ms
unfolding shown listed any_of
other_passed m ms n = pick_no _ _ _ (pick_no _ _ _ n)

entries_right_lem : (ms : List Object) → map (λ e. entry_right (among e)) (entries ms)
    ≡ map (λ t. entry_right (in_entry t)) (shown table ms)
unfolding entries shown shown_as
entries_right_lem [] = refl
entries_right_lem (m ∷ ms) =
    either (eqb m.tag entry_tag)
    (λ y.
    ap (map (λ (e : List ℕ). entry_right (among e))) (pick_yes _ _ _ y)
    ∙ (ap₂ (λ (t : Bool) (ts : List Bool). t ∷ ts) (right_noted m) (entries_right_lem ms)
    ∙ sym (ap (map (λ (t : Shown). entry_right (in_entry t))) (entry_shown m ms y))))
    (λ n.
    ap (map (λ (e : List ℕ). entry_right (among e))) (pick_no _ _ _ n)
    ∙ (entries_right_lem ms ∙ sym (ap (map (λ (t : Shown). entry_right (in_entry t))) (other_passed m ms n))))

entries_met : (ms : List Object) → applications (entries ms) ≡ met_by (shown table ms)
unfolding entries applications met_by shown shown_as is_named entry_name entry_indicator
entries_met [] = refl
entries_met (m ∷ ms) =
    either (eqb m.tag entry_tag)
    (λ y.
    ap applications (pick_yes _ _ _ y)
    ∙ ((λ i.
    pick (not (eqb (times (name_noted m i)) 0))
    (record { name = value_of (name_noted m i); indicator = indicator_of (indicator_noted m i) } ∷ entries_met ms i) (entries_met ms i))
    ∙ sym (ap met_by (entry_shown m ms y))))
    (λ n. ap applications (pick_no _ _ _ n) ∙ (entries_met ms ∙ sym (ap met_by (other_passed m ms n))))

one_expected : (t : Bool) → t ≡ not (not (pick t true false))
unfolding pick
one_expected true = refl
one_expected false = refl

pub record_right_lem : (a : List ℕ) → record_right a ≡ right_by (seen directory a)
unfolding record_right right_by entries_in seen named_at names_at objects_at expected_at outer_bad any_of
record_right_lem a =
    ap₂ (λ (t : Bool) (ts : List Bool). every (t ∷ every ts ∷ [])) (one_expected (is_one record_tag a))
    (entries_right_lem (members_in (inside record_tag a)))

pub record_met : (a : List ℕ) → applications_of a ≡ met_by (seen directory a).objects
unfolding applications_of entries_in seen named_at names_at objects_at
record_met a = entries_met (members_in (inside record_tag a))
