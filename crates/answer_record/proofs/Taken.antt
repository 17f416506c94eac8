-- What a record that was gone through once comes to: its reason is `record_reason`, and where that is 0 the slots hold what `with_record`
-- keeps. For slots of the right length, and names of the table.
-- Assumes nothing.
use mathlib.Core.Path.{◌≡◌, refl, sym, ap, ◌∙◌}
use mathlib.Core.Bool.{Bool, true, false, not, ◌||◌}
use mathlib.Core.List.{List, [], ◌∷◌}
use Prim.Native.Nat.{ℕ, ◌≤◌}
use native.Mathlib.Omega.{arith}
use lib.Dec.{eqb}
use lib.ListN.{length}
use borrow.Author.Tests.{eqb-true}
use Rattle.slices.specs.Choice.{pick, first_of}
use Rattle.slices.specs.Tables.{any_of}
use Rattle.slices.specs.Tests.{is_some}
use Rattle.slices.proofs.Choice.{pick_yes, pick_no, either}
use Rattle.tlv_head.specs.Head.{first_byte, constructed}
use Rattle.tlv_list.specs.Objects.{Object as Obj, between, right_inside, objects, is_list}
use Rattle.tlv_list.specs.Place.{places_from, data_field}
use Rattle.tlv_list.proofs.Walking.{places_members}
use Rattle.answer_common.specs.Answer.{outer, inside}
use Rattle.answer_common.specs.Content.{record_tag, record_names}
use Rattle.answer_common.specs.Named.{members_in, listed, among, direct, any_times, any_wrong}
use Rattle.answer_common.specs.Single.{single_of}
use Rattle.answer_common.specs.declared.answer.Single.{Single}
use Rattle.answer_common.specs.declared.answer.Single.TheVariants.{Refused, Object}
use Rattle.answer_common.proofs.Alike.{listed_first}
use Rattle.answer_common.proofs.Members.{members_of_lem, held}
use Rattle.answer_common.proofs.Single.{at, looked, Right, Found, bad_size, bad_status}
use Rattle.answer_common.proofs.Single.{no_single, one_single, found, refused, no_list, other_tag}
use Rattle.answer_common.proofs.Single.{on_lines, inside_one}
use Rattle.session_records.specs.Slots.{end as slots_end, told_in, kept_objects, kept_places}
use Rattle.answer_record.specs.Records.{any_again, record_twice, record_lines, record_reason}
use Rattle.answer_record.specs.Taken.{taken, worse, objects_taken, taken_from, taken_in, record_taken}
use Rattle.answer_record.proofs.Walked.{list_taken, none_taken}
use Rattle.answer_record.proofs.Doubled.{reason_taken, bytes_taken}

-- the two lines that are left
two_lines : (two bad : Bool) → pick two 4 (worse 0 false (not bad)) ≡ first_of ((two, 4) ∷ (bad, 5) ∷ [])
unfolding first_of worse pick
two_lines true bad = refl
two_lines false true = refl
two_lines false false = refl

module _ (names : List ℕ) (known : (tag : ℕ) → listed tag names ≡ true → listed tag record_names ≡ true) (a d : List ℕ)
    (all : length d ≡ slots_end) where
  abbrev before : ℕ → Bool
  before name = is_some (told_in d name)

  -- what is promised of a record, however it was found
  abbrev Comes : Single → Type 0
  Comes o =
      ((taken_in names a d o).why ≡ record_reason names before a)
      × ((taken_in names a d o).why ≡ 0
      → (taken_in names a d o).bytes ≡ kept_places names (inside record_tag a) (places_from (inside record_tag a) 0) d)

  abbrev lines : List (Bool × ℕ)
  lines = record_lines names before a

  refused_so : (why : ℕ) → (why ≡ 0 → ⊥) → Found a (Refused why) → Comes (Refused why)
  unfolding taken_in taken record_reason
  refused_so why k f = (sym (refused a (record_tag ∷ []) lines why f), λ e. absurd (k e))

  -- the members of a list of so few bytes
  module _ (v : List ℕ) (short : length v ≤ 254) (l : is_list v ≡ true) where
    members : taken_from names v 0 (taken 0 d) ≡ objects_taken names (members_in v) (taken 0 d)
    members =
        list_taken names v (omega arith) (taken 0 d) l
        ∙ ap (λ ms. objects_taken names ms (taken 0 d)) (places_members v (members_in v) (members_of_lem v l))

    reason : (taken_from names v 0 (taken 0 d)).why
        ≡ first_of ((any_times 2 names (among v) || any_again before names (among v), 4) ∷ (any_wrong names (among v), 5) ∷ [])
    unfolding among
    reason =
        ap (λ k. k.why) members
        ∙ (reason_taken names known (length v) short (held v (members_in v) (members_of_lem v l)) 0 d all
        ∙ two_lines _ _)

    kept : (taken_from names v 0 (taken 0 d)).why ≡ 0 → (taken_from names v 0 (taken 0 d)).bytes ≡ kept_places names v (places_from v 0) d
    unfolding kept_places
    kept e =
        ap (λ k. k.bytes) members
        ∙ ((bytes_taken names known (members_in v) 0 d (sym (ap (λ k. k.why) members) ∙ e)).1
        ∙ ap (λ ms. kept_objects names ms d) (sym (places_members v (members_in v) (members_of_lem v l))))

  module _ (r : Right a) (tag start stop : ℕ) (e : outer a ≡ looked (at (data_field a) tag start stop))
      (short : length (between (data_field a) start stop) ≤ 254) where
    v : List ℕ
    v = between (data_field a) start stop

    m : Obj
    m = at (data_field a) tag start stop

    -- what is read of the object, by its tag
    read : eqb tag record_tag ≡ true → taken_in names a d (Object tag start stop) ≡ taken_from names v 0 (taken 0 d)
    unfolding taken_in v
    read y = pick_yes _ _ _ y

    not_read_lem : eqb tag record_tag ≡ false → taken_in names a d (Object tag start stop) ≡ taken 3 d
    unfolding taken_in
    not_read_lem n = pick_no _ _ _ n

    three : (taken_in names a d (Object tag start stop)).why ≡ 3 → record_reason names before a ≡ 3 → Comes (Object tag start stop)
    three f g = (f ∙ sym g, λ z. absurd (omega (arith, f, z)))

    another : eqb tag record_tag ≡ false → record_reason names before a ≡ 3
    unfolding record_reason m listed any_of
    another n =
        either (right_inside objects m)
        (λ k. other_tag a (record_tag ∷ []) lines r m e k (pick_no _ _ _ n))
        (λ k. no_list a (record_tag ∷ []) lines r m e k)

    module _ (y : eqb tag record_tag ≡ true) where
      same : tag ≡ record_tag
      same = eqb-true tag record_tag y

      looks_in : right_inside objects m ≡ is_list v
      unfolding right_inside m v is_list constructed first_byte pick
      looks_in = ap (λ (t : ℕ). pick (constructed t) (is_some (objects (between (data_field a) start stop))) true) same

      on_list : is_list v ≡ true → Comes (Object tag start stop)
      unfolding record_reason record_lines record_twice direct m v
      on_list l =
          let right = looks_in ∙ l in
          let here : inside record_tag a ≡ v = ap (λ (t : ℕ). inside t a) (sym same) ∙ inside_one a (record_tag ∷ []) lines r m e right in
          let expected : listed tag (record_tag ∷ []) ≡ true =
          ap (λ (t : ℕ). listed t (record_tag ∷ [])) same ∙ listed_first record_tag [] in (
            ap (λ k. k.why) (read y)
                ∙ (reason v short l
                ∙ (ap (λ s. first_of ((any_times 2 names (among s) || any_again before names (among s), 4)
                ∷ (any_wrong names (among s), 5) ∷ []))
                (sym here)
                ∙ sym (on_lines a (record_tag ∷ []) lines r m e right expected))),
            λ z. ap (λ k. k.bytes) (read y)
                ∙ (kept v short l (sym (ap (λ k. k.why) (read y)) ∙ z)
                ∙ ap (λ s. kept_places names s (places_from s 0) d) (sym here)),
          )

      on_none : is_list v ≡ false → Comes (Object tag start stop)
      unfolding record_reason v m
      on_none n =
          three (ap (λ k. k.why) (read y) ∙ none_taken names v (omega (arith, short)) (taken 0 d) n)
          (no_list a (record_tag ∷ []) lines r m e (looks_in ∙ n))

    object_so : Comes (Object tag start stop)
    unfolding taken
    object_so =
        either (eqb tag record_tag)
        (λ y. either (is_list v) (on_list y) (on_none y))
        (λ n. three (ap (λ k. k.why) (not_read_lem n)) (another n))

  comes : (o : Single) → Found a o → Comes o
  comes o (bad_size e) = refused_so 1 (λ z. omega arith) (bad_size e)
  comes o (bad_status e f) = refused_so 2 (λ z. omega arith) (bad_status e f)
  comes o (no_single r e) = refused_so 3 (λ z. omega arith) (no_single r e)
  comes o (one_single r {tag} {start} {end} e k) = object_so r tag start end e k

  pub taken_reason : (record_taken names a d).why ≡ record_reason names before a
  unfolding record_taken
  taken_reason = (comes (single_of a) (found a)).0

  pub taken_kept : (record_taken names a d).why ≡ 0
      → (record_taken names a d).bytes ≡ kept_places names (inside record_tag a) (places_from (inside record_tag a) 0) d
  unfolding record_taken
  taken_kept = (comes (single_of a) (found a)).1
