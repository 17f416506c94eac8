-- Who joins while the list is made, by the steps that the code takes: in a good record, and in a good FCI, a name has room, and an entry is
-- read as its members are, so that the list is the definitions', as far as there is room for it.
-- Assumes nothing.
use mathlib.Core.Path.{◌≡◌, refl, sym, ap, ap₂, ◌∙◌}
use mathlib.Core.Bool.{Bool, true, false, ◌&&◌}
use mathlib.Core.List.{List, [], ◌∷◌, map}
use Prim.Native.Nat.{ℕ, ◌≤◌}
use native.Mathlib.Omega.{arith}
use lib.Dec.{eqb, leb}
use lib.ListN.{length, take}
use lib.Seq.{take_all}
use borrow.Author.Tests.{eqb-true, leb-true}
use Rattle.slices.specs.Choice.{pick}
use Rattle.slices.specs.Tests.{every, between}
use Rattle.slices.proofs.Choice.{pick_yes, pick_no, pick_ap, pick_cong, pick_same, either}
use Rattle.slices.proofs.Tests.{first_held}
use Rattle.start_list.specs.Rows.{name_room}
use Rattle.start_list.specs.Listing.{Applications}
use Rattle.tlv_head.specs.Head.{first_byte, constructed}
use Rattle.tlv_list.specs.Objects.{Object}
use Rattle.tlv_list.specs.Lookup.{Lookup}
use Rattle.tlv_list.specs.Place.{object_at, places_from}
use Rattle.tlv_list.proofs.Walking.{places_members}
use Rattle.answer_common.specs.Answer.{inside}
use Rattle.answer_common.specs.Content.{record_tag}
use Rattle.answer_common.specs.Named.{members_in, standing, among, direct, value_of}
use Rattle.answer_common.proofs.Members.{Held, none_left, and_then, held, members_of_lem, list_standing, inside_list}
use Rattle.answer_select.specs.Select.{select_tag}
use Rattle.select_names.specs.Names.{supported}
use Rattle.select_answers.specs.Objects.{name_right}
use Rattle.select_answers.specs.Files.{application_right, is_application, application_name, application_indicator}
use Rattle.select_answers.specs.Directory.{entry_tag, is_named, entry_right, entries, entries_in, record_right, entry_name, entry_indicator}
use Rattle.select_answers.specs.Directory.{Met, applications, applications_of}
use Rattle.select_answers.proofs.Values.{name_value}
use Rattle.select_list.specs.Order.{Candidate, candidate_of, placed}
use Rattle.select_list.specs.Kept.{most_kept, list_size, room_of, list_in}
use Rattle.select_list.proofs.Placing.{cut_placed}
use Rattle.select_list.proofs.Made.{room_right}
use Rattle.select_search.specs.Search.{Search, with_list, has_status}
use Rattle.select_search.specs.Listing.{joined_by}
use Rattle.select_search.specs.Directory.{joined_all}
use Rattle.select_search.specs.Entries.{joined_one, entry_met, member_joined, members_joined, found_joined}
use Rattle.select_search.specs.Turns.{search_of}

-- a name that is right has room in a row
name_short : (l : Lookup) → name_right l ≡ true → length (value_of l) ≤ name_room
unfolding between
name_short l e =
    let tests = first_held (leb 5 (length (value_of l))) (leb (length (value_of l)) 16 ∷ []) (name_value l ∙ e) in
    leb-true _ _ (first_held (leb (length (value_of l)) 16) [] tests.1).0

name_fits : (a : List ℕ) → is_application a ≡ true → length (application_name a) ≤ name_room
unfolding is_application application_right application_name
name_fits a e = name_short (direct select_tag a 0x84) (first_held (name_right (direct select_tag a 0x84)) _ e).0

-- one joins a list that is kept as one joins the whole list
module _ (t : Applications) (name : List ℕ) (indicator : ℕ) (l l' : List Candidate) where
  abbrev who : Candidate
  who = candidate_of t.choice name indicator

  one_joined : length name ≤ name_room → l ≡ take most_kept l' → joined_one t name indicator l ≡ take most_kept (placed who l')
  unfolding joined_one
  one_joined h e =
      ap₂ (λ (n : List ℕ) (x : List Candidate). take most_kept (placed (candidate_of t.choice n indicator) x))
      (take_all name_room name h) e
      ∙ sym (cut_placed most_kept most_kept who l' (omega arith))

-- what `join` of `select_list` makes of the lent bytes
pub one_kept : (t : Applications) (d : List ℕ) (l : List Candidate) (name : List ℕ) (choice : Bool) (indicator : ℕ) → length d ≡ list_size
    → choice ≡ t.choice → l ≡ take (room_of d) (placed (candidate_of choice (take name_room name) indicator) (list_in d))
    → l ≡ joined_one t name indicator (list_in d)
unfolding joined_one
one_kept t d l name choice indicator size e f =
    f
    ∙ (ap (λ (n : ℕ). take n (placed (candidate_of choice (take name_room name) indicator) (list_in d))) (room_right d size)
    ∙ ap (λ (b : Bool). take most_kept (placed (candidate_of b (take name_room name) indicator) (list_in d))) e)

-- an entry that is right
module _ (t : Applications) (e : List ℕ) (l l' : List Candidate) (alike : l ≡ take most_kept l') (same : standing e ≡ among e)
    (right : entry_right (among e) ≡ true) where
  abbrev met : Met
  met = record { name = entry_name (among e); indicator = entry_indicator (among e) }

  abbrev joined : List Candidate
  joined = pick (supported t met.name) (placed (candidate_of t.choice met.name met.indicator) l') l'

  abbrev step : List Candidate
  step = pick (entry_met t e) (joined_one t (entry_name (standing e)) (entry_indicator (standing e)) l) l

  entry_short : is_named (among e) ≡ true → length (entry_name (among e)) ≤ name_room
  unfolding entry_right entry_name
  entry_short y =
      name_short (among e 0x4F) (first_held (name_right (among e 0x4F)) _ (sym (pick_yes _ _ _ y) ∙ right)).0

  as_members : step ≡ pick (is_named (among e) && supported t met.name) (joined_one t met.name met.indicator l) l
  unfolding entry_met
  as_members =
      ap
      (λ (look : ℕ → Lookup).
      pick (is_named look && supported t (entry_name look)) (joined_one t (entry_name look) (entry_indicator look) l) l)
      same

  is_named_lem : is_named (among e) ≡ true → step ≡ take most_kept joined
  is_named_lem y =
      as_members
      ∙ (ap (λ (b : Bool). pick (b && supported t met.name) (joined_one t met.name met.indicator l) l) y
      ∙ (pick_cong (supported t met.name) (joined_one t met.name met.indicator l)
      (take most_kept (placed (candidate_of t.choice met.name met.indicator) l')) l (take most_kept l')
      (λ z. one_joined t met.name met.indicator l l' (entry_short y) alike)
      (λ z. alike)
      ∙ sym (pick_ap (take most_kept) (supported t met.name) _ l')))

  not_named : is_named (among e) ≡ false → step ≡ take most_kept l'
  not_named n =
      as_members
      ∙ (ap (λ (b : Bool). pick (b && supported t met.name) (joined_one t met.name met.indicator l) l) n
      ∙ (pick_no _ _ _ refl ∙ alike))

constructed_entry : constructed entry_tag ≡ true
unfolding constructed first_byte pick
constructed_entry = refl

constructed_record : constructed record_tag ≡ true
unfolding constructed first_byte pick
constructed_record = refl

abbrev Right : List (List ℕ) → Type 0
Right es = every (map (λ e. entry_right (among e)) es) ≡ true

-- the members of a good record, one after the other
module _ (t : Applications) where
  all_joined : (n : ℕ) {ms : List Object} → Held n ms → Right (entries ms) → (l l' : List Candidate) → l ≡ take most_kept l'
      → members_joined t ms l ≡ take most_kept (joined_all t (applications (entries ms)) l')
  unfolding members_joined member_joined joined_all applications entries
  all_joined n none_left right l l' e = e
  all_joined n (and_then {m} {ms} list size rest) right l l' e =
      either (eqb m.tag entry_tag)
      (λ y.
      let those : entries (m ∷ ms) ≡ m.value ∷ entries ms = pick_yes _ _ _ y in
      let tests = first_held (entry_right (among m.value)) _
      (sym (ap (λ es. every (map (λ x. entry_right (among x)) es)) those) ∙ right) in
      let same = list_standing m.value (list (ap constructed (eqb-true _ _ y) ∙ constructed_entry)) in
      ap (members_joined t ms) (pick_yes _ _ _ y)
      ∙ (either (is_named (among m.value))
      (λ named.
      all_joined n rest tests.1 _ _ (is_named_lem t m.value l l' e same tests.0 named)
      ∙ sym (ap (λ es. take most_kept (joined_all t (applications es) l')) those
      ∙ ap (λ x. take most_kept (joined_all t x l')) (pick_yes _ _ _ named)))
      (λ other.
      all_joined n rest tests.1 _ _ (not_named t m.value l l' e same tests.0 other)
      ∙ sym (ap (λ es. take most_kept (joined_all t (applications es) l')) those
      ∙ ap (λ x. take most_kept (joined_all t x l')) (pick_no _ _ _ other)))))
      (λ n'.
      let those : entries (m ∷ ms) ≡ entries ms = pick_no _ _ _ n' in
      ap (members_joined t ms) (pick_no _ _ _ n')
      ∙ (all_joined n rest (sym (ap (λ es. every (map (λ x. entry_right (among x)) es)) those) ∙ right) l l' e
      ∙ sym (ap (λ es. take most_kept (joined_all t (applications es) l')) those)))

  pub record_joined : (a s : List ℕ) → s ≡ inside record_tag a → record_right a ≡ true → (l : List Candidate) → l ≡ take most_kept l
      → members_joined t (map (object_at s) (places_from s 0)) l ≡ take most_kept (joined_all t (applications_of a) l)
  unfolding record_right applications_of entries_in
  record_joined a s e right l whole =
      let in' = inside record_tag a in
      let list = members_of_lem in' (inside_list record_tag a constructed_record) in
      ap (λ x. members_joined t (map (object_at x) (places_from x 0)) l) e
      ∙ (ap (λ ms. members_joined t ms l) (places_members in' (members_in in') list)
      ∙ all_joined (length in') (held in' (members_in in') list)
      (first_held _ [] (first_held _ _ right).1).0 l l whole)

  -- an application that an AID found
  pub found_joined_lem : (a : List ℕ) (s : Search) → is_application a ≡ true → s.list ≡ take most_kept s.list
      → found_joined t a s.list ≡ take most_kept (joined_by t a s).list
  unfolding found_joined joined_by with_list
  found_joined_lem a s good whole =
      let who : Candidate = candidate_of t.choice (application_name a) (application_indicator a) in
      let x : Search = search_of s.stand (placed who s.list) in
      pick_cong (has_status 0x9000 a) (joined_one t (application_name a) (application_indicator a) s.list)
      (take most_kept (placed who s.list))
      s.list (take most_kept s.list)
      (λ y. one_joined t (application_name a) (application_indicator a) s.list s.list (name_fits a good) whole)
      (λ n. whole)
      ∙ sym (pick_ap (λ (z : Search). take most_kept z.list) (has_status 0x9000 a) x s)

  pub joined_stand : (a : List ℕ) (s : Search) → (joined_by t a s).stand ≡ s.stand
  unfolding joined_by with_list
  joined_stand a s =
      pick_ap (λ (z : Search). z.stand) (has_status 0x9000 a) (search_of s.stand _) s ∙ pick_same _ s.stand
