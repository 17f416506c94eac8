-- `directory::after_record` meets its contract: the list is complete, or it grows, or it is cleared.
-- Assumes nothing.
use mathlib.Core.Path.{◌≡◌, sym, ap, ◌∙◌}
use mathlib.Core.Bool.{true, false, not, ◌&&◌}
use mathlib.Core.List.{List, [], map}
use Prim.Native.Nat.{ℕ}
use lib.Dec.{eqb}
use lib.ListN.{length}
use lib.Seq.{take-nil}
use Rattle.slices.proofs.Choice.{pick_yes, pick_no, and_right}
use Rattle.tlv_list.specs.Place.{object_at, places_from}
use Rattle.start_list.specs.Listing.{Applications, applications_in}
use Rattle.answer_common.specs.Answer.{inside}
use Rattle.answer_common.specs.Content.{record_tag}
use Rattle.select_answers.specs.Directory.{record_right, applications_of}
use Rattle.select_list.specs.Order.{Candidate}
use Rattle.select_list.specs.Kept.{most_kept, list_in}
use Rattle.select_list.proofs.Seen.{list_whole}
use Rattle.select_search.specs.Search.{Search, goes, with_list, has_status}
use Rattle.select_search.specs.Final.{final_selection}
use Rattle.select_search.specs.Listing.{from_first}
use Rattle.select_search.specs.Directory.{joined_all, next_record, after_record}
use Rattle.select_search.specs.Entries.{members_joined}
use Rattle.select_search.specs.Turns.{search_of, turn_of, turned, kept}
use Rattle.select_search.specs.declared.Stand.{Stand}
use Rattle.select_search.specs.declared.Turn.{Turn}
use Rattle.select_search.specs.declared.Step.TheVariants.{Directory, Listed}
use Rattle.select_search.proofs.Turning.{final_settles, goes_settles}
use Rattle.select_search.proofs.Joining.{record_joined}
use Rattle.select_search.proofs.directory.after_record.Goals as goal

module _ (t : Applications) (stand : Stand) (d : List ℕ) (file number : ℕ) (a : List ℕ) (r : Turn) where
  abbrev s : Search
  s = search_of stand (list_in d)

  abbrev Finds : List Candidate → Type 0
  Finds l = turned r l a ≡ kept (after_record t s file number a)

  complete : (has_status 0x6A83 a && not (eqb (length (list_in d)) 0)) ≡ true → r ≡ turn_of (final_selection t s) → Finds (list_in d)
  unfolding after_record
  complete y e =
      final_settles t s r (list_in d) a (sym (list_whole d)) e
      ∙ sym (ap kept (pick_yes _ _ _ y))

  module _ (n : (has_status 0x6A83 a && not (eqb (length (list_in d)) 0)) ≡ false) where
    grows : (has_status 0x9000 a && record_right a) ≡ true → (v : List ℕ) → v ≡ inside record_tag a → (l : List Candidate)
        → l ≡ members_joined t (map (object_at v) (places_from v 0)) (list_in d)
        → r ≡ turn_of (goes (search_of stand []) (Directory file (next_record number))) → Finds l
    unfolding after_record with_list
    grows y v f l e g =
        let right = and_right (has_status 0x9000 a) (record_right a) y in
        goes_settles (with_list (joined_all t (applications_of a) (list_in d)) s) (Directory file (next_record number)) r l a
        (e ∙ record_joined t a v f right (list_in d) (sym (list_whole d))) g
        ∙ sym (ap kept (pick_no _ _ _ n ∙ pick_yes _ _ _ y))

    cleared : (has_status 0x9000 a && record_right a) ≡ false → (l : List Candidate) → l ≡ []
        → r ≡ turn_of (goes (search_of stand []) (Listed 0 false)) → Finds l
    unfolding after_record with_list from_first
    cleared z l e g =
        goes_settles (with_list [] s) (Listed 0 false) r l a (e ∙ sym (take-nil most_kept)) g
        ∙ sym (ap kept (pick_no _ _ _ n ∙ pick_no _ _ _ z))

pub returns-then-is_complete : goal.returns-then-is_complete
returns-then-is_complete c =
    let b = c.args in
    complete (applications_in b.h.start.now) b.h.stand b.list.now b.file b.number b.h.answer.now c.final_turn.result
    (sym c.is_complete.ensures ∙ c.if-is_complete.true) c.final_turn.ensures

pub returns-then-is_good : goal.returns-then-is_good
returns-then-is_good c =
    let b = c.args in
    grows (applications_in b.h.start.now) b.h.stand b.list.now b.file b.number b.h.answer.now c.go.result
    (sym c.is_complete.ensures ∙ c.if-is_complete.false)
    (sym c.is_good.ensures ∙ c.if-is_good.true) c.inside.result.now c.inside.ensures (list_in c.join_all.new.list)
    c.join_all.ensures
    (c.go.ensures
    ∙ ap (λ (n : ℕ). turn_of (goes (search_of b.h.stand []) (Directory b.file n))) c.next_record.ensures)

pub returns : goal.returns
returns c =
    let b = c.args in
    cleared (applications_in b.h.start.now) b.h.stand b.list.now b.file b.number b.h.answer.now c.go-2.result
    (sym c.is_complete.ensures ∙ c.if-is_complete.false)
    (sym c.is_good.ensures ∙ c.if-is_good.false) (list_in c.clear.new.list) c.clear.ensures c.go-2.ensures
