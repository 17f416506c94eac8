-- `listing::compared` meets its contract: the name is the AID, or begins with a partial one, or is another.
-- Assumes nothing.
use mathlib.Core.Path.{◌≡◌, sym, ap, ◌∙◌}
use mathlib.Core.Bool.{true, false, ◌&&◌}
use mathlib.Core.List.{List, []}
use Prim.Native.Nat.{ℕ}
use lib.ListN.{take}
use Rattle.slices.specs.Tests.{alike}
use Rattle.slices.proofs.Choice.{pick_yes, pick_no}
use Rattle.start_list.specs.Listing.{Applications, applications_in, listed_at}
use Rattle.select_names.specs.Names.{begins_with}
use Rattle.select_answers.specs.Files.{is_application, application_name}
use Rattle.select_list.specs.Order.{Candidate}
use Rattle.select_list.specs.Kept.{most_kept, list_in}
use Rattle.select_list.proofs.Seen.{list_whole}
use Rattle.select_search.specs.Search.{Search, goes}
use Rattle.select_search.specs.Listing.{next_aid, joined_by, compared}
use Rattle.select_search.specs.Entries.{found_joined}
use Rattle.select_search.specs.Turns.{search_of, turn_of, turned, kept}
use Rattle.select_search.specs.declared.Stand.{Stand}
use Rattle.select_search.specs.declared.Turn.{Turn}
use Rattle.select_search.specs.declared.Step.TheVariants.{Listed}
use Rattle.select_search.proofs.Turning.{next_settles, goes_settles}
use Rattle.select_search.proofs.Joining.{found_joined_lem, joined_stand}
use Rattle.select_search.proofs.listing.compared.Goals as goal

module _ (t : Applications) (stand : Stand) (d : List ℕ) (k : ℕ) (a : List ℕ) (good : is_application a ≡ true) (r : Turn) where
  abbrev s : Search
  s = search_of stand (list_in d)

  -- with who joined
  abbrev more : Search
  more = joined_by t a s

  abbrev Finds : List Candidate → Type 0
  Finds l = turned r l a ≡ kept (compared t s k a)

  grown : (l : List Candidate) → l ≡ found_joined t a (list_in d) → l ≡ take most_kept more.list
  grown l e = e ∙ found_joined_lem t a s good (sym (list_whole d))

  identical : alike (listed_at t k).aid (application_name a) ≡ true → (l : List Candidate) → l ≡ found_joined t a (list_in d)
      → r ≡ turn_of (next_aid t (search_of stand l) k) → Finds l
  unfolding compared
  identical y l e g =
      next_settles t k more r l a (grown l e)
      (g ∙ ap (λ (st : Stand). turn_of (next_aid t (search_of st l) k)) (sym (joined_stand t a s)))
      ∙ sym (ap kept (pick_yes _ _ _ y))

  module _ (n : alike (listed_at t k).aid (application_name a) ≡ false) where
    longer : (begins_with (listed_at t k).aid (application_name a) && (listed_at t k).partial) ≡ true → (l : List Candidate)
        → l ≡ found_joined t a (list_in d) → r ≡ turn_of (goes (search_of stand []) (Listed k true)) → Finds l
    unfolding compared
    longer y l e g =
        goes_settles more (Listed k true) r l a (grown l e)
        (g ∙ ap (λ (st : Stand). turn_of (goes (search_of st []) (Listed k true))) (sym (joined_stand t a s)))
        ∙ sym (ap kept (pick_no _ _ _ n ∙ pick_yes _ _ _ y))

    another : (begins_with (listed_at t k).aid (application_name a) && (listed_at t k).partial) ≡ false
        → r ≡ turn_of (next_aid t s k) → Finds (list_in d)
    unfolding compared
    another z g =
        next_settles t k s r (list_in d) a (sym (list_whole d)) g ∙ sym (ap kept (pick_no _ _ _ n ∙ pick_no _ _ _ z))

pub returns-then-is_identical : goal.returns-then-is_identical
returns-then-is_identical c =
    let b = c.args in
    identical (applications_in b.h.start.now) b.h.stand b.list.now b.aid b.h.answer.now c.requires c.next_aid.result
    (sym c.is_identical.ensures ∙ c.if-is_identical.true) (list_in c.join_found.new.list) c.join_found.ensures
    c.next_aid.ensures

pub returns-then-is_longer : goal.returns-then-is_longer
returns-then-is_longer c =
    let b = c.args in
    longer (applications_in b.h.start.now) b.h.stand b.list.now b.aid b.h.answer.now c.requires c.go.result
    (sym c.is_identical.ensures ∙ c.if-is_identical.false)
    (sym c.is_longer.ensures ∙ c.if-is_longer.true) (list_in c.join_found-then-is_longer.new.list) c.join_found-then-is_longer.ensures
    c.go.ensures

pub returns : goal.returns
returns c =
    let b = c.args in
    another (applications_in b.h.start.now) b.h.stand b.list.now b.aid b.h.answer.now c.requires c.next_aid-2.result
    (sym c.is_identical.ensures ∙ c.if-is_identical.false) (sym c.is_longer.ensures ∙ c.if-is_longer.false) c.next_aid-2.ensures
