-- `listing::after_listed` meets its contract.
-- Assumes nothing.
use mathlib.Core.Path.{◌≡◌, sym, ap, ◌∙◌}
use mathlib.Core.Bool.{Bool, true, false, not, ◌&&◌, ◌||◌}
use mathlib.Core.List.{List}
use Prim.Native.Nat.{ℕ}
use lib.Dec.{eqb}
use Rattle.slices.proofs.Choice.{pick_yes, pick_no, and_right}
use Rattle.start_list.specs.Listing.{Applications, applications_in}
use Rattle.select_answers.specs.Files.{is_application}
use Rattle.select_list.specs.Order.{Candidate}
use Rattle.select_list.specs.Kept.{list_in}
use Rattle.select_list.proofs.Seen.{list_whole}
use Rattle.select_search.specs.Search.{Search, has_status}
use Rattle.select_search.specs.Listing.{next_aid, compared, after_listed}
use Rattle.select_search.specs.Turns.{search_of, turn_of, turned, kept}
use Rattle.select_search.specs.declared.Stand.{Stand}
use Rattle.select_search.specs.declared.Turn.{Turn}
use Rattle.select_search.specs.declared.Turn.TheVariants.{Over}
use Rattle.select_search.proofs.Turning.{next_settles}
use Rattle.select_search.proofs.listing.after_listed.Goals as goal

module _ (t : Applications) (stand : Stand) (d : List ℕ) (k : ℕ) (again : Bool) (a : List ℕ) where
  abbrev s : Search
  s = search_of stand (list_in d)

  abbrev Finds : Turn → List Candidate → Type 0
  Finds r l = turned r l a ≡ kept (after_listed t s k again a)

  abbrev refused : Bool
  refused = eqb k 0 && (not again && has_status 0x6A81 a)

  abbrev good : Bool
  good = (has_status 0x9000 a || has_status 0x6283 a) && is_application a

  ends : refused ≡ true → (l : List Candidate) → Finds (Over 12) l
  unfolding turned kept after_listed
  ends y l = sym (ap kept (pick_yes _ _ _ y))

  compares : refused ≡ false → good ≡ true → (r : Turn) (l : List Candidate) → turned r l a ≡ kept (compared t s k a) → Finds r l
  unfolding after_listed
  compares n y r l e = e ∙ sym (ap kept (pick_no _ _ _ n ∙ pick_yes _ _ _ y))

  passes : refused ≡ false → good ≡ false → (r : Turn) → r ≡ turn_of (next_aid t s k) → Finds r (list_in d)
  unfolding after_listed
  passes n z r g =
      next_settles t k s r (list_in d) a (sym (list_whole d)) g ∙ sym (ap kept (pick_no _ _ _ n ∙ pick_no _ _ _ z))

pub returns-then-is_refused : goal.returns-then-is_refused
returns-then-is_refused c =
    let b = c.args in
    ends (applications_in b.h.start.now) b.h.stand b.list.now b.aid b.again b.h.answer.now
    (sym c.is_refused.ensures ∙ c.if-is_refused.true) _

pub compared-requires : goal.compared-requires
compared-requires c =
    let a = c.args.h.answer.now in
    and_right (has_status 0x9000 a || has_status 0x6283 a) (is_application a) (sym c.is_found.ensures ∙ c.if-is_found.true)

pub returns-then-is_found : goal.returns-then-is_found
returns-then-is_found c =
    let b = c.args in
    compares (applications_in b.h.start.now) b.h.stand b.list.now b.aid b.again b.h.answer.now
    (sym c.is_refused.ensures ∙ c.if-is_refused.false) (sym c.is_found.ensures ∙ c.if-is_found.true) c.compared.result
    (list_in c.compared.new.list) c.compared.ensures

pub returns : goal.returns
returns c =
    let b = c.args in
    passes (applications_in b.h.start.now) b.h.stand b.list.now b.aid b.again b.h.answer.now
    (sym c.is_refused.ensures ∙ c.if-is_refused.false) (sym c.is_found.ensures ∙ c.if-is_found.false) c.next_aid.result
    c.next_aid.ensures
