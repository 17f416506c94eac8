-- `turns::heard` meets its contract: an answer of a bad size, a turn that goes on, and one that ends the selection.
-- Assumes nothing.
use mathlib.Core.Path.{◌≡◌, refl, sym, ap, ◌∙◌}
use mathlib.Core.Bool.{true, false}
use mathlib.Core.List.{List, []}
use Prim.Native.Nat.{ℕ}
use Rattle.slices.proofs.Choice.{pick_yes, pick_no}
use Rattle.start_list.specs.Listing.{Applications, applications_in}
use Rattle.answer_common.specs.Answer.{size_bad}
use Rattle.select_list.specs.Order.{Candidate}
use Rattle.select_list.specs.Kept.{list_in}
use Rattle.select_search.specs.Search.{Search}
use Rattle.select_search.specs.Heard.{heard_at, heard}
use Rattle.select_search.specs.Turns.{search_of, turned, kept, goes_on}
use Rattle.select_search.specs.declared.Turn.{Turn}
use Rattle.select_search.specs.declared.Turn.TheVariants.{Over}
use Rattle.select_search.proofs.Leaving.{Meets, meets_on, meets_end}
use Rattle.select_search.proofs.turns.heard.Goals as goal

module _ (t : Applications) (s : Search) (a : List ℕ) where
  of_a_bad_size : size_bad a ≡ true → (l : List Candidate) → l ≡ [] → Meets a (heard t s a) (Over 1) l
  unfolding heard turned kept goes_on
  of_a_bad_size y l e =
      meets_end a (heard t s a) (Over 1) l (sym (ap kept (pick_yes _ _ _ y))) refl l e

  module _ (n : size_bad a ≡ false) (r : Turn) (l : List Candidate) (e : turned r l a ≡ kept (heard_at t s a s.stand.step)) where
    found : turned r l a ≡ kept (heard t s a)
    unfolding heard
    found = e ∙ sym (ap kept (pick_no _ _ _ n))

    goes_on_lem : goes_on r ≡ true → Meets a (heard t s a) r l
    goes_on_lem g = meets_on a (heard t s a) r l found g

    ends : goes_on r ≡ false → (l' : List Candidate) → l' ≡ [] → Meets a (heard t s a) r l'
    ends g l' h = meets_end a (heard t s a) r l found g l' h

pub returns-then-is_size_bad : goal.returns-then-is_size_bad
returns-then-is_size_bad c =
    let b = c.args in
    let both = of_a_bad_size (applications_in b.start.now) (search_of b.stand (list_in b.list.now)) b.answer.now
    (sym c.is_size_bad.ensures ∙ c.if-is_size_bad.true) _ c.clear.ensures in
    record { value = both.0; list_after = both.1.0; answer_after = both.1.1 }

pub returns-then-goes_on : goal.returns-then-goes_on
returns-then-goes_on c =
    let b = c.args in
    let both = goes_on_lem (applications_in b.start.now) (search_of b.stand (list_in b.list.now)) b.answer.now
    (sym c.is_size_bad.ensures ∙ c.if-is_size_bad.false) c.heard_at-turn.result _ c.heard_at-turn.ensures
    (sym c.goes_on.ensures ∙ c.if-goes_on.true) in
    record { value = both.0; list_after = both.1.0; answer_after = both.1.1 }

pub returns : goal.returns
returns c =
    let b = c.args in
    let both = ends (applications_in b.start.now) (search_of b.stand (list_in b.list.now)) b.answer.now
    (sym c.is_size_bad.ensures ∙ c.if-is_size_bad.false) c.heard_at-turn.result _ c.heard_at-turn.ensures
    (sym c.goes_on.ensures ∙ c.if-goes_on.false) _ c.clear-2.ensures in
    record { value = both.0; list_after = both.1.0; answer_after = both.1.1 }
