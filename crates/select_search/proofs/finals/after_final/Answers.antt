-- `finals::after_final` meets its contract: the application runs, or its list cannot be filled, or it falls out.
-- Assumes nothing.
use mathlib.Core.Path.{◌≡◌, sym, ap, ◌∙◌}
use mathlib.Core.Bool.{Bool, true, false}
use mathlib.Core.List.{List, []}
use Prim.Native.Nat.{ℕ}
use Rattle.slices.proofs.Choice.{pick_yes, pick_no}
use Rattle.dol_wanted.specs.Wanted.{fillable}
use Rattle.start_list.specs.Listing.{Applications, applications_in}
use Rattle.answer_select.specs.Select.{pdol_of}
use Rattle.select_list.specs.Order.{Candidate, without}
use Rattle.select_list.specs.Kept.{list_in}
use Rattle.select_list.proofs.Seen.{left_whole}
use Rattle.select_search.specs.Search.{Search}
use Rattle.select_search.specs.Final.{final_selection, less_one, selected, after_final}
use Rattle.select_search.specs.Turns.{search_of, turn_of, turned, kept}
use Rattle.select_search.specs.declared.Stand.{Stand}
use Rattle.select_search.specs.declared.Turn.{Turn}
use Rattle.select_search.specs.declared.Turn.TheVariants.{Runs, Over}
use Rattle.select_search.proofs.Turning.{final_settles}
use Rattle.select_search.proofs.finals.after_final.Goals as goal

module _ (t : Applications) (stand : Stand) (d : List ℕ) (place : ℕ) (taken : Bool) (a : List ℕ) where
  abbrev s : Search
  s = search_of stand (list_in d)

  abbrev found : List Candidate → Turn → Type 0
  found l r = turned r l a ≡ kept (after_final t s place taken a)

  runs_now : selected (list_in d) place a ≡ true → fillable (pdol_of a) ≡ true → (l : List Candidate) → found l Runs
  unfolding turned kept after_final
  runs_now y f l = sym (ap kept (pick_yes _ _ _ y ∙ pick_yes _ _ _ f))

  unfilled : selected (list_in d) place a ≡ true → fillable (pdol_of a) ≡ false → (l : List Candidate) → found l (Over 9)
  unfolding turned kept after_final
  unfilled y f l = sym (ap kept (pick_yes _ _ _ y ∙ pick_no _ _ _ f))

  falls : selected (list_in d) place a ≡ false → (l : List Candidate) (r : Turn) → l ≡ without place (list_in d)
      → r ≡ turn_of (final_selection t (search_of (less_one 0 taken (search_of stand [])).stand l)) → found l r
  unfolding after_final less_one
  falls n l r e g =
      final_settles t (less_one place taken s) r l a
      (e ∙ sym (left_whole d place)) g
      ∙ sym (ap kept (pick_no _ _ _ n))

pub returns-then-is_fillable : goal.returns-then-is_fillable
returns-then-is_fillable c =
    let b = c.args in
    runs_now (applications_in b.h.start.now) b.h.stand b.list.now b.place b.taken b.h.answer.now
    (sym c.is_selected.ensures ∙ c.if-is_selected.true)
    (sym (c.is_fillable.ensures ∙ ap fillable c.pdol.ensures) ∙ c.if-is_fillable.true) _

pub returns-then-is_selected : goal.returns-then-is_selected
returns-then-is_selected c =
    let b = c.args in
    unfilled (applications_in b.h.start.now) b.h.stand b.list.now b.place b.taken b.h.answer.now
    (sym c.is_selected.ensures ∙ c.if-is_selected.true)
    (sym (c.is_fillable.ensures ∙ ap fillable c.pdol.ensures) ∙ c.if-is_fillable.false) _

pub returns : goal.returns
returns c =
    let b = c.args in
    let t = applications_in b.h.start.now in
    falls t b.h.stand b.list.now b.place b.taken b.h.answer.now
    (sym c.is_selected.ensures ∙ c.if-is_selected.false) (list_in c.remove.new.list) c.final_turn.result c.remove.ensures
    (c.final_turn.ensures
    ∙ ap (λ (st : Stand). turn_of (final_selection t (search_of st (list_in c.remove.new.list)))) c.less_one.ensures)
