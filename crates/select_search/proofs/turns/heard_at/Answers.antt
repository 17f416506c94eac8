-- `turns::heard_at` meets its contract: each arm is the definition's.
-- Assumes nothing.
use mathlib.Core.Path.{◌≡◌, sym, ap, ◌∙◌}
use mathlib.Core.List.{List}
use Prim.Native.Nat.{ℕ}
use Rattle.start_list.specs.Listing.{Applications, applications_in}
use Rattle.select_list.specs.Kept.{list_in}
use Rattle.select_list.proofs.Seen.{list_whole}
use Rattle.select_search.specs.Search.{Search, Found}
use Rattle.select_search.specs.Heard.{heard_at}
use Rattle.select_search.specs.Turns.{search_of, kept}
use Rattle.select_search.specs.declared.Step.{Step}
use Rattle.select_search.specs.declared.Step.TheVariants.{Environment, Directory, Listed, Final}
use Rattle.select_search.proofs.Turning.{environment_settles}
use Rattle.select_search.proofs.turns.heard_at.Goals as goal

at : (t : Applications) (s : Search) (a : List ℕ) (step x : Step) (f : Found) → step ≡ x → f ≡ kept (heard_at t s a x)
    → f ≡ kept (heard_at t s a step)
at t s a step x f e g = g ∙ sym (ap (λ (y : Step). kept (heard_at t s a y)) e)

pub returns-in-Environment : goal.returns-in-Environment
unfolding heard_at
returns-in-Environment c =
    let b = c.args in
    let s : Search = search_of b.h.stand (list_in b.list.now) in
    at (applications_in b.h.start.now) s b.h.answer.now b.h.stand.step Environment _ c.in-Environment.is
    (environment_settles s b.h.answer.now c.after_environment.result (list_in b.list.now) b.h.answer.now
    (sym (list_whole b.list.now)) c.after_environment.ensures)

pub returns-in-Directory : goal.returns-in-Directory
unfolding heard_at
returns-in-Directory c =
    let b = c.args in
    at (applications_in b.h.start.now) (search_of b.h.stand (list_in b.list.now)) b.h.answer.now b.h.stand.step
    (Directory c.in-Directory.file c.in-Directory.record) _ c.in-Directory.is c.after_record.ensures

pub returns-in-Listed : goal.returns-in-Listed
unfolding heard_at
returns-in-Listed c =
    let b = c.args in
    at (applications_in b.h.start.now) (search_of b.h.stand (list_in b.list.now)) b.h.answer.now b.h.stand.step
    (Listed c.in-Listed.aid c.in-Listed.again) _ c.in-Listed.is c.after_listed.ensures

pub returns-in-Final : goal.returns-in-Final
unfolding heard_at
returns-in-Final c =
    let b = c.args in
    at (applications_in b.h.start.now) (search_of b.h.stand (list_in b.list.now)) b.h.answer.now b.h.stand.step
    (Final c.in-Final.place c.in-Final.taken) _ c.in-Final.is c.after_final.ensures
