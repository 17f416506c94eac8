-- Whatever an answer leads to is within its bounds; a choice is, where its place is one of those shown.
-- Assumes nothing.
use mathlib.Core.Path.{◌≡◌}
use mathlib.Core.Bool.{Bool, true, false}
use mathlib.Core.List.{List, []}
use Prim.Native.Nat.{ℕ, ◌+◌, ◌<◌}
use native.Mathlib.Omega.{arith}
use lib.Dec.{eqb}
use Rattle.slices.specs.Choice.{pick}
use Rattle.slices.proofs.Choice.{picked}
use Rattle.start_list.specs.Listing.{Applications}
use Rattle.dol_wanted.specs.Wanted.{fillable}
use Rattle.answer_select.specs.Select.{pdol_of}
use Rattle.select_answers.specs.Files.{directory_file}
use Rattle.select_answers.specs.Directory.{applications_of}
use Rattle.select_list.specs.Order.{most_shown}
use Rattle.select_search.specs.Search.{Search, Found, runs, over, goes, offers, with_list}
use Rattle.select_search.specs.Final.{attended, unattended, final_selection, chosen, less_one, after_final}
use Rattle.select_search.specs.Listing.{from_first, next_aid, joined_by, compared, after_listed}
use Rattle.select_search.specs.Directory.{after_environment, next_record, joined_all, after_record}
use Rattle.select_search.specs.Heard.{heard_at, heard}
use Rattle.select_search.specs.declared.Step.{Step}
use Rattle.select_search.specs.declared.Step.TheVariants.{Environment, Directory, Listed, Final}
use Rattle.select_laws.specs.Cut.{AmongShown}
use Rattle.select_laws.specs.Bounds.{Bounded}

-- a choice between two that are so
one_of : (t : Bool) (f g : Found) → Bounded f → Bounded g → Bounded (pick t f g)
one_of t f g h k = picked Bounded t f g (λ y. h) (λ n. k)

goes_bounded : (s : Search) (step : Step) → AmongShown step → Bounded (goes s step)
unfolding goes
goes_bounded s step h = one_of _ _ (over 11) h (omega arith)

offers_bounded : (s : Search) → Bounded (offers s)
unfolding offers
offers_bounded s = one_of _ _ (over 11) tt (omega arith)

-- the first of the list
sends_first : (s : Search) → Bounded (goes s (Final 0 false))
sends_first s = goes_bounded s (Final 0 false) (omega arith)

final_bounded : (t : Applications) (s : Search) → Bounded (final_selection t s)
unfolding final_selection attended unattended
final_bounded t s =
    one_of _ (over 12) _ (omega arith)
    (one_of t.choice _ _ (one_of _ (offers s) (goes s (Final 0 false)) (offers_bounded s) (sends_first s))
    (one_of _ (over 12) (goes s (Final 0 false)) (omega arith) (sends_first s)))

next_bounded : (t : Applications) (s : Search) (k : ℕ) → Bounded (next_aid t s k)
unfolding next_aid
next_bounded t s k = one_of _ (goes s (Listed (k + 1) false)) (final_selection t s) (goes_bounded s (Listed (k + 1) false) tt)
    (final_bounded t s)

first_bounded : (s : Search) → Bounded (from_first s)
unfolding from_first
first_bounded s = goes_bounded s (Listed 0 false) tt

module _ (t : Applications) (s : Search) (a : List ℕ) where
  compared_bounded : (k : ℕ) → Bounded (compared t s k a)
  unfolding compared
  compared_bounded k =
      one_of _ (next_aid t (joined_by t a s) k) _ (next_bounded t (joined_by t a s) k)
      (one_of _ (goes (joined_by t a s) (Listed k true)) (next_aid t s k) (goes_bounded (joined_by t a s) (Listed k true) tt)
      (next_bounded t s k))

  at_step : (step : Step) → Bounded (heard_at t s a step)
  unfolding heard_at after_environment after_record after_listed after_final
  at_step Environment =
      one_of _ (over 12) _ (omega arith)
      (one_of _ (goes s (Directory (directory_file a) 1)) (from_first s) (goes_bounded s (Directory (directory_file a) 1) tt)
      (first_bounded s))
  at_step (Directory file number) =
      let more = with_list (joined_all t (applications_of a) s.list) s in
      let next = Directory file (next_record number) in
      one_of _ (final_selection t s) _ (final_bounded t s)
      (one_of _ (goes more next) (from_first (with_list [] s)) (goes_bounded more next tt) (first_bounded (with_list [] s)))
  at_step (Listed aid again) =
      one_of _ (over 12) _ (omega arith) (one_of _ (compared t s aid a) (next_aid t s aid) (compared_bounded aid) (next_bounded t s aid))
  at_step (Final place taken) =
      one_of _ (pick (fillable (pdol_of a)) (runs (pdol_of a)) (over 9)) (final_selection t (less_one place taken s))
      (one_of _ (runs (pdol_of a)) (over 9) tt (omega arith)) (final_bounded t (less_one place taken s))

  pub heard_bounded : Bounded (heard t s a)
  unfolding heard
  heard_bounded = one_of _ (over 1) (heard_at t s a s.stand.step) (omega arith) (at_step s.stand.step)

pub chosen_bounded : (s : Search) (place : ℕ) → (eqb place 0xFF ≡ false → place < most_shown) → Bounded (chosen s place)
unfolding chosen
chosen_bounded s place h =
    picked Bounded (eqb place 0xFF) (over 12) (goes s (Final place true)) (λ y. omega arith) (λ n. goes_bounded s (Final place true) (h n))
