-- An application runs at the answer to its final SELECT alone, by the list 9F38 of that answer: nothing else that a search can find is one.
-- Assumes nothing.
use mathlib.Core.Path.{refl}
use mathlib.Core.Bool.{Bool, true, false}
use mathlib.Core.List.{List, []}
use Prim.Native.Nat.{ℕ, ◌+◌}
use Rattle.slices.specs.Choice.{pick}
use Rattle.slices.proofs.Choice.{picked}
use Rattle.start_list.specs.Listing.{Applications}
use Rattle.select_answers.specs.Files.{directory_file}
use Rattle.select_answers.specs.Directory.{applications_of}
use Rattle.select_search.specs.Search.{Search, Found, goes, offers, with_list}
use Rattle.select_search.specs.Final.{attended, unattended, final_selection, less_one, after_final}
use Rattle.select_search.specs.Listing.{from_first, next_aid, joined_by, compared, after_listed}
use Rattle.select_search.specs.Directory.{after_environment, next_record, joined_all, after_record}
use Rattle.select_search.specs.Heard.{heard_at, heard}
use Rattle.select_search.specs.declared.Step.{Step}
use Rattle.select_search.specs.declared.Step.TheVariants.{Environment, Directory, Listed, Final}
use Rattle.select_laws.specs.Runs.{RunsBy}

module _ (a : List ℕ) where
  of_two : (t : Bool) (x y : Found) → RunsBy a x → RunsBy a y → RunsBy a (pick t x y)
  of_two t x y h k = picked (RunsBy a) t x y (λ e. h) (λ e. k)

  module _ (s : Search) where
    goes_runs : (step : Step) → RunsBy a (goes s step)
    unfolding goes
    goes_runs step = of_two _ _ _ tt tt

    offers_runs : RunsBy a (offers s)
    unfolding offers
    offers_runs = of_two _ _ _ tt tt

    final_runs : (t : Applications) → RunsBy a (final_selection t s)
    unfolding final_selection attended unattended
    final_runs t =
        of_two _ _ _ tt
        (of_two t.choice (attended s) (unattended s) (of_two _ _ _ offers_runs (goes_runs (Final 0 false)))
        (of_two _ _ _ tt (goes_runs (Final 0 false))))

    next_runs : (t : Applications) (k : ℕ) → RunsBy a (next_aid t s k)
    unfolding next_aid
    next_runs t k = of_two _ _ _ (goes_runs (Listed (k + 1) false)) (final_runs t)

    first_runs : RunsBy a (from_first s)
    unfolding from_first
    first_runs = goes_runs (Listed 0 false)

  module _ (t : Applications) (s : Search) where
    compared_runs : (k : ℕ) → RunsBy a (compared t s k a)
    unfolding compared
    compared_runs k =
        of_two _ _ _ (next_runs (joined_by t a s) t k) (of_two _ _ _ (goes_runs (joined_by t a s) (Listed k true)) (next_runs s t k))

    listed_runs : (k : ℕ) (again : Bool) → RunsBy a (after_listed t s k again a)
    unfolding after_listed
    listed_runs k again = of_two _ _ _ tt (of_two _ _ _ (compared_runs k) (next_runs s t k))

    environment_runs : RunsBy a (after_environment s a)
    unfolding after_environment
    environment_runs = of_two _ _ _ tt (of_two _ _ _ (goes_runs s (Directory (directory_file a) 1)) (first_runs s))

    record_runs : (file number : ℕ) → RunsBy a (after_record t s file number a)
    unfolding after_record
    record_runs file number =
        of_two _ _ _ (final_runs s t)
        (of_two _ _ _ (goes_runs (with_list (joined_all t (applications_of a) s.list) s) (Directory file (next_record number)))
        (first_runs (with_list [] s)))

    last_runs : (place : ℕ) (taken : Bool) → RunsBy a (after_final t s place taken a)
    unfolding after_final
    last_runs place taken = of_two _ _ _ (of_two _ _ _ refl tt) (final_runs (less_one place taken s) t)

    at_step : (step : Step) → RunsBy a (heard_at t s a step)
    unfolding heard_at
    at_step Environment = environment_runs
    at_step (Directory file number) = record_runs file number
    at_step (Listed aid again) = listed_runs aid again
    at_step (Final place taken) = last_runs place taken

    pub heard_runs : RunsBy a (heard t s a)
    unfolding heard
    heard_runs = of_two _ _ _ tt (at_step s.stand.step)
