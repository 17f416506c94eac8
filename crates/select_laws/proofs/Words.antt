-- Nobody without the shopper's word: whatever the card answers, the terminal takes by itself only who wants no confirmation, and where the
-- shopper can choose nobody after one that he took fell out; a choice is due only where he can.
-- Assumes nothing.
use mathlib.Core.Path.{◌≡◌, refl, sym, ◌∙◌}
use mathlib.Core.Bool.{Bool, true, false, not, ◌&&◌, ◌||◌, false≢true}
use mathlib.Core.List.{List, []}
use Prim.Native.Nat.{ℕ, ◌+◌}
use native.Mathlib.Omega.{arith}
use lib.Dec.{eqb, ltb}
use lib.ListN.{length}
use borrow.Author.Tests.{eqb-false}
use Rattle.slices.specs.Choice.{pick}
use Rattle.slices.specs.Tests.{alike}
use Rattle.slices.proofs.Choice.{picked}
use Rattle.dol_wanted.specs.Wanted.{fillable}
use Rattle.start_list.specs.Listing.{Applications, listed_at}
use Rattle.answer_common.specs.Answer.{size_bad}
use Rattle.answer_select.specs.Select.{pdol_of}
use Rattle.select_names.specs.Names.{begins_with}
use Rattle.select_answers.specs.Files.{directory_file, is_application, application_name}
use Rattle.select_answers.specs.Directory.{record_right, applications_of}
use Rattle.select_list.specs.Kept.{candidate_at}
use Rattle.select_search.specs.Search.{Search, shows, runs, over, may_go_on, goes, offers, with_list, has_status}
use Rattle.select_search.specs.Final.{attended, unattended, final_selection, less_one, selected, after_final}
use Rattle.select_search.specs.Listing.{from_first, next_aid, joined_by, compared, after_listed}
use Rattle.select_search.specs.Directory.{after_environment, next_record, joined_all, after_record}
use Rattle.select_search.specs.Heard.{heard_at, heard}
use Rattle.select_search.specs.declared.Step.{Step}
use Rattle.select_search.specs.declared.Step.TheVariants.{Environment, Directory, Listed, Final}
use Rattle.select_laws.specs.Unasked.{Unasked}

-- none of three holds
none_of : (x y z : Bool) → (x || (y || z)) ≡ false → (y ≡ false) × (z ≡ false)
none_of true y z e = absurd (false≢true (sym e))
none_of false true z e = absurd (false≢true (sym e))
none_of false false z e = (refl, e)

module _ (t : Applications) where
  -- an exchange that selects nobody for good
  listed_on : (s : Search) (k : ℕ) (again : Bool) → Unasked t (goes s (Listed k again))
  unfolding goes
  listed_on s k again = picked (Unasked t) (may_go_on s) _ (over 11) (λ y. tt) (λ n. tt)

  directory_on : (s : Search) (file number : ℕ) → Unasked t (goes s (Directory file number))
  unfolding goes
  directory_on s file number = picked (Unasked t) (may_go_on s) _ (over 11) (λ y. tt) (λ n. tt)

  -- the terminal takes the first
  first_taken : (s : Search) → eqb (length s.list) 0 ≡ false → (candidate_at s.list 0).confirm ≡ false
      → (t.choice ≡ true → s.stand.fallen ≡ false) → Unasked t (goes s (Final 0 false))
  unfolding goes
  first_taken s some free none' =
      let there = eqb-false (length s.list) 0 some in
      picked (Unasked t) (may_go_on s) _ (over 11) (λ y. (omega arith, refl, free, none')) (λ n. tt)

  offered : (s : Search) → t.choice ≡ true → Unasked t (offers s)
  unfolding offers
  offered s can = picked (Unasked t) (may_go_on s) (shows s) (over 11) (λ y. can) (λ n. tt)

  final_unasked : (s : Search) → Unasked t (final_selection t s)
  unfolding final_selection attended unattended
  final_unasked s =
      picked (Unasked t) (eqb (length s.list) 0) (over 12) (pick t.choice (attended s) (unattended s))
      (λ y. tt)
      (λ n.
      picked (Unasked t) t.choice (attended s) (unattended s)
      (λ can.
      picked (Unasked t) (ltb 1 (length s.list) || ((candidate_at s.list 0).confirm || s.stand.fallen)) (offers s)
      (goes s (Final 0 false))
      (λ y. offered s can)
      (λ z.
      let free = none_of (ltb 1 (length s.list)) (candidate_at s.list 0).confirm s.stand.fallen z in
      first_taken s n free.0 (λ c. free.1)))
      (λ cannot.
      picked (Unasked t) (candidate_at s.list 0).confirm (over 12) (goes s (Final 0 false))
      (λ y. tt)
      (λ free. first_taken s n free (λ can. absurd (false≢true (sym cannot ∙ can))))))

  next_unasked : (s : Search) (k : ℕ) → Unasked t (next_aid t s k)
  unfolding next_aid
  next_unasked s k =
      picked (Unasked t) (ltb (k + 1) (length t.list)) (goes s (Listed (k + 1) false)) (final_selection t s)
      (λ y. listed_on s (k + 1) false)
      (λ n. final_unasked s)

  module _ (s : Search) (a : List ℕ) where
    compared_unasked : (k : ℕ) → Unasked t (compared t s k a)
    unfolding compared
    compared_unasked k =
        picked (Unasked t) (alike (listed_at t k).aid (application_name a)) (next_aid t (joined_by t a s) k) _
        (λ y. next_unasked (joined_by t a s) k)
        (λ n.
        picked (Unasked t) (begins_with (listed_at t k).aid (application_name a) && (listed_at t k).partial)
        (goes (joined_by t a s) (Listed k true)) (next_aid t s k)
        (λ y. listed_on (joined_by t a s) k true)
        (λ m. next_unasked s k))

    at_step : (step : Step) → Unasked t (heard_at t s a step)
    unfolding heard_at after_environment after_record after_listed after_final from_first
    at_step Environment =
        picked (Unasked t) (has_status 0x6A81 a) (over 12) _
        (λ y. tt)
        (λ n.
        picked (Unasked t) (has_status 0x9000 a && not (eqb (directory_file a) 0)) (goes s (Directory (directory_file a) 1)) (from_first s)
        (λ y. directory_on s (directory_file a) 1)
        (λ m. listed_on s 0 false))
    at_step (Directory file number) =
        picked (Unasked t) (has_status 0x6A83 a && not (eqb (length s.list) 0)) (final_selection t s) _
        (λ y. final_unasked s)
        (λ n.
        picked (Unasked t) (has_status 0x9000 a && record_right a)
        (goes (with_list (joined_all t (applications_of a) s.list) s) (Directory file (next_record number)))
        (from_first (with_list [] s))
        (λ y. directory_on (with_list (joined_all t (applications_of a) s.list) s) file (next_record number))
        (λ m. listed_on (with_list [] s) 0 false))
    at_step (Listed k again) =
        picked (Unasked t) (eqb k 0 && (not again && has_status 0x6A81 a)) (over 12) _
        (λ y. tt)
        (λ n.
        picked (Unasked t) ((has_status 0x9000 a || has_status 0x6283 a) && is_application a) (compared t s k a) (next_aid t s k)
        (λ y. compared_unasked k)
        (λ m. next_unasked s k))
    at_step (Final place taken) =
        picked (Unasked t) (selected s.list place a) (pick (fillable (pdol_of a)) (runs (pdol_of a)) (over 9))
        (final_selection t (less_one place taken s))
        (λ y. picked (Unasked t) (fillable (pdol_of a)) (runs (pdol_of a)) (over 9) (λ f. tt) (λ f. tt))
        (λ n. final_unasked (less_one place taken s))

    pub heard_unasked : Unasked t (heard t s a)
    unfolding heard
    heard_unasked =
        picked (Unasked t) (size_bad a) (over 1) (heard_at t s a s.stand.step) (λ y. tt) (λ n. at_step s.stand.step)
