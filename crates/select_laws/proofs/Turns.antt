-- How a selection goes on and ends: whatever the card answers and the shopper chooses, one exchange more, or a choice before it, or GET
-- PROCESSING OPTIONS, or the end with 1, 9, 11 or 12; and no exchange behind the hundredth.
-- Assumes nothing.
use mathlib.Core.Path.{◌≡◌, refl, ap}
use mathlib.Core.Bool.{Bool, true, false, not, ◌&&◌, ◌||◌}
use mathlib.Core.List.{List, []}
use Prim.Native.Nat.{ℕ, ◌+◌, ◌<◌}
use native.Mathlib.Omega.{arith}
use lib.Dec.{eqb, ltb}
use lib.ListN.{length}
use borrow.Author.Tests.{ltb-true}
use Rattle.slices.specs.Choice.{pick}
use Rattle.slices.specs.Tests.{alike}
use Rattle.slices.specs.Tables.{any_of}
use Rattle.slices.proofs.Choice.{picked}
use Rattle.dol_wanted.specs.Wanted.{fillable}
use Rattle.start_list.specs.Listing.{Applications, listed_at}
use Rattle.select_names.specs.Names.{begins_with}
use Rattle.answer_common.specs.Answer.{size_bad}
use Rattle.answer_common.specs.Named.{listed}
use Rattle.answer_select.specs.Select.{pdol_of}
use Rattle.select_answers.specs.Files.{directory_file, is_application, application_name}
use Rattle.select_answers.specs.Directory.{record_right, applications_of}
use Rattle.select_list.specs.Order.{Candidate}
use Rattle.select_list.specs.Kept.{candidate_at}
use Rattle.select_search.specs.Search.{Search, shows, runs, over, most_exchanges, may_go_on, goes, offers, with_list, has_status}
use Rattle.select_search.specs.Final.{attended, unattended, final_selection, chosen, less_one, selected, after_final}
use Rattle.select_search.specs.Listing.{from_first, next_aid, joined_by, compared, after_listed}
use Rattle.select_search.specs.Directory.{after_environment, next_record, joined_all, after_record}
use Rattle.select_search.specs.Heard.{heard_at, heard}
use Rattle.select_laws.specs.Follows.{Follows}
use Rattle.select_search.specs.declared.Step.{Step}
use Rattle.select_search.specs.declared.Step.TheVariants.{Environment, Directory, Listed, Final}

-- the four reasons
module _ (e : ℕ) where
  one : Follows e (over 1)
  unfolding listed any_of pick
  one = refl

  nine : Follows e (over 9)
  unfolding listed any_of pick
  nine = refl

  eleven : Follows e (over 11)
  unfolding listed any_of pick
  eleven = refl

  twelve : Follows e (over 12)
  unfolding listed any_of pick
  twelve = refl

-- s has made e exchanges
module _ (e : ℕ) (s : Search) (made : s.stand.exchanges ≡ e) where
  goes_follows : (step : Step) → Follows e (goes s step)
  unfolding goes may_go_on
  goes_follows step =
      picked (Follows e) (ltb s.stand.exchanges most_exchanges) _ (over 11)
      (λ y. let h : s.stand.exchanges < most_exchanges = ltb-true _ _ y in (ap (λ (n : ℕ). n + 1) made, omega arith))
      (λ n. eleven e)

  offers_follows : Follows e (offers s)
  unfolding offers may_go_on
  offers_follows =
      picked (Follows e) (ltb s.stand.exchanges most_exchanges) (shows s) (over 11)
      (λ y. let h : s.stand.exchanges < most_exchanges = ltb-true _ _ y in (made, omega arith))
      (λ n. eleven e)

  attended_follows : Follows e (attended s)
  unfolding attended
  attended_follows =
      picked (Follows e) (ltb 1 (length s.list) || ((candidate_at s.list 0).confirm || s.stand.fallen))
      (offers s) (goes s (Final 0 false))
      (λ y. offers_follows)
      (λ n. goes_follows (Final 0 false))

  unattended_follows : Follows e (unattended s)
  unfolding unattended
  unattended_follows =
      picked (Follows e) (candidate_at s.list 0).confirm (over 12) (goes s (Final 0 false))
      (λ y. twelve e) (λ n. goes_follows (Final 0 false))

  final_follows : (t : Applications) → Follows e (final_selection t s)
  unfolding final_selection
  final_follows t =
      picked (Follows e) (eqb (length s.list) 0) (over 12) (pick t.choice (attended s) (unattended s))
      (λ y. twelve e)
      (λ n. picked (Follows e) t.choice (attended s) (unattended s) (λ y. attended_follows) (λ m. unattended_follows))

  next_follows : (t : Applications) (k : ℕ) → Follows e (next_aid t s k)
  unfolding next_aid
  next_follows t k =
      picked (Follows e) (ltb (k + 1) (length t.list)) (goes s (Listed (k + 1) false)) (final_selection t s)
      (λ y. goes_follows (Listed (k + 1) false))
      (λ n. final_follows t)

  first_follows : Follows e (from_first s)
  unfolding from_first
  first_follows = goes_follows (Listed 0 false)

-- whoever joins or falls out, the exchanges stay
kept_made : (l : List Candidate) (s : Search) → (with_list l s).stand ≡ s.stand
unfolding with_list
kept_made l s = refl

joined_made : (t : Applications) (a : List ℕ) (s : Search) → (joined_by t a s).stand.exchanges ≡ s.stand.exchanges
unfolding joined_by with_list
joined_made t a s = picked (λ x. x.stand.exchanges ≡ s.stand.exchanges) (has_status 0x9000 a) _ s (λ y. refl) (λ n. refl)

less_made : (place : ℕ) (taken : Bool) (s : Search) → (less_one place taken s).stand.exchanges ≡ s.stand.exchanges
unfolding less_one
less_made place taken s = refl

module _ (t : Applications) (s : Search) (a : List ℕ) where
  abbrev e : ℕ
  e = s.stand.exchanges

  compared_follows : (k : ℕ) → Follows e (compared t s k a)
  unfolding compared
  compared_follows k =
      picked (Follows e) (alike (listed_at t k).aid (application_name a)) (next_aid t (joined_by t a s) k) _
      (λ y. next_follows e (joined_by t a s) (joined_made t a s) t k)
      (λ n.
      picked (Follows e) (begins_with (listed_at t k).aid (application_name a) && (listed_at t k).partial)
      (goes (joined_by t a s) (Listed k true))
      (next_aid t s k)
      (λ y. goes_follows e (joined_by t a s) (joined_made t a s) (Listed k true))
      (λ m. next_follows e s refl t k))

  listed_follows : (k : ℕ) (again : Bool) → Follows e (after_listed t s k again a)
  unfolding after_listed
  listed_follows k again =
      picked (Follows e) (eqb k 0 && (not again && has_status 0x6A81 a)) (over 12) _
      (λ y. twelve e)
      (λ n.
      picked (Follows e) ((has_status 0x9000 a || has_status 0x6283 a) && is_application a) (compared t s k a) (next_aid t s k)
      (λ y. compared_follows k)
      (λ m. next_follows e s refl t k))

  environment_follows : Follows e (after_environment s a)
  unfolding after_environment
  environment_follows =
      picked (Follows e) (has_status 0x6A81 a) (over 12) _
      (λ y. twelve e)
      (λ n.
      picked (Follows e) (has_status 0x9000 a && not (eqb (directory_file a) 0)) (goes s (Directory (directory_file a) 1)) (from_first s)
      (λ y. goes_follows e s refl (Directory (directory_file a) 1))
      (λ m. first_follows e s refl))

  record_follows : (file number : ℕ) → Follows e (after_record t s file number a)
  unfolding after_record
  record_follows file number =
      picked (Follows e) (has_status 0x6A83 a && not (eqb (length s.list) 0)) (final_selection t s) _
      (λ y. final_follows e s refl t)
      (λ n.
      picked (Follows e) (has_status 0x9000 a && record_right a)
      (goes (with_list (joined_all t (applications_of a) s.list) s) (Directory file (next_record number)))
      (from_first (with_list [] s))
      (λ y.
      goes_follows e (with_list (joined_all t (applications_of a) s.list) s)
      (ap (λ x. x.exchanges) (kept_made (joined_all t (applications_of a) s.list) s)) (Directory file (next_record number)))
      (λ m. first_follows e (with_list [] s) (ap (λ x. x.exchanges) (kept_made [] s))))

  last_follows : (place : ℕ) (taken : Bool) → Follows e (after_final t s place taken a)
  unfolding after_final
  last_follows place taken =
      picked (Follows e) (selected s.list place a) (pick (fillable (pdol_of a)) (runs (pdol_of a)) (over 9))
      (final_selection t (less_one place taken s))
      (λ y. picked (Follows e) (fillable (pdol_of a)) (runs (pdol_of a)) (over 9) (λ f. tt) (λ f. nine e))
      (λ n. final_follows e (less_one place taken s) (less_made place taken s) t)

  at_step : (step : Step) → Follows e (heard_at t s a step)
  unfolding heard_at
  at_step Environment = environment_follows
  at_step (Directory file number) = record_follows file number
  at_step (Listed aid again) = listed_follows aid again
  at_step (Final place taken) = last_follows place taken

  -- an answer
  pub heard_follows : Follows e (heard t s a)
  unfolding heard
  heard_follows = picked (Follows e) (size_bad a) (over 1) (heard_at t s a s.stand.step) (λ y. one e) (λ n. at_step s.stand.step)

-- a choice
pub chosen_follows : (s : Search) (place : ℕ) → Follows s.stand.exchanges (chosen s place)
unfolding chosen
chosen_follows s place =
    picked (Follows s.stand.exchanges) (eqb place 0xFF) (over 12) (goes s (Final place true))
    (λ y. twelve s.stand.exchanges)
    (λ n. goes_follows s.stand.exchanges s refl (Final place true))
