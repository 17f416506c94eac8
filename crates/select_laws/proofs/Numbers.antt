-- The records of the directory are numbered by their exchanges: from the beginning, and behind any answer and any choice.
-- Assumes nothing.
use mathlib.Core.Path.{◌≡◌, refl}
use mathlib.Core.Bool.{Bool, true, false, not, ◌&&◌, ◌||◌}
use mathlib.Core.List.{List, []}
use Prim.Native.Nat.{ℕ, ◌+◌, ◌%◌, ◌<◌}
use native.Mathlib.Omega.{arith}
use lib.Dec.{eqb, ltb}
use lib.ListN.{length}
use borrow.Author.Tests.{ltb-true}
use Rattle.slices.specs.Choice.{pick}
use Rattle.slices.specs.Tests.{alike}
use Rattle.slices.proofs.Choice.{picked}
use Rattle.dol_wanted.specs.Wanted.{fillable}
use Rattle.start_list.specs.Listing.{Applications, listed_at}
use Rattle.select_names.specs.Names.{begins_with}
use Rattle.answer_common.specs.Answer.{size_bad}
use Rattle.answer_select.specs.Select.{pdol_of}
use Rattle.select_answers.specs.Files.{directory_file, is_application, application_name}
use Rattle.select_answers.specs.Directory.{record_right, applications_of}
use Rattle.select_list.specs.Kept.{candidate_at}
use Rattle.select_search.specs.Search.{Search, asks, shows, runs, over, begun}
use Rattle.select_search.specs.Search.{most_exchanges, may_go_on, goes, offers, with_list, has_status}
use Rattle.select_search.specs.Final.{attended, unattended, final_selection, chosen, less_one, selected, after_final}
use Rattle.select_search.specs.Listing.{from_first, next_aid, joined_by, compared, after_listed}
use Rattle.select_search.specs.Directory.{after_environment, next_record, joined_all, after_record}
use Rattle.select_search.specs.Heard.{heard_at, heard}
use Rattle.select_search.specs.declared.Step.{Step}
use Rattle.select_search.specs.declared.Step.TheVariants.{Environment, Directory, Listed, Final}
use Rattle.select_laws.specs.Numbered.{NumberedAt, Numbered}

pub begun_numbered : Numbered (asks begun)
unfolding begun
begun_numbered = refl

-- an AID or an application comes next
listed_on : (s : Search) (k : ℕ) (again : Bool) → Numbered (goes s (Listed k again))
unfolding goes
listed_on s k again = picked Numbered (may_go_on s) _ (over 11) (λ y. tt) (λ n. tt)

final_on : (s : Search) (place : ℕ) (taken : Bool) → Numbered (goes s (Final place taken))
unfolding goes
final_on s place taken = picked Numbered (may_go_on s) _ (over 11) (λ y. tt) (λ n. tt)

offered : (s : Search) → Numbered (offers s)
unfolding offers
offered s = picked Numbered (may_go_on s) (shows s) (over 11) (λ y. tt) (λ n. tt)

-- a record comes next, in the exchange behind
first_record : (s : Search) (file : ℕ) → s.stand.exchanges ≡ 1 → Numbered (goes s (Directory file 1))
unfolding goes
first_record s file e = picked Numbered (may_go_on s) _ (over 11) (λ y. let z : s.stand.exchanges + 1 ≡ 1 + 1 = omega arith in z) (λ n. tt)

next_record_lem : (s : Search) (file number : ℕ) → s.stand.exchanges ≡ number + 1 → Numbered (goes s (Directory file (next_record number)))
unfolding goes may_go_on next_record
next_record_lem s file number e =
    picked Numbered (ltb s.stand.exchanges most_exchanges) _ (over 11)
    (λ y.
    let h : s.stand.exchanges < most_exchanges = ltb-true _ _ y in
    let z : s.stand.exchanges + 1 ≡ (number + 1) % 256 + 1 = omega arith in
    z)
    (λ n. tt)

final_numbered : (t : Applications) (s : Search) → Numbered (final_selection t s)
unfolding final_selection attended unattended
final_numbered t s =
    picked Numbered (eqb (length s.list) 0) (over 12) (pick t.choice (attended s) (unattended s))
    (λ y. tt)
    (λ n.
    picked Numbered t.choice (attended s) (unattended s)
    (λ y.
    picked Numbered (ltb 1 (length s.list) || ((candidate_at s.list 0).confirm || s.stand.fallen)) (offers s) (goes s (Final 0 false))
    (λ z. offered s) (λ z. final_on s 0 false))
    (λ m. picked Numbered (candidate_at s.list 0).confirm (over 12) (goes s (Final 0 false)) (λ z. tt) (λ z. final_on s 0 false)))

next_numbered : (t : Applications) (s : Search) (k : ℕ) → Numbered (next_aid t s k)
unfolding next_aid
next_numbered t s k =
    picked Numbered (ltb (k + 1) (length t.list)) (goes s (Listed (k + 1) false)) (final_selection t s)
    (λ y. listed_on s (k + 1) false)
    (λ n. final_numbered t s)

compared_numbered : (t : Applications) (s : Search) (k : ℕ) (a : List ℕ) → Numbered (compared t s k a)
unfolding compared
compared_numbered t s k a =
    picked Numbered (alike (listed_at t k).aid (application_name a)) (next_aid t (joined_by t a s) k) _
    (λ y. next_numbered t (joined_by t a s) k)
    (λ n.
    picked Numbered (begins_with (listed_at t k).aid (application_name a) && (listed_at t k).partial)
    (goes (joined_by t a s) (Listed k true))
    (next_aid t s k)
    (λ y. listed_on (joined_by t a s) k true)
    (λ m. next_numbered t s k))

module _ (t : Applications) (s : Search) (a : List ℕ) where
  at_step : (step : Step) → NumberedAt s.stand step → Numbered (heard_at t s a step)
  unfolding heard_at after_environment after_record after_listed after_final from_first with_list
  at_step Environment e =
      picked Numbered (has_status 0x6A81 a) (over 12) _
      (λ y. tt)
      (λ n.
      picked Numbered (has_status 0x9000 a && not (eqb (directory_file a) 0)) (goes s (Directory (directory_file a) 1)) (from_first s)
      (λ y. first_record s (directory_file a) e)
      (λ m. listed_on s 0 false))
  at_step (Directory file number) e =
      picked Numbered (has_status 0x6A83 a && not (eqb (length s.list) 0)) (final_selection t s) _
      (λ y. final_numbered t s)
      (λ n.
      picked Numbered (has_status 0x9000 a && record_right a)
      (goes (with_list (joined_all t (applications_of a) s.list) s) (Directory file (next_record number)))
      (from_first (with_list [] s))
      (λ y. next_record_lem (with_list (joined_all t (applications_of a) s.list) s) file number e)
      (λ m. listed_on (with_list [] s) 0 false))
  at_step (Listed k again) e =
      picked Numbered (eqb k 0 && (not again && has_status 0x6A81 a)) (over 12) _
      (λ y. tt)
      (λ n.
      picked Numbered ((has_status 0x9000 a || has_status 0x6283 a) && is_application a) (compared t s k a) (next_aid t s k)
      (λ y. compared_numbered t s k a)
      (λ m. next_numbered t s k))
  at_step (Final place taken) e =
      picked Numbered (selected s.list place a) (pick (fillable (pdol_of a)) (runs (pdol_of a)) (over 9))
      (final_selection t (less_one place taken s))
      (λ y. picked Numbered (fillable (pdol_of a)) (runs (pdol_of a)) (over 9) (λ f. tt) (λ f. tt))
      (λ n. final_numbered t (less_one place taken s))

  -- an answer
  pub heard_numbered : NumberedAt s.stand s.stand.step → Numbered (heard t s a)
  unfolding heard
  heard_numbered e =
      picked Numbered (size_bad a) (over 1) (heard_at t s a s.stand.step) (λ y. tt) (λ n. at_step s.stand.step e)

-- a choice
pub chosen_numbered : (s : Search) (place : ℕ) → Numbered (chosen s place)
unfolding chosen
chosen_numbered s place =
    picked Numbered (eqb place 0xFF) (over 12) (goes s (Final place true)) (λ y. tt) (λ n. final_on s place true)
