-- `heard_by` is a search's turn over what is seen, line by line as in `select_search`: what an answer is asked for is read from what is seen
-- of it (Reading). So where the same is seen the session goes on alike.
-- Assumes nothing.
use mathlib.Core.Path.{◌≡◌, ap}
use mathlib.Core.Bool.{Bool, true, not, ◌&&◌, ◌||◌}
use mathlib.Core.List.{List, [], ◌∷◌}
use Prim.Native.Nat.{ℕ, ◌+◌, ◌*◌}
use lib.Dec.{eqb}
use lib.ListN.{length, get_or}
use Rattle.slices.specs.Choice.{pick}
use Rattle.slices.specs.Tests.{every, alike}
use Rattle.numbers.specs.Tables.{for_size, for_list, for_nobody}
use Rattle.dol_wanted.specs.Wanted.{fillable}
use Rattle.start_list.specs.Listing.{Applications, listed_at}
use Rattle.select_names.specs.Names.{begins_with}
use Rattle.select_answers.specs.Directory.{Met}
use Rattle.select_list.specs.Order.{candidate_of, placed}
use Rattle.select_list.specs.Kept.{candidate_at}
use Rattle.select_search.specs.Search.{Search, Found, runs, over, goes, with_list, has_status}
use Rattle.select_search.specs.Directory.{after_environment, joined_all, next_record, after_record}
use Rattle.select_search.specs.Listing.{from_first, next_aid, joined_by, compared, after_listed}
use Rattle.select_search.specs.Final.{final_selection, less_one, selected, after_final}
use Rattle.select_search.specs.Heard.{heard_at, heard}
use Rattle.select_search.specs.declared.Step.{Step}
use Rattle.select_search.specs.declared.Step.TheVariants.{Environment, Directory, Listed, Final}
use Rattle.rulebook.specs.Later.{AskedLater, as_was, turn_later}
use Rattle.rulebook_choosing.specs.Choosing.{Choosing, ChoosingPhase, following, searched}
use Rattle.rulebook_choosing.specs.Session.{rules}
use Rattle.card_seen.specs.Seen.{environment, directory, application, status_of, Seen, seen}
use Rattle.card_seen.specs.Under.{Through}
use Rattle.card_seen.proofs.Turning as today
use Rattle.card_choosing.specs.Places.{place_at, place_of, view}
use Rattle.card_choosing.proofs.Reading.{file_by, fci_by, name_by, indicator_by, list_by, right_by, met_by}
use Rattle.card_choosing.proofs.Reading.{file_seen, fci_seen, name_told, indicator_told, list_told, record_right_lem, record_met}

-- ---- the lines

unfoldable pub status_is : ℕ → Seen → Bool
status_is status v = eqb (256 * get_or v.status 0 0 + get_or v.status 1 0) status

-- 001, 12.3.2
abbrev pub environment_lines : Search → (ℕ → Bool) → ℕ → Found
environment_lines s status file =
    pick (status 0x6A81) (over for_nobody) (pick (status 0x9000 && not (eqb file 0)) (goes s (Directory file 1)) (from_first s))

abbrev pub record_lines : Applications → Search → ℕ → ℕ → (ℕ → Bool) → Bool → List Met → Found
record_lines t s file number status right met =
    pick (status 0x6A83 && not (eqb (length s.list) 0)) (final_selection t s)
    (pick (status 0x9000 && right) (goes (with_list (joined_all t met s.list) s) (Directory file (next_record number)))
    (from_first (with_list [] s)))

-- 001, 12.3.3
abbrev joins : Applications → (ℕ → Bool) → List ℕ → ℕ → Search → Search
joins t status name indicator s =
    pick (status 0x9000) (with_list (placed (candidate_of t.choice name indicator) s.list) s) s

abbrev pub comparing : Applications → Search → ℕ → (ℕ → Bool) → List ℕ → ℕ → Found
comparing t s k status name indicator =
    pick (alike (listed_at t k).aid name) (next_aid t (joins t status name indicator s) k)
    (pick (begins_with (listed_at t k).aid name && (listed_at t k).partial) (goes (joins t status name indicator s) (Listed k true))
    (next_aid t s k))

abbrev pub listed_lines : Applications → Search → ℕ → Bool → (ℕ → Bool) → Bool → List ℕ → ℕ → Found
listed_lines t s k again status right name indicator =
    pick (eqb k 0 && (not again && status 0x6A81)) (over for_nobody)
    (pick ((status 0x9000 || status 0x6283) && right) (comparing t s k status name indicator) (next_aid t s k))

-- 001, 12.4
abbrev pub final_lines : Applications → Search → ℕ → Bool → (ℕ → Bool) → Bool → List ℕ → List ℕ → Found
final_lines t s place taken status right name list =
    pick (every (status 0x9000 ∷ right ∷ alike (candidate_at s.list place).name name ∷ []))
    (pick (fillable list) (runs list) (over for_list)) (final_selection t (less_one place taken s))

-- ---- by what is seen

unfoldable pub heard_step : Applications → Search → Seen → Step → Found
heard_step t s v Environment = environment_lines s (λ k. status_is k v) (file_by v)
heard_step t s v (Directory file number) = record_lines t s file number (λ k. status_is k v) (right_by v) (met_by v.objects)
heard_step t s v (Listed aid again) = listed_lines t s aid again (λ k. status_is k v) (fci_by v) (name_by v) (indicator_by v)
heard_step t s v (Final place taken) = final_lines t s place taken (λ k. status_is k v) (fci_by v) (name_by v) (list_by v)

unfoldable pub heard_by : Applications → Search → Seen → Found
heard_by t s v = pick v.size_wrong (over for_size) (heard_step t s v s.stand.step)

step_seen : (t : Applications) (s : Search) (a : List ℕ) (step : Step) → heard_at t s a step ≡ heard_step t s (seen (place_at step) a) step
unfolding heard_at heard_step place_at after_environment after_record after_listed compared joined_by after_final selected has_status
    status_is seen
    status_of
step_seen t s a Environment = λ i. environment_lines s (λ k. status_is k (seen environment a)) (file_seen a i)
step_seen t s a (Directory file number) =
    λ i. record_lines t s file number (λ k. status_is k (seen directory a)) (record_right_lem a i) (record_met a i)
step_seen t s a (Listed aid again) =
    λ i. listed_lines t s aid again (λ k. status_is k (seen application a)) (fci_seen a i) (name_told a i) (indicator_told a i)
step_seen t s a (Final place taken) =
    λ i. final_lines t s place taken (λ k. status_is k (seen application a)) (fci_seen a i) (name_told a i) (list_told a i)

pub heard_seen : (t : Applications) (s : Search) (a : List ℕ) → heard t s a ≡ heard_by t s (seen (place_at s.stand.step) a)
unfolding heard heard_by seen
heard_seen t s a = ap (pick (seen (place_at s.stand.step) a).size_wrong (over for_size)) (step_seen t s a s.stand.step)

-- ---- whatever was asked

unfoldable pub turn_by : AskedLater Choosing → Seen → ChoosingPhase
turn_by (AskedLater.was w) v = as_was (today.turn_by w v)
turn_by (AskedLater.new x) v = following x (heard_by x.applications x.search v)

pub turn_seen : (w : AskedLater Choosing) (a : List ℕ) → rules.turn w a ≡ turn_by w (seen (place_of w) a)
unfolding turn_later turn_by place_of searched
turn_seen (AskedLater.was w) a = ap as_was (today.turn_seen w a)
turn_seen (AskedLater.new x) a = ap (following x) (heard_seen x.applications x.search a)

pub through : Through rules view
through = (turn_by, turn_seen)
