-- Of two good answers the lines of `select_search` go on with the same: what they take from an answer is what `used_at` names.
-- Assumes nothing.
use mathlib.Core.Path.{◌≡◌, sym, ap, ◌∙◌}
use mathlib.Core.Bool.{Bool, true, false, not, ◌&&◌, ◌||◌}
use mathlib.Core.List.{List, []}
use Prim.Native.Nat.{ℕ}
use lib.Dec.{eqb}
use lib.ListN.{length}
use borrow.Author.Tests.{eqb-true}
use Rattle.slices.specs.Choice.{pick}
use Rattle.slices.proofs.Choice.{either, and_left}
use Rattle.numbers.specs.Tables.{for_size, for_list, for_nobody}
use Rattle.dol_wanted.specs.Wanted.{fillable}
use Rattle.start_list.specs.Listing.{Applications}
use Rattle.select_answers.specs.Directory.{Met}
use Rattle.select_search.specs.Search.{Search, runs, over, goes, with_list, has_status}
use Rattle.select_search.specs.Directory.{after_environment, joined_all, next_record, after_record}
use Rattle.select_search.specs.Listing.{from_first, next_aid, joined_by, compared, after_listed}
use Rattle.select_search.specs.Final.{final_selection, less_one, after_final}
use Rattle.select_search.specs.Heard.{heard_at, heard}
use Rattle.select_search.specs.declared.Step.{Step}
use Rattle.select_search.specs.declared.Step.TheVariants.{Environment, Directory, Listed, Final}
use Rattle.rulebook.specs.Phase.{Asked}
use Rattle.rulebook.specs.Later.{AskedLater, as_was, turn_later}
use Rattle.rulebook_choosing.specs.Choosing.{Choosing, following, searched}
use Rattle.rulebook_choosing.specs.Session.{rules}
use Rattle.card_seen.specs.Under.{reason_in}
use Rattle.card_seen.specs.Used as today
use Rattle.card_seen.proofs.Least as today_proofs
use Rattle.card_choosing.specs.Used.{good_at, Good, file, told, named, list, used_at}
use Rattle.card_choosing.proofs.Turning.{comparing}
use Rattle.card_choosing.proofs.Sessions.{was_reason}

-- ---- from GPO on

pub least : (w : Asked) (a b : List ℕ) → today.used_of w a ≡ today.used_of w b → reason_in (rules.turn (AskedLater.was w) a) ≡ 0
    → reason_in (rules.turn (AskedLater.was w) b) ≡ 0 → rules.turn (AskedLater.was w) a ≡ rules.turn (AskedLater.was w) b
unfolding turn_later
least w a b e one other = ap as_was (today_proofs.least w a b e (sym (was_reason _) ∙ one) (sym (was_reason _) ∙ other))

-- ---- in a search

same_file : (x y : ℕ) → file x ≡ file y → x ≡ y
same_file x y e = cc

same_told : (x y : List Met) → told x ≡ told y → x ≡ y
same_told x y e = cc

same_blocked : (b c : Bool) (n m : List ℕ) (i j : ℕ) → named b n i ≡ named c m j → b ≡ c
same_blocked b c n m i j e = cc

same_name : (b c : Bool) (n m : List ℕ) (i j : ℕ) → named b n i ≡ named c m j → n ≡ m
same_name b c n m i j e = cc

same_indicator : (b c : Bool) (n m : List ℕ) (i j : ℕ) → named b n i ≡ named c m j → i ≡ j
same_indicator b c n m i j e = cc

same_list : (x y : List ℕ) → list x ≡ list y → x ≡ y
same_list x y e = cc

-- an answer with one status has no other
other_status : (status other : ℕ) (a : List ℕ) → has_status status a ≡ true → has_status other a ≡ eqb status other
unfolding has_status
other_status status other a y = ap (λ (n : ℕ). eqb n other) (eqb-true _ status y)

not_locked : (a : List ℕ) → (has_status 0x9000 a || has_status 0x6283 a) ≡ true → has_status 0x6A81 a ≡ false
not_locked a e =
    either (has_status 0x9000 a)
    (λ y. other_status 0x9000 0x6A81 a y)
    (λ n. other_status 0x6283 0x6A81 a (sym (ap (λ (t : Bool). t || has_status 0x6283 a) n) ∙ e))

both : {t r : Bool} {w : Bool} → t ≡ w → r ≡ w → t ≡ r
both e f = e ∙ sym f

module _ (t : Applications) (s : Search) (a b : List ℕ) where
  step_good : (step : Step) → used_at step a ≡ used_at step b → good_at s step a ≡ true → good_at s step b ≡ true
      → heard_at t s a step ≡ heard_at t s b step
  unfolding heard_at used_at good_at after_environment after_record after_listed compared joined_by after_final
  step_good Environment e one other =
      let late = both (other_status 0x9000 0x6A81 a (and_left _ _ one)) (other_status 0x9000 0x6A81 b (and_left _ _ other)) in
      let right = both one other in
      let f = same_file _ _ e in
      λ i. pick (late i) (over for_nobody) (pick (right i) (goes s (Directory (f i) 1)) (from_first s))
  step_good (Directory f number) e one other =
      let late = both (other_status 0x9000 0x6A83 a (and_left _ _ one)) (other_status 0x9000 0x6A83 b (and_left _ _ other)) in
      let right = both one other in
      let met = same_told _ _ e in
      λ i. pick (late i && not (eqb (length s.list) 0)) (final_selection t s)
      (pick (right i) (goes (with_list (joined_all t (met i) s.list) s) (Directory f (next_record number))) (from_first (with_list [] s)))
  step_good (Listed k again) e one other =
      let late = both (not_locked a (and_left _ _ one)) (not_locked b (and_left _ _ other)) in
      let right = both one other in
      let nine = same_blocked _ _ _ _ _ _ e in
      let name = same_name _ _ _ _ _ _ e in
      let indicator = same_indicator _ _ _ _ _ _ e in
      λ i. pick (eqb k 0 && (not again && late i)) (over for_nobody)
      (pick (right i) (comparing t s k (λ n. nine i) (name i) (indicator i)) (next_aid t s k))
  step_good (Final place taken) e one other =
      let right = both one other in
      let l = same_list _ _ e in
      λ i. pick (right i) (pick (fillable (l i)) (runs (l i)) (over for_list)) (final_selection t (less_one place taken s))

  heard_good : used_at s.stand.step a ≡ used_at s.stand.step b → Good s a → Good s b → heard t s a ≡ heard t s b
  unfolding heard
  heard_good e one other =
      let size = both one.size other.size in
      let rest = step_good s.stand.step e one.good other.good in
      λ i. pick (size i) (over for_size) (rest i)

pub least_there : (x : Choosing) (a b : List ℕ) → used_at x.search.stand.step a ≡ used_at x.search.stand.step b
    → Good x.search a → Good x.search b → searched x a ≡ searched x b
unfolding searched
least_there x a b e one other = ap (following x) (heard_good x.applications x.search a b e one other)
