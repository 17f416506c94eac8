-- One session has as many entries as the bound allows (`Falling` has its card): four records of the directory are read, the shopper takes the
-- first application ninety-four times, it falls out ninety-three times, and runs in the hundredth exchange. From there on it is today's
-- longest session.
-- Assumes nothing.
use mathlib.Core.Path.{◌≡◌, refl, sym, ap, subst}
use mathlib.Core.Bool.{Bool, true, false, ◌||◌}
use mathlib.Core.List.{List, [], ◌∷◌, ◌++◌}
use Prim.Native.Nat.{ℕ, zero, suc, ◌+◌, ◌*◌, ◌<◌}
use native.Mathlib.Omega.{arith}
use lib.Dec.{leb, ltb}
use lib.ListN.{length, replicate}
use borrow.Author.Tests.{lt-ltb}
use Rattle.slices.specs.Choice.{pick}
use Rattle.slices.specs.Tests.{every}
use Rattle.slices.proofs.Choice.{picked}
use Rattle.numbers.specs.Tables.{start, command, answer, choice}
use Rattle.tape_read.specs.Entries.{Entry, entry}
use Rattle.start_list.specs.Listing.{applications_in}
use Rattle.commands.specs.Commands.{record_command}
use Rattle.select_answers.specs.Files.{environment}
use Rattle.select_list.specs.Order.{most_shown, shown_of}
use Rattle.select_search.specs.Search as search
use Rattle.select_search.specs.Search.{select_by, command_at, asked}
use Rattle.select_search.specs.Directory.{next_record}
use Rattle.select_search.specs.declared.Step.{Step}
use Rattle.select_search.specs.declared.Step.TheVariants.{Environment, Directory, Final}
use Rattle.sessions.specs.Rules.{asks, hears}
use Rattle.sessions.specs.Session as Under
use Rattle.sessions.specs.Session.{is_payload, exchanged, heard as said}
use Rattle.rulebook.specs.Phase.{terminal}
use Rattle.rulebook.proofs.Made.{select, with_list}
use Rattle.rulebook.proofs.Longest.{from_options, options_played, options_long}
use Rattle.rulebook.specs.Later.{AskedLater, HeardLater, command_later, turn_later, kind_later, allowed_later, after_later}
use Rattle.words.specs.Choice.{is_choice}
use Rattle.rulebook_choosing.specs.Choosing.{ChoosingPhase, searched, may_choose}
use Rattle.rulebook_choosing.specs.Session.{rules, Plays, Session, longest}
use Rattle.rulebook_choosing.proofs.Unlooked.{from_today}
use Rattle.rulebook_choosing.proofs.Falling.{listing, directory, record28, no_record, missing, computed, listing_valid, one, at}
use Rattle.rulebook_choosing.proofs.Falling.{environment_found, record_read, complete, sent, falls_out, runs}

-- ---- the entries

abbrev exchange : List ℕ → List ℕ → List Entry
exchange c a = entry command c ∷ entry answer a ∷ []

abbrev taken : Entry
taken = entry choice (0 ∷ [])

-- so often taken in vain, and then well
abbrev rounds : ℕ → List Entry
rounds zero = taken ∷ (exchange select with_list ++ from_options)
rounds (suc k) = taken ∷ (exchange select missing ++ rounds k)

abbrev records : ℕ → ℕ → List Entry → List Entry
records zero number es = es
records (suc k) number es = exchange (record_command number 1) record28 ++ records k (number + 1) es

-- the directory ends and the shopper chooses; before that it is read; before that the environment is selected
abbrev from_end : List Entry
from_end = exchange (record_command 5 1) no_record ++ rounds 93

abbrev from_directory : List Entry
from_directory = records 4 1 from_end

abbrev from_environment : List Entry
from_environment = exchange (select_by 0 environment) directory ++ from_directory

abbrev pub fullest : List Entry
fullest = entry start listing ∷ from_environment

-- ---- and their session

select_asked : (m : ℕ) → command_at (applications_in listing) (replicate (suc m) one) (Final 0 true) ≡ select
unfolding computed
select_asked m = refl

first_shown : (m : ℕ) → is_choice (shown_of (replicate (suc m) one)) (0 ∷ []) ≡ true
unfolding is_choice shown_of every pick
first_shown m =
    picked (λ (n : ℕ). every (true ∷ (ltb 0 n || false) ∷ []) ≡ true) (leb (length (replicate (suc m) one)) most_shown)
    (length (replicate (suc m) one)) most_shown
    (λ y. ap (λ (b : Bool). every (true ∷ (b || false) ∷ [])) (lt-ltb 0 (length (replicate (suc m) one)) (omega arith)))
    (λ n. refl)

-- the shopper takes the first, and it is selected by its name
module _ (e : ℕ) (step : Step) (fallen : Bool) (m : ℕ) (left : e < 100) (a : List ℕ) (ok : is_payload a ≡ true) {es : List Entry} where
  takes : Plays (searched (at (e + 1) (Final 0 true) fallen (suc m)) a) es
      → Plays (hears (HeardLater.new (at e step fallen (suc m)))) (taken ∷ (exchange select a ++ es))
  unfolding command_later turn_later kind_later allowed_later after_later may_choose asked is_payload
  takes play =
      said refl (first_shown m) refl
      (subst (λ (p : ChoosingPhase). Plays p (exchange select a ++ es)) (sym (sent e step fallen (suc m) left))
      (exchanged (sym (select_asked m)) ok play))

missing_payload : is_payload missing ≡ true
unfolding computed
missing_payload = refl

with_list_payload : is_payload with_list ≡ true
unfolding computed
with_list_payload = refl

-- as often in vain as there are exchanges before the hundredth
taken_often : (k m e : ℕ) (step : Step) (fallen : Bool) → e + k ≡ 99 → k < m
    → Plays (hears (HeardLater.new (at e step fallen m))) (rounds k)
taken_often k zero e step fallen left there = absurd (omega arith)
taken_often zero (suc m) e step fallen left there =
    takes e step fallen m (omega arith) with_list with_list_payload
    (subst (λ (n : ℕ). Plays (searched (at n (Final 0 true) fallen (suc m)) with_list) from_options)
    (let hundred : 100 ≡ e + 1 = omega arith in hundred)
    (subst (λ (p : ChoosingPhase). Plays p from_options) (sym (runs fallen m)) (from_today tt options_played)))
taken_often (suc k) (suc zero) e step fallen left there = absurd (omega arith)
taken_often (suc k) (suc (suc m)) e step fallen left there =
    takes e step fallen (suc m) (omega arith) missing missing_payload
    (subst (λ (p : ChoosingPhase). Plays p (rounds k)) (sym (falls_out (e + 1) fallen m (omega arith)))
    (taken_often k (suc m) (e + 1) (Final 0 true) true (omega arith) (omega arith)))

record_payload : is_payload record28 ≡ true
unfolding computed
record_payload = refl

-- a record of the directory, and then
one_record : (e number n : ℕ) {es : List Entry} → e < 100
    → Plays (asks (AskedLater.new (at (e + 1) (Directory 1 (next_record number)) false (28 + n)))) es
    → Plays (asks (AskedLater.new (at e (Directory 1 number) false n))) (exchange (record_command number 1) record28 ++ es)
unfolding command_later turn_later asked command_at
one_record e number n {es} left play =
    exchanged refl record_payload (subst (λ (p : ChoosingPhase). Plays p es) (sym (record_read e number n left)) play)

directory_read : {es : List Entry} → Plays (asks (AskedLater.new (at 6 (Directory 1 5) false 112))) es
    → Plays (asks (AskedLater.new (at 2 (Directory 1 1) false 0))) (records 4 1 es)
unfolding next_record
directory_read play =
    one_record 2 1 0 (omega arith)
    (one_record 3 2 28 (omega arith) (one_record 4 3 56 (omega arith) (one_record 5 4 84 (omega arith) play)))

begins : rules.after (HeardLater.was terminal) listing ≡ asks (AskedLater.new (at 1 Environment false 0))
unfolding computed search.begun
begins = refl

listing_payload : is_payload listing ≡ true
unfolding computed
listing_payload = refl

end_played : Plays (asks (AskedLater.new (at 6 (Directory 1 5) false 112))) from_end
unfolding computed command_later turn_later
end_played =
    exchanged {a = no_record} refl refl
    (subst (λ (p : ChoosingPhase). Plays p (rounds 93)) (sym complete)
    (taken_often 93 112 6 (Directory 1 5) false (omega arith) (omega arith)))

environment_played : Plays (asks (AskedLater.new (at 1 Environment false 0))) from_environment
unfolding computed command_later turn_later
environment_played =
    exchanged {a = directory} refl refl
    (subst (λ (p : ChoosingPhase). Plays p from_directory) (sym environment_found) (directory_read end_played))

fullest_played : Session fullest
unfolding Under.Session computed kind_later
fullest_played =
    said refl listing_valid listing_payload (subst (λ (p : ChoosingPhase). Plays p from_environment) (sym begins) environment_played)

rounds_long : (k : ℕ) → length (rounds k) ≡ 3 * k + 3 + length from_options
rounds_long zero = omega arith
rounds_long (suc k) = let more = rounds_long k in omega arith

pub bound_reached : Session fullest × (length fullest ≡ longest)
bound_reached = (
  fullest_played,
  (let n = options_long in
      let often = rounds_long 93 in
      omega arith),
)
