-- The sum stays as small as today where the application is chosen: a selection adds nothing until GPO is due, whose list is one of an
-- answer and so as short as today's; from there on it is today's law.
-- Assumes nothing.
use mathlib.Core.Path.{ap}
use mathlib.Core.List.{List}
use Prim.Native.Nat.{ℕ, ◌*◌, ◌≤◌}
use native.Mathlib.Omega.{arith}
use lib.ListN.{length}
use Rattle.slices.proofs.Choice.{picked}
use Rattle.tape_read.specs.Entries.{Entry}
use Rattle.answer_common.specs.Answer.{value_most}
use Rattle.answer_laws.proofs.AcceptedAnswers.{list_size_lem}
use Rattle.start_choosing.specs.Start.{is_listing}
use Rattle.select_search.specs.Search as search
use Rattle.select_search.specs.Search.{Found, runs, over}
use Rattle.select_search.specs.Heard.{heard}
use Rattle.select_laws.specs.Runs.{RunsBy}
use Rattle.select_laws.proofs.Runs.{heard_runs}
use Rattle.sessions.specs.Rules.{asks, hears, decides}
use Rattle.rulebook.specs.Situation.{begun, list_in}
use Rattle.rulebook.specs.Phase.{terminal, says, Phase, situation_of}
use Rattle.rulebook.specs.Turn.{turn, after}
use Rattle.rulebook.specs.Later.{AskedLater, HeardLater, as_was, turn_later, after_later}
use Rattle.rulebook_choosing.specs.Choosing.{Choosing, ChoosingPhase, further, following, searched, chose, listed}
use Rattle.rulebook_choosing.specs.Session.{rules}
use Rattle.rulebook_choosing.specs.Stated.{Takes, sent, stopped}
use Rattle.rulebook_choosing.proofs.Selecting.{chose_on}
use Rattle.rulebook_zeros.specs.Zeros.{most_entries, unsupplied_in}
use Rattle.rulebook_zeros.proofs.Most as Today
use Rattle.rulebook_zeros.proofs.Most.{Short, ShortIn, left_in, left_asking}
use Rattle.verdict_under.proofs.Bounding as Any
use Rattle.choosing_zeros.specs.Zeros.{unsupplied_asking_later, unsupplied_later}
use Rattle.choosing_zeros.specs.Summing.{zeros_of}

-- what was told is short, as today; a selection has been told nothing
abbrev ShortLater : ChoosingPhase → Type 0
ShortLater (asks (AskedLater.was w)) = Short (situation_of w)
ShortLater (asks (AskedLater.new x)) = Short x.situation
ShortLater (hears (HeardLater.was h)) = ShortIn (hears h)
ShortLater (hears (HeardLater.new x)) = Short x.situation
ShortLater (decides outcome reason s) = Unit {0}

-- the most that the lists still to come can add: all three of them before GPO
unfoldable left_later : ChoosingPhase → ℕ
left_later (asks (AskedLater.was w)) = left_in (asks w)
left_later (asks (AskedLater.new x)) = 3 * most_entries
left_later (hears (HeardLater.was h)) = left_in (hears h)
left_later (hears (HeardLater.new x)) = 3 * most_entries
left_later (decides outcome reason s) = 0

abbrev Within : ℕ → ChoosingPhase → Type 0
Within = Any.Within rules unsupplied_later ShortLater left_later

-- what is within a bound by today's rules is within it
was_within : (n : ℕ) (q : Phase) → Today.Within n q → Within n (as_was q)
unfolding as_was unsupplied_later unsupplied_asking_later unsupplied_in left_later left_in
was_within n (asks w) h = h
was_within n (hears terminal) h = h
was_within n (hears (says word s)) h = h
was_within n (decides outcome reason s) h = h

-- what a search finds
found_within : (x : Choosing) (a : List ℕ) (f : Found) → Short x.situation → RunsBy a f → Within (3 * most_entries) (following x f)
unfolding following further unsupplied_later unsupplied_asking_later unsupplied_in left_later left_in left_asking situation_of
found_within x a (search.asks s) short own = (short, omega arith)
found_within x a (search.shows s) short own = (short, omega arith)
found_within x a (runs list) short own =
    let size : length list ≤ value_most = omega (arith, ap length own, list_size_lem a) in
    let few = Today.options_few x.situation list size in
    (short, omega arith)
found_within x a (over reason) short own = (tt, omega arith)

taken_within : (x : Choosing) (q : ChoosingPhase) → Short x.situation → Takes x q → Within (3 * most_entries) q
unfolding further unsupplied_later unsupplied_asking_later left_later
taken_within x q short (sent s e few) = (short, omega arith)
taken_within x q short (stopped reason one) = (tt, omega arith)

listing_within : (p : List ℕ) → Within (3 * most_entries) (asks (AskedLater.new (listed p)))
unfolding listed begun list_in unsupplied_later unsupplied_asking_later left_later
listing_within p = ((λ tag. omega arith), omega arith)

turn_within : (w : AskedLater Choosing) (a : List ℕ) → ShortLater (asks w) → Within (left_later (asks w)) (rules.turn w a)
unfolding turn_later searched left_later left_in
turn_within (AskedLater.was w) a short = was_within (left_asking w) (turn w a) (Today.turn_within w a short)
turn_within (AskedLater.new x) a short =
    found_within x a (heard x.applications x.search a) short (heard_runs a x.applications x.search)

after_within : (h : HeardLater Choosing) (p : List ℕ) → ShortLater (hears h) → Within (left_later (hears h)) (rules.after h p)
unfolding after_later left_later left_in
after_within (HeardLater.was terminal) p short =
    picked (Within (3 * most_entries)) (is_listing p) (asks (AskedLater.new (listed p))) (as_was (after terminal p))
    (λ y. listing_within p)
    (λ n. was_within (3 * most_entries) (after terminal p) (Today.after_within terminal p tt))
after_within (HeardLater.was (says word s)) p short =
    was_within (left_in (hears (says word s))) (after (says word s) p) (Today.after_within (says word s) p short)
after_within (HeardLater.new x) p short = taken_within x (chose x p) short (chose_on x p)

-- the fourth number of any entries is at most three lists' entries
pub zeros_most : (es : List Entry) → zeros_of es ≤ 3 * most_entries
unfolding left_later left_in
zeros_most es = Any.sum_most rules unsupplied_later ShortLater left_later turn_within after_within tt es
