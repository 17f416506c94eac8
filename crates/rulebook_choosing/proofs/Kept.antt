-- The rules with choosing keep what rules must keep (Kept of sessions): a choice has a kind of its own, there is always something to
-- choose, and each exchange and each choice takes its entries off what can still come: two for each exchange that is left, the choices
-- (`Choices` of `select_laws`), and today's from GPO on.
-- Assumes nothing.
use mathlib.Core.Path.{◌≡◌, refl, sym, ap, ◌∙◌}
use mathlib.Core.Bool.{Bool, true, false, ◌||◌}
use mathlib.Core.List.{List, [], ◌∷◌}
use Prim.Native.Nat.{ℕ, ◌+◌, ◌*◌, ◌-◌, ◌≤◌, ◌<◌}
use native.Mathlib.Omega.{arith}
use lib.Dec.{eqb, leb, ltb}
use lib.ListN.{length, get_or}
use borrow.Author.Tests.{ltb-true, leb-false}
use Rattle.slices.specs.Choice.{pick}
use Rattle.slices.specs.Tests.{every}
use Rattle.slices.proofs.Choice.{picked, pick_no}
use Rattle.slices.proofs.Tests.{held, first_held}
use Rattle.answer_afl.specs.Entries.{most_records}
use Rattle.select_list.specs.Order.{Candidate, most_shown, shown_of}
use Rattle.select_search.specs.Search as search
use Rattle.select_search.specs.Search.{Found, runs, over, most_exchanges, begun as search_begun}
use Rattle.select_search.specs.Final.{chosen}
use Rattle.select_search.specs.Heard.{heard}
use Rattle.select_laws.specs.Follows.{Follows}
use Rattle.select_laws.specs.Choices.{choices_at, choices_shown, choices_asked, choices_in}
use Rattle.select_laws.proofs.Turns.{heard_follows, chosen_follows}
use Rattle.select_laws.proofs.Choices.{heard_few, chosen_few}
use Rattle.sessions.specs.Rules.{asks, hears, decides}
use Rattle.sessions.specs.Session.{is_payload}
use Rattle.sessions.specs.Kept.{OtherKind, Kept}
use Rattle.rulebook.specs.Situation.{Situation}
use Rattle.rulebook.specs.Phase.{Asked, terminal, says, Phase}
use Rattle.rulebook.specs.Turn.{turn, allowed, after, opened}
use Rattle.rulebook.proofs.Said.{other_kinds, sample, sample_valid, sample_payload, can_say}
use Rattle.rulebook.proofs.Coming as today
use Rattle.rulebook.proofs.Passing.{Holds, anything_lasts, turn_holds, after_holds}
use Rattle.rulebook.specs.Later.{AskedLater, HeardLater, as_was, turn_later, kind_later, allowed_later, after_later}
use Rattle.start_choosing.specs.Start.{is_listing}
use Rattle.words.specs.Choice.{is_choice}
use Rattle.rulebook_choosing.specs.Choosing.{Choosing, ChoosingPhase, further, following, searched, may_choose, chose, listed}
use Rattle.rulebook_choosing.specs.Session.{rules, longest}
use Rattle.rulebook_choosing.specs.Stated.{exchanges_of}

-- ---- kinds, and something to say

pub kinds : (h : HeardLater Choosing) → OtherKind (rules.due_kind h)
unfolding kind_later
kinds (HeardLater.was h) = other_kinds h
kinds (HeardLater.new x) = record { no_command = refl; no_answer = refl; no_silence = refl; no_decision = refl }

either_way : (b : Bool) → every ((b || true) ∷ []) ≡ true
unfolding every pick
either_way true = refl
either_way false = refl

-- none of those shown
none_of_them : (count : ℕ) → is_choice count (0xFF ∷ []) ≡ true
unfolding is_choice
none_of_them count = held refl ((ltb 0xFF count || true) ∷ []) refl ∙ either_way (ltb 0xFF count)

pub can_choose : (h : HeardLater Choosing) → (p : List ℕ) × ((rules.allowed h p ≡ true) × (is_payload p ≡ true))
unfolding allowed_later allowed may_choose is_listing is_payload
can_choose (HeardLater.was terminal) = (sample, (pick_no _ _ _ refl ∙ sample_valid, sample_payload))
can_choose (HeardLater.was (says word s)) = can_say (says word s)
can_choose (HeardLater.new x) = (0xFF ∷ [], (none_of_them (shown_of x.search.list), refl))

-- ---- how much can come

-- from GPO on
abbrev from_options : ℕ
from_options = 9 + 2 * most_records

-- behind e exchanges
abbrev exchanges_left : ℕ → ℕ
exchanges_left e = 2 * (most_exchanges - e)

unfoldable pub to_come : ChoosingPhase → ℕ
to_come (asks (AskedLater.was w)) = today.to_come (asks w)
to_come (asks (AskedLater.new x)) = 2 + (exchanges_left (exchanges_of x) + choices_asked x.search + from_options)
to_come (hears (HeardLater.was terminal)) = longest
to_come (hears (HeardLater.was (says word s))) = today.to_come (hears (says word s))
to_come (hears (HeardLater.new x)) = exchanges_left (exchanges_of x) + choices_shown x.search + from_options
to_come (decides outcome reason s) = 1

-- where today's rules lead, as much can come as today
was_few : (q : Phase) → Holds (λ s. Unit {0}) q → to_come (as_was q) ≡ today.to_come q
unfolding to_come as_was today.to_come Holds
was_few (asks w) h = refl
was_few (hears terminal) h = absurd h
was_few (hears (says word s)) h = refl
was_few (decides outcome reason s) h = refl

was_turn : (w : Asked) (a : List ℕ) → to_come (as_was (turn w a)) ≡ today.to_come (turn w a)
was_turn w a = was_few (turn w a) (turn_holds (λ s. Unit {0}) anything_lasts w a tt)

-- after an answer or a choice, by what was found: at most so many choices
following_fewer : (x : Choosing) (n : ℕ) (f : Found) → Follows (exchanges_of x) f → choices_in f ≤ n
    → to_come (following x f) ≤ exchanges_left (exchanges_of x) + n + from_options
unfolding following further to_come choices_in today.to_come today.after_asking
following_fewer x n (search.asks s) h few = omega (arith, h.0, h.1)
following_fewer x n (search.shows s) h few =
    let same : exchanges_left s.stand.exchanges ≡ exchanges_left (exchanges_of x) = ap exchanges_left h.0 in omega arith
following_fewer x n (runs list) h few = omega arith
following_fewer x n (over reason) h few = omega arith

pub turn_fewer : (w : AskedLater Choosing) (a : List ℕ) → 2 + to_come (rules.turn w a) ≤ to_come (asks w)
unfolding turn_later to_come searched
turn_fewer (AskedLater.was w) a = let same = was_turn w a in let few = today.turn_fewer w a in omega arith
turn_fewer (AskedLater.new x) a =
    let found = heard x.applications x.search a in
    let few =
    following_fewer x (choices_asked x.search) found (heard_follows x.applications x.search a)
    (heard_few x.applications x.search a) in
    omega arith

listing_few : (p : List ℕ) → 1 + to_come (asks (AskedLater.new (listed p))) ≤ longest
unfolding to_come listed search_begun choices_asked choices_at
listing_few p = omega arith

opened_few : (p : List ℕ) → 1 + to_come (as_was (after terminal p)) ≤ longest
unfolding to_come as_was after opened today.to_come today.after_asking
opened_few p = omega arith

started_few : (p : List ℕ) → 1 + to_come (rules.after (HeardLater.was terminal) p) ≤ longest
unfolding after_later
started_few p =
    picked (λ (q : ChoosingPhase). 1 + to_come q ≤ longest) (is_listing p) (asks (AskedLater.new (listed p))) (as_was (after terminal p))
    (λ y. listing_few p)
    (λ n. opened_few p)

or_left : (s t : Bool) → (s || t) ≡ true → t ≡ false → s ≡ true
or_left true t h n = refl
or_left false t h n = sym n ∙ h

shown_few : (l : List Candidate) → shown_of l ≤ length l
unfolding shown_of
shown_few l =
    picked (λ (n : ℕ). n ≤ length l) (leb (length l) most_shown) (length l) most_shown (λ y. omega arith)
    (λ n. omega (arith, leb-false (length l) most_shown n))

-- a place that may be said is one of the list
place_there : (shown : List Candidate) (p : List ℕ) → is_choice (shown_of shown) p ≡ true → eqb (get_or p 0 0) 0xFF ≡ false
    → get_or p 0 0 < length shown
unfolding is_choice
place_there l p fits n =
    let both = (first_held _ _ (first_held _ _ fits).1).0 in
    let less = ltb-true (get_or p 0 0) (shown_of l) (or_left _ _ both n) in
    let most = shown_few l in
    omega arith

pub after_fewer : (h : HeardLater Choosing) (p : List ℕ) → rules.allowed h p ≡ true → 1 + to_come (rules.after h p) ≤ to_come (hears h)
unfolding after_later allowed_later to_come chose may_choose
after_fewer (HeardLater.was terminal) p fits = started_few p
after_fewer (HeardLater.was (says word s)) p fits =
    let same = was_few (after (says word s) p) (after_holds (λ t. Unit {0}) word s p tt) in
    let few = today.after_fewer (says word s) p in
    omega arith
after_fewer (HeardLater.new x) p fits =
    let place = get_or p 0 0 in
    let few = chosen_few x.search place (place_there x.search.list p fits) in
    let left =
    following_fewer x (choices_in (chosen x.search place)) (chosen x.search place) (chosen_follows x.search place)
    (omega arith) in
    omega arith

pub decision_left : (outcome reason : ℕ) (s : Situation) → 1 ≤ to_come (decides outcome reason s)
unfolding to_come
decision_left outcome reason s = omega arith

unfoldable pub kept : Kept rules
kept =
    record {
      other_kinds = kinds;
      can_say = can_choose;
      to_come = to_come;
      turn_fewer = turn_fewer;
      after_fewer = after_fewer;
      decision_left = decision_left;
    }
