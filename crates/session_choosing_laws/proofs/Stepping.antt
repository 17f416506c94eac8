-- Each accepted step is one of the machine's under the amended rules: the entry is the one that the machine takes, and the state with its list
-- is left standing at the phase that it takes the machine to.
-- Assumes nothing.
use mathlib.Core.Path.{◌≡◌, refl, sym, ap, ◌∙◌, subst}
use mathlib.Core.Bool.{true, false}
use mathlib.Core.List.{List, [], ◌∷◌, ◌++◌}
use mathlib.Core.Option.{some}
use Prim.Native.Nat.{ℕ, ◌-◌, ◌<◌}
use native.Mathlib.Omega.{arith}
use lib.Dec.{eqb, leb}
use lib.ListN.{length, take, get_or}
use borrow.Author.Tests.{ltb-true, leb-true, eqb-false}
use Rattle.slices.proofs.Choice.{pick_yes, pick_no, picked, either}
use Rattle.numbers.specs.Tables.{answer}
use Rattle.tape_read.specs.Entries.{Entry, entry}
use Rattle.words.specs.Choice.{is_choice}
use Rattle.words.proofs.Choices.{one_chosen, choice_length}
use Rattle.start_choosing.specs.Start.{is_listing}
use Rattle.start_list.specs.Listing.{Applications, applications_in}
use Rattle.select_list.specs.Order.{Candidate, most_shown, shown_of}
use Rattle.select_list.specs.Kept.{most_kept}
use Rattle.select_search.specs.Search as search
use Rattle.select_search.specs.Search.{Search, Found, runs, over}
use Rattle.select_search.specs.Final.{chosen}
use Rattle.select_search.specs.Heard.{heard}
use Rattle.select_search.specs.Turns.{search_of}
use Rattle.select_search.specs.declared.Stand.{Stand}
use Rattle.select_laws.specs.Cut.{room_now, room_next, cut, AmongShown}
use Rattle.select_laws.proofs.Blind.{alike_cut, cut_choice}
use Rattle.select_laws.proofs.Cutting.{cut_turn}
use Rattle.select_laws.proofs.Turns.{heard_follows, chosen_follows}
use Rattle.select_laws.proofs.Bounds.{heard_bounded, chosen_bounded}
use Rattle.sessions.specs.Rules.{asks, hears, decides}
use Rattle.sessions.specs.Session.{is_payload}
use Rattle.sessions.specs.Machine.{at, owes, next, run, and_on}
use Rattle.sessions.proofs.Running.{takes_command, takes_answer, takes_heard, takes_decision}
use Rattle.sessions.proofs.Reading.{run_append}
use Rattle.rulebook.specs.Phase.{terminal, says, due_kind}
use Rattle.rulebook.specs.Turn.{turn, allowed, after}
use Rattle.rulebook.specs.Later.{AskedLater, HeardLater, as_was, turn_later, allowed_later, after_later, kind_later}
use Rattle.rulebook_choosing.specs.Choosing.{Choosing, ChoosingPhase, further, following, searched, may_choose, chose, listed}
use Rattle.rulebook_choosing.specs.Session.{rules}
use Rattle.session_phase.specs.Waiting.{is_decided}
use Rattle.session_phase.specs.declared.Waiting.{Waiting}
use Rattle.session_state.specs.Keeping.{fresh}
use Rattle.session_state.specs.declared.State.{State}
use Rattle.session_moves.specs.Moves.{speaker_of}
use Rattle.session_events.specs.Events.{step}
use Rattle.session_laws.proofs.Stepping as today
use Rattle.session_choosing.specs.Moves.{moved_later}
use Rattle.session_choosing.specs.Events.{choosing_in, start_later, word_later, later_at, step_later}
use Rattle.rulebook_choosing.specs.Machine.{Machine}
use Rattle.session_choosing_laws.specs.Agreeing.{speaker_later, kept_later, Alike, Knows, StandsAt, Agrees}
use Rattle.session_choosing_laws.specs.Logging.{logged, landing, Follows}
use Rattle.session_choosing_laws.proofs.Carrying.{was_stands, asks_before, hears_before, carried}
use Rattle.session_choosing_laws.proofs.Finding.{found_follows}
use Rattle.session_choosing_laws.proofs.Listing.{listing_follows}

-- a state that stands at a phase agrees with the machine once the phase's entry is read
pub lands_at : (s : State) (l : List Candidate) (p : ChoosingPhase) → StandsAt s l p → Agrees s l (landing p)
unfolding Agrees landing kept_later is_decided
lands_at s l (asks w) h = h
lands_at s l (hears h) at-word = at-word
lands_at s l (decides outcome reason z) h = ap is_decided h.waits

-- the machine reads the phase's own entry
pub run_logged : (p : ChoosingPhase) → run rules (logged p) (at p) ≡ some (landing p)
unfolding run and_on logged landing
run_logged (asks w) = ap (and_on (run rules [])) (takes_command rules w)
run_logged (hears h) = refl
run_logged (decides outcome reason z) = ap (and_on (run rules [])) (takes_decision rules outcome reason z)

-- after an event and what it brings about, wherever the machine stood
pub run_on : (es : List Entry) (σ : Machine) (e : Entry) (p : ChoosingPhase) → run rules es (at rules.opens) ≡ some σ
    → next rules σ e ≡ some (at p)
    → run rules (es ++ (e ∷ logged p)) (at rules.opens) ≡ some (landing p)
unfolding run and_on
run_on es σ e p h n =
    run_append rules es (e ∷ logged p) (at rules.opens)
    ∙ (ap (and_on (run rules (e ∷ logged p))) h ∙ (ap (and_on (run rules (logged p))) n ∙ run_logged p))

pub fresh_stands : (l : List Candidate) → StandsAt fresh l rules.opens
unfolding as_was
fresh_stands l = was_stands fresh l (hears terminal) today.fresh_stands

-- what follows does not depend on where the search stood
onward : (c : Choosing) (z : Search) (f : Found) → following (further z c) f ≡ following c f
unfolding following further
onward c z (search.asks x) = refl
onward c z (search.shows x) = refl
onward c z (runs list) = refl
onward c z (over reason) = refl

-- the selection is the state's own, but for the list
own : (n : ℕ) (s : State) (l : List Candidate) (x : Choosing) → Alike n s l x → further x.search (choosing_in s l) ≡ x
unfolding further choosing_in
own n s l x h = λ i. record { situation = h.situation i; applications = h.applications i; search = x.search }

-- ---- an answer of the card's
module _ (s : State) (l : List Candidate) (a buf : List ℕ) (ok : is_payload a ≡ true) where
  module _ (x : Choosing) (alike : Alike (room_now x.search) s l x) (among : AmongShown x.search.stand.step) where
    abbrev t : Applications
    t = applications_in s.listing

    -- the state's search hears the same, once cut
    heard_cut : cut (heard t (search_of s.stand l) a) ≡ cut (heard t x.search a)
    heard_cut =
        let z = x.search in
        let few = alike.few in
        let exchanges : s.stand.exchanges ≡ z.stand.exchanges = ap (λ (y : Stand). y.exchanges) alike.stand in
        let lists : take (most_kept - s.stand.exchanges) l ≡ take (room_now z) z.list =
        ap (λ (k : ℕ). take (most_kept - k) l) exchanges ∙ alike.list in
        cut_turn t a (search_of s.stand l) (omega arith) (subst (λ (y : Stand). AmongShown y.step) (sym alike.stand) among)
        ∙ (ap (λ (y : Search). cut (heard t y a)) (λ i. record { stand = alike.stand i; list = lists i })
        ∙ sym (cut_turn t a z few among))

    here : Follows (owes (AskedLater.new (further x.search (choosing_in s l)))) (entry answer a)
        (searched (further x.search (choosing_in s l)) a) buf
        (moved_later (searched (choosing_in s l) a) s [] buf)
    unfolding searched further choosing_in turn_later
    here =
        let c = choosing_in s l in
        let y = further x.search c in
        let f = heard t x.search a in
        let same = onward c x.search f in
        subst
        (λ (q : ChoosingPhase). Follows (owes (AskedLater.new y)) (entry answer a) q buf
        (moved_later (following c (heard t (search_of s.stand l) a)) s [] buf))
        (sym same)
        (found_follows s l [] buf (owes (AskedLater.new y)) (entry answer a) f (heard t (search_of s.stand l) a) heard_cut
        x.search.stand.exchanges (heard_follows t x.search a) (heard_bounded t x.search a)
        (takes_answer rules (AskedLater.new y) a ok ∙ ap (λ (q : ChoosingPhase). some (at q)) same))

  pub answer_step_lem : (w : AskedLater Choosing) → StandsAt s l (asks w)
      → Follows (owes w) (entry answer a) (rules.turn w a) buf (step_later s l a buf)
  unfolding step_later later_at kept_later turn_later Knows
  answer_step_lem (AskedLater.was w) stands =
      subst (Follows (owes (AskedLater.was w)) (entry answer a) (as_was (turn w a)) buf)
      (sym (ap (λ (x : Waiting). later_at x s l a buf) stands.waits))
      (carried (owes (AskedLater.was w)) (entry answer a) (turn w a) buf (step s a buf) l (owes w) (entry answer a)
      (takes_answer rules (AskedLater.was w) a ok)
      (today.answer_step_lem s w a buf (asks_before s l w stands) ok))
  answer_step_lem (AskedLater.new x) stands =
      subst (Follows (owes (AskedLater.new x)) (entry answer a) (searched x a) buf)
      (sym (ap (λ (v : Waiting). later_at v s l a buf) stands.waits))
      (subst
      (λ (v : Choosing). Follows (owes (AskedLater.new v)) (entry answer a) (searched v a) buf
      (moved_later (searched (choosing_in s l) a) s [] buf))
      (own (room_now x.search) s l x stands.knows.0)
      (here x stands.knows.0 stands.knows.1))

-- ---- somebody else's word
-- a choice that is allowed and not 'FF' is one of those shown
place_shown : (l : List Candidate) (p : List ℕ) → is_choice (shown_of l) p ≡ true → eqb (get_or p 0 0) 0xFF ≡ false
    → get_or p 0 0 < most_shown
unfolding shown_of
place_shown l p fits n =
    let one = choice_length (shown_of l) p fits in
    let small = ltb-true (get_or p 0 0) (shown_of l) (one_chosen (shown_of l) p one (eqb-false (get_or p 0 0) 0xFF n) ∙ fits) in
    picked (λ (m : ℕ). get_or p 0 0 < m → get_or p 0 0 < most_shown) (leb (length l) most_shown) (length l) most_shown
    (λ y h. let few = leb-true (length l) most_shown y in omega arith)
    (λ k h. h)
    small

module _ (s : State) (l : List Candidate) (p buf : List ℕ) (ok : is_payload p ≡ true) where
  -- START, with a list or without
  module _ (stands : StandsAt s l (hears (HeardLater.was terminal))) (fits : rules.allowed (HeardLater.was terminal) p ≡ true) where
    abbrev σ : Machine
    σ = at (hears (HeardLater.was terminal))

    abbrev e : Entry
    e = entry (rules.due_kind (HeardLater.was terminal)) p

    starts : step_later s l p buf ≡ start_later s l p buf
    unfolding step_later later_at word_later kept_later speaker_later speaker_of
    starts = ap (λ (x : Waiting). later_at x s l p buf) stands.waits

    takes : next rules σ e ≡ some (at (rules.after (HeardLater.was terminal) p))
    takes = takes_heard rules (HeardLater.was terminal) p fits ok

    listing_starts : is_listing p ≡ true → Follows σ e (rules.after (HeardLater.was terminal) p) buf (step_later s l p buf)
    unfolding after_later start_later
    listing_starts y =
        let phase : rules.after (HeardLater.was terminal) p ≡ asks (AskedLater.new (listed p)) = pick_yes _ _ _ y in
        subst (λ (q : ChoosingPhase). Follows σ e q buf (step_later s l p buf)) (sym phase)
        (subst (Follows σ e (asks (AskedLater.new (listed p))) buf) (sym (starts ∙ pick_yes _ _ _ y))
        (listing_follows p y buf σ e (takes ∙ ap (λ (q : ChoosingPhase). some (at q)) phase)))

    other_starts : is_listing p ≡ false → Follows σ e (rules.after (HeardLater.was terminal) p) buf (step_later s l p buf)
    unfolding after_later allowed_later start_later
    other_starts n =
        let phase : rules.after (HeardLater.was terminal) p ≡ as_was (after terminal p) = pick_no _ _ _ n in
        let may : allowed terminal p ≡ true = sym (pick_no _ _ _ n) ∙ fits in
        subst (λ (q : ChoosingPhase). Follows σ e q buf (step_later s l p buf)) (sym phase)
        (subst (Follows σ e (as_was (after terminal p)) buf) (sym (starts ∙ pick_no _ _ _ n))
        (carried σ e (after terminal p) buf (step s p buf) l _ _ (takes ∙ ap (λ (q : ChoosingPhase). some (at q)) phase)
        (today.word_step_lem s terminal p buf (hears_before s l terminal stands) may ok)))

  -- the shopper's choice
  module _ (x : Choosing) (alike : Alike (room_next x.search) s l x) (fits : may_choose x p ≡ true) where
    abbrev k : ℕ
    k = get_or p 0 0

    choice_cut : cut (chosen (search_of s.stand l) k) ≡ cut (chosen x.search k)
    choice_cut =
        sym (alike_cut (λ (z : Search). chosen z k) (cut_choice k) x.search (search_of s.stand l) (sym alike.stand) alike.few
        (sym alike.list))

    chooses : rules.allowed (HeardLater.new (further x.search (choosing_in s l))) p ≡ true
        → Follows (at (hears (HeardLater.new (further x.search (choosing_in s l))))) (entry (rules.due_kind (HeardLater.new x)) p)
        (chose (further x.search (choosing_in s l)) p) buf
        (moved_later (chose (choosing_in s l) p) s l buf)
    unfolding chose further choosing_in after_later kind_later may_choose
    chooses may =
        let c = choosing_in s l in
        let y = further x.search c in
        let f = chosen x.search k in
        let same = onward c x.search f in
        let σ : Machine = at (hears (HeardLater.new y)) in
        let e = entry (rules.due_kind (HeardLater.new y)) p in
        subst
        (λ (q : ChoosingPhase). Follows σ e q buf (moved_later (following c (chosen (search_of s.stand l) k)) s l buf))
        (sym same)
        (found_follows s l l buf σ e f (chosen (search_of s.stand l) k) choice_cut x.search.stand.exchanges
        (chosen_follows x.search k)
        (chosen_bounded x.search k (place_shown x.search.list p fits))
        (takes_heard rules (HeardLater.new y) p may ok ∙ ap (λ (q : ChoosingPhase). some (at q)) same))

  pub word_step_lem : (h : HeardLater Choosing) → StandsAt s l (hears h) → rules.allowed h p ≡ true
      → Follows (at (hears h)) (entry (rules.due_kind h) p) (rules.after h p) buf (step_later s l p buf)
  unfolding step_later later_at word_later kept_later speaker_later speaker_of kind_later allowed_later after_later Knows
  word_step_lem (HeardLater.was terminal) stands fits =
      either (is_listing p) (λ y. listing_starts stands fits y) (λ n. other_starts stands fits n)
  word_step_lem (HeardLater.was (says word z)) stands fits =
      subst (Follows (at (hears (HeardLater.was (says word z)))) (entry (due_kind (says word z)) p) (as_was (after (says word z) p)) buf)
      (sym (ap (λ (x : Waiting). later_at x s l p buf) stands.waits))
      (carried (at (hears (HeardLater.was (says word z)))) (entry (due_kind (says word z)) p) (after (says word z) p) buf
      (step s p buf) l _ _
      (takes_heard rules (HeardLater.was (says word z)) p fits ok)
      (today.word_step_lem s (says word z) p buf (hears_before s l (says word z) stands) fits ok))
  word_step_lem (HeardLater.new x) stands fits =
      subst (Follows (at (hears (HeardLater.new x))) (entry (rules.due_kind (HeardLater.new x)) p) (chose x p) buf)
      (sym (ap (λ (v : Waiting). later_at v s l p buf) stands.waits))
      (subst
      (λ (v : Choosing). Follows (at (hears (HeardLater.new v))) (entry (rules.due_kind (HeardLater.new x)) p) (chose v p) buf
      (moved_later (chose (choosing_in s l) p) s l buf))
      (own (room_next x.search) s l x stands.knows)
      (chooses x stands.knows fits
      (ap (λ (v : Choosing). rules.allowed (HeardLater.new v) p) (own (room_next x.search) s l x stands.knows) ∙ fits)))
