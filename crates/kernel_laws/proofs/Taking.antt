-- A call that is taken is a step of the rulebook's machine, from where the log has led it: the kernel lets an event pass only where
-- the machine waits for it, with a payload that a tape can hold.
-- Assumes nothing.
use mathlib.Core.Path.{◌≡◌, refl, sym, ap, ◌∙◌, subst}
use mathlib.Core.Bool.{true, ◌&&◌, false≢true}
use mathlib.Core.List.{List, [], ◌∷◌, ◌++◌}
use mathlib.Core.Option.{some}
use Prim.Native.Nat.{ℕ, ◌≤◌}
use native.Mathlib.Omega.{arith}
use lib.Dec.{eqb}
use lib.ListN.{length}
use lib.Pow.{are_bytes}
use borrow.Author.Tests.{eqb-true, eq-eqb, ne_eqb, ltb-false}
use Rattle.slices.specs.Choice.{first_of}
use Rattle.slices.proofs.Choice.{pick_yes, pick_no, and_left, and_right}
use Rattle.slices.proofs.Cutting.{none_left}
use Rattle.numbers.specs.Tables.{answer, silence}
use Rattle.tape_read.specs.Entries.{Entry, entry, payload_most}
use Rattle.commands.specs.Commands.{longest}
use Rattle.sessions.specs.Machine.{run}
use Rattle.sessions.proofs.Payloads.{payload}
use Rattle.sessions.proofs.Sorting.{run_awaits}
use Rattle.sessions.proofs.States.{state_next}
use Rattle.sessions.proofs.Leading.{at_leads, owes_leads}
use Rattle.rulebook.specs.Phase.{Phase, opens, hears, due_kind, tvr_of, tsi_of}
use Rattle.rulebook.specs.Turn.{turn, allowed, after}
use Rattle.rulebook.specs.Machine.{Machine, at, owes}
use Rattle.rulebook.specs.Session.{rules}
use Rattle.rulebook.proofs.Kept.{kept}
use Rattle.session_phase.specs.Waiting.{kind_of, awaited, is_over}
use Rattle.session_phase.specs.declared.Question.{Question}
use Rattle.session_phase.specs.declared.Speaker.{Speaker}
use Rattle.session_phase.specs.declared.Waiting.{Waiting}
use Rattle.session_phase.specs.declared.Waiting.TheVariants.{Searching, ForCard, ForWord, Decided, Closed}
use Rattle.session_state.specs.Keeping.{changed}
use Rattle.session_moves.specs.Moves.{Moved}
use Rattle.session_phase.specs.Saying.{allowed_by}
use Rattle.session_events.specs.Events.{step}
use Rattle.session_laws.specs.Agreeing.{StandsAt}
use Rattle.session_laws.specs.Logging.{logged as ruled, Follows as Steps, Reached}
use Rattle.session_laws.proofs.Words.{no_answer, kind_due, allowed_by_lem, allowed_short}
use Rattle.session_laws.proofs.Stepping.{answer_step_lem, word_step_lem}
use Rattle.session_laws.proofs.Reaching.{reached_on, reached_asked, reached_word, reached_no_search}
use Rattle.kernel_refusals.specs.Refusals.{is_due, start_bad, answer_bad, word_lines}
use Rattle.kernel_refusals.proofs.OwnTests.{of_kind}
use Rattle.kernel.specs.declared.Session.{Session}
use Rattle.kernel.specs.Calls.{Called, accepted, closed_state, closed_after}
use Rattle.kernel_laws.specs.Log.{logged_by}
use Rattle.kernel_laws.specs.Saying.{Gives, Follows, Silenced}
use Rattle.kernel_laws.proofs.Turning.{Passed}
use Rattle.kernel_laws.proofs.Words.{passed_word, taken_allowed}
use Rattle.kernel_laws.proofs.Giving.{step_gives, gives_logged}

-- ---- what it means that an event is due
as_entry : (e : Entry) (k : ℕ) → e.kind ≡ k → e ≡ entry k e.payload
as_entry e k h = ap (λ (n : ℕ). entry n e.payload) h

due_kind_lem : (x : Waiting) (e : Entry) → is_due x e ≡ true → (e.kind ≡ silence → ⊥) → e.kind ≡ awaited x
unfolding is_due
due_kind_lem x e d n = eqb-true e.kind (awaited x) (sym (pick_no _ _ _ (ne_eqb e.kind silence n)) ∙ d)

module _ (x : Waiting) (e : Entry) (d : is_due x e ≡ true) (k : e.kind ≡ silence) where
  silent_due : (eqb (awaited x) answer && eqb (length e.payload) 0) ≡ true
  unfolding is_due
  silent_due = sym (pick_yes _ _ _ (eq-eqb e.kind silence k)) ∙ d

  silent_waits : awaited x ≡ answer
  silent_waits = eqb-true (awaited x) answer (and_left (eqb (awaited x) answer) _ silent_due)

  silent_entry : e ≡ entry silence []
  silent_entry =
      as_entry e silence k
      ∙ ap (entry silence) (none_left e.payload (eqb-true (length e.payload) 0 (and_right (eqb (awaited x) answer) _ silent_due)))

waits_card : (x : Waiting) → (x ≡ Searching → ⊥) → awaited x ≡ answer → (question : Question) × (x ≡ ForCard question)
unfolding awaited
waits_card Searching never e = absurd (never refl)
waits_card (ForCard question) never e = (question, refl)
waits_card (ForWord speaker) never e = absurd (no_answer speaker e)
waits_card (Decided outcome reason) never e = absurd (omega arith)
waits_card Closed never e = absurd (omega arith)

-- ---- an event that is taken, and is no silence: the machine stands where it is due, and the call is a step of the session's
pub record Taken (es : List Entry) (e : Entry) (buf : List ℕ) (before : ℕ) (r : Called) : Type 0 where
  pub from : Machine
  pub read : run rules es (at opens) ≡ some from
  pub to : Phase
  pub moved : Moved
  pub steps : Steps from e to buf moved
  pub same : r ≡ accepted before moved

module _ (s : Session) (es : List Entry) (buf : List ℕ) (there : Reached s.state es) (e : Entry) (passed : Passed s e buf) where
  abbrev p : List ℕ
  p = e.payload

  abbrev stepped : Moved
  stepped = step s.state p buf

  module _ (bytes : are_bytes p ≡ true) (n : e.kind ≡ silence → ⊥) where
    on_card : (question : Question) → s.state.waiting ≡ ForCard question → Taken es e buf s.zeros (accepted s.zeros stepped)
    unfolding awaited answer_bad
    on_card question k =
        let w = reached_asked s.state es there question k in
        let kind : e.kind ≡ answer = due_kind_lem s.state.waiting e passed.due n ∙ ap awaited k in
        let short = ltb-false payload_most (length p) (sym (of_kind e.kind answer _ kind) ∙ passed.answer) in
        record {
          from = owes w.0;
          read = w.1.0;
          to = turn w.0 p;
          moved = stepped;
          steps =
              subst (λ (x : Entry). Steps (owes w.0) x (turn w.0 p) buf stepped) (sym (as_entry e answer kind))
              (answer_step_lem s.state w.0 p buf w.1.1 (payload p short bytes));
          same = refl;
        }

    on_word : (speaker : Speaker) → s.state.waiting ≡ ForWord speaker → Taken es e buf s.zeros (accepted s.zeros stepped)
    unfolding awaited
    on_word speaker k =
        let there' = reached_word s.state es there speaker k in
        let h = there'.0 in
        let stands = there'.1.1.1 in
        let kind : e.kind ≡ kind_of speaker = due_kind_lem s.state.waiting e passed.due n ∙ ap awaited k in
        let same = as_entry e (kind_of speaker) kind in
        let fits = passed_word p speaker (ap start_bad (sym same) ∙ passed.start)
        (ap (λ (x : Waiting). first_of (word_lines x p)) (sym k) ∙ passed.words) in
        let may : allowed h p ≡ true =
        sym (allowed_by_lem h p) ∙ (ap (λ (x : Speaker). allowed_by x p) there'.1.0 ∙ taken_allowed p speaker fits) in
        let due : e.kind ≡ due_kind h = kind ∙ (ap kind_of (sym there'.1.0) ∙ kind_due h) in
        record {
          from = at (hears h);
          read = there'.1.1.0;
          to = after h p;
          moved = stepped;
          steps =
              subst (λ (x : Entry). Steps (at (hears h)) x (after h p) buf stepped) (sym (as_entry e (due_kind h) due))
              (word_step_lem s.state h p buf stands may (payload p (allowed_short h p may) bytes));
          same = refl;
        }

    over : {A : Type 0} (x : Waiting) → s.state.waiting ≡ x → is_over x ≡ true → A
    over x k h = absurd (false≢true (sym passed.goes ∙ (ap is_over k ∙ h)))

    by_waiting : (x : Waiting) → s.state.waiting ≡ x → Taken es e buf s.zeros (accepted s.zeros stepped)
    unfolding is_over awaited
    by_waiting Searching k = absurd (reached_no_search s.state es there k)
    by_waiting (ForCard question) k = on_card question k
    by_waiting (ForWord speaker) k = on_word speaker k
    by_waiting (Decided outcome reason) k = over (Decided outcome reason) k refl
    by_waiting Closed k = over Closed k refl

    pub taken_event : Taken es e buf s.zeros (accepted s.zeros stepped)
    taken_event = by_waiting s.state.waiting refl

  -- a silence that is taken closes what waits for the card
  module _ (k : e.kind ≡ silence) where
    pub silence_alone : e ≡ entry silence []
    silence_alone = silent_entry s.state.waiting e passed.due k

    pub silence_taken : Silenced (closed_after s buf).session (es ++ (entry silence [] ∷ []))
    unfolding closed_after closed_state changed tvr_of tsi_of
    silence_taken =
        let q = waits_card s.state.waiting (reached_no_search s.state es there) (silent_waits s.state.waiting e passed.due k) in
        let w = reached_asked s.state es there q.0 q.1 in
        record {
          before = es;
          asked = w.0;
          awaits = run_awaits kept es w.0 w.1.0;
          leads = owes_leads kept es w.0 w.1.0;
          ends = refl;
          closed = refl;
          tvr = w.1.1.tvr;
          tsi = w.1.1.tsi;
        }

-- ---- what follows of a call that is taken
module _ (es : List Entry) (e : Entry) (buf : List ℕ) (before : ℕ) (r : Called) (room : longest ≤ length buf)
    (t : Taken es e buf before r) where
  pub taken_gives : Gives t.to buf r
  taken_gives = subst (Gives t.to buf) (sym t.same) (step_gives t.from e buf t.moved room before t.to t.steps)

  pub taken_logged : logged_by r e ≡ e ∷ ruled t.to
  taken_logged = gives_logged e t.to buf r taken_gives

  taken_stands : StandsAt r.session.state t.to
  unfolding accepted
  taken_stands = subst (λ (x : Called). StandsAt x.session.state t.to) (sym t.same) t.steps.stands

  pub taken_reached : Reached r.session.state (es ++ logged_by r e)
  unfolding accepted
  taken_reached =
      subst (λ (x : Called). Reached x.session.state (es ++ logged_by r e)) (sym t.same)
      (subst (λ (l : List Entry). Reached t.moved.state (es ++ l)) (sym taken_logged)
      (reached_on es t.from e t.to buf t.moved t.read t.steps))

  pub taken_follows : Follows es e buf r
  taken_follows =
      record {
        phase = t.to;
        leads = at_leads kept (es ++ (e ∷ [])) t.to (state_next kept es t.from e t.read (at t.to) t.steps.taken);
        gives = taken_gives;
        waits = taken_stands.waits;
        tvr = taken_stands.tvr;
        tsi = taken_stands.tsi;
        grows = taken_logged;
      }
