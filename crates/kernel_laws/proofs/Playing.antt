-- Whatever the rulebook's machine reads, the kernel plays: the events, handed to it one after the other with any buffers of 261 bytes,
-- are all taken, and the commands and the decision between them are the ones that the kernel gives. So every session of the rulebook
-- whose START the kernel takes is the log of a kernel session.
-- Assumes nothing.
use mathlib.Core.Path.{◌≡◌, refl, sym, ap, ◌∙◌, subst}
use mathlib.Core.Bool.{true, false}
use mathlib.Core.List.{List, [], ◌∷◌, ◌++◌, append_assoc, append-nil}
use mathlib.Core.Option.{Option, some}
use Prim.Native.Nat.{ℕ, ◌≤◌}
use native.Mathlib.Omega.{arith}
use lib.ListN.{length}
use Rattle.slices.specs.Tests.{alike}
use Rattle.slices.proofs.Choice.{pick_yes, pick_no}
use Rattle.slices.proofs.Comparing.{alike_same}
use Rattle.numbers.specs.Tables.{command, answer, silence, decision}
use Rattle.tape_read.specs.Entries.{Entry, entry}
use Rattle.commands.specs.Commands.{longest}
use Rattle.sessions.specs.Session.{is_payload}
use Rattle.sessions.specs.Machine.{due, sayable, next, run}
use Rattle.sessions.proofs.Payloads.{payload_most_lem}
use Rattle.sessions.proofs.Running.{due_entry, due_test, said_allowed, said_payload, chosen, taken, no_state, session_run}
use Rattle.rulebook.specs.Situation.{Situation}
use Rattle.rulebook.specs.Phase.{Asked, Heard, terminal, says, Phase, opens}
use Rattle.rulebook.specs.Phase.{asks, hears, decides, command_of, due_kind, decision_of}
use Rattle.rulebook.specs.Turn.{opened, turn, allowed, after as after_word}
use Rattle.rulebook.specs.Session.{rules, Session as WholeSession}
use Rattle.rulebook.specs.Machine.{Machine, at, owes, done}
use Rattle.rulebook.specs.Roles.{given, begins}
use Rattle.rulebook.proofs.Passing.{Holds, anything_lasts, turn_holds, after_holds}
use Rattle.dol_fill.specs.Filled.{summed}
use Rattle.session_moves.specs.Moves.{Moved, question_of, speaker_of, kept_as}
use Rattle.session_events.specs.Events.{step}
use Rattle.session_laws.specs.Agreeing.{Agrees}
use Rattle.session_laws.specs.Logging.{logged as ruled, landing, Follows as Steps}
use Rattle.session_laws.proofs.Words.{no_silence, not_given, kind_due}
use Rattle.session_laws.proofs.Stepping.{fresh_stands, lands_at, answer_step_lem, word_step_lem}
use Rattle.kernel_refusals.specs.Refusals.{call_refusal}
use Rattle.kernel.specs.declared.Session.{Session}
use Rattle.kernel.specs.Calls.{Called, accepted, fresh_session}
use Rattle.kernel_laws.specs.Log.{Call, made, logged_by, Played, after, plays_from, plays}
use Rattle.kernel_laws.specs.Replay.{calls_in}
use Rattle.kernel_laws.proofs.Turning.{call_taken, taken_step}
use Rattle.kernel_laws.proofs.Giving.{step_gives, gives_logged}
use Rattle.kernel_laws.proofs.Admitting.{answer_free, word_free}
use Rattle.kernel_laws.proofs.Words.{taken_by}

-- what the kernel has logged before the machine has read it
unfoldable pub pending : Machine → List Entry
pending (at p) = ruled p
pending (owes w) = []
pending done = []

module _ (buf : List ℕ) where
  -- an entry of the kernel's own is no call, and any other is one
  pub own_entry : (e : Entry) (es : List Entry) → given e ≡ true → calls_in buf (e ∷ es) ≡ calls_in buf es
  unfolding calls_in
  own_entry e es g = pick_yes _ _ _ g

  pub event_entry : (e : Entry) (es : List Entry) → given e ≡ false
      → calls_in buf (e ∷ es) ≡ record { event = e; buffer = buf } ∷ calls_in buf es
  unfolding calls_in
  event_entry e es g = pick_no _ _ _ g

-- the entry of a word is an event
pub word_event : (h : Heard) (p : List ℕ) → given (entry (due_kind h) p) ≡ false
word_event h p = ap (λ (k : ℕ). given (entry k p)) (sym (kind_due h)) ∙ not_given (speaker_of h) p

-- a START that is still to come is one that the kernel takes; nowhere later does the machine wait for one
abbrev pub Willing : Machine → List Entry → Type 0
Willing (at (asks w)) es = Unit {0}
Willing (at (hears terminal)) es = begins es ≡ true
Willing (at (hears (says word z))) es = Unit {0}
Willing (at (decides outcome reason z)) es = Unit {0}
Willing (owes w) es = Unit {0}
Willing done es = Unit {0}

abbrev Anything : Situation → Type 0
Anything z = Unit {0}

later : (p : Phase) → Holds Anything p → (es : List Entry) → Willing (at p) es
unfolding Holds
later (asks w) h es = tt
later (hears terminal) h es = absurd h
later (hears (says word z)) h es = tt
later (decides outcome reason z) h es = tt

turn_willing : (w : Asked) (a : List ℕ) (es : List Entry) → Willing (at (turn w a)) es
turn_willing w a es = later (turn w a) (turn_holds Anything anything_lasts w a tt) es

word_willing : (h : Heard) (p : List ℕ) (es : List Entry) → Willing (at (after_word h p)) es
unfolding after_word opened
word_willing terminal p es = tt
word_willing (says word z) p es = later _ (after_holds Anything word z p tt) es

-- what may be said there, the kernel takes
word_taken : (h : Heard) (e : Entry) (es : List Entry) → allowed h e.payload ≡ true → Willing (at (hears h)) (e ∷ es)
    → taken_by (speaker_of h) e.payload ≡ true
unfolding taken_by speaker_of begins allowed
word_taken terminal e es fits w = w
word_taken (says word z) e es fits w = fits

module _ (buf : List ℕ) (room : longest ≤ length buf) where
  -- the kernel plays entries from a state of the machine to another: its log grows by them, and by what is pending at the end
  abbrev Goes : Machine → List Entry → Machine → Type 0
  Goes σ es τ =
      (s : Session) → Agrees s.state σ → (log : List Entry)
      → (plays_from (record { session = s; log = log ++ pending σ }) (calls_in buf es)).log ≡ (log ++ es) ++ pending τ

  longer : (log es : List Entry) (e : Entry) (τ : Machine) → ((log ++ (e ∷ [])) ++ es) ++ pending τ ≡ (log ++ (e ∷ es)) ++ pending τ
  longer log es e τ = ap (λ (l : List Entry). l ++ pending τ) (append_assoc log (e ∷ []) es)

  -- ---- an event that is taken
  module _ (s : Session) (e : Entry) (σ : Machine) (p : Phase) (m : Moved) (free : call_refusal s.state.waiting e buf ≡ 0)
      (same : made s (record { event = e; buffer = buf }) ≡ accepted s.zeros m) (steps : Steps σ e p buf m)
      (event : given e ≡ false) where
    abbrev one : Call
    one = record { event = e; buffer = buf }

    abbrev further : List Entry → Played
    further log = record { session = record { state = m.state; zeros = summed s.zeros m.zeros }; log = log }

    after_one : (log : List Entry) → after (record { session = s; log = log }) one ≡ further (log ++ (e ∷ ruled p))
    unfolding after accepted
    after_one log =
        ap (λ (r : Called). record { session = r.session; log = log ++ logged_by r e }) same
        ∙ ap (λ (l : List Entry). further (log ++ l))
        (gives_logged e p buf (accepted s.zeros m) (step_gives σ e buf m room s.zeros p steps))

    goes_one : (es : List Entry) (τ : Machine) → Goes (at p) es τ → (log : List Entry)
        → (plays_from (record { session = s; log = log ++ [] }) (calls_in buf (e ∷ es))).log ≡ (log ++ (e ∷ es)) ++ pending τ
    unfolding plays_from Agrees pending
    goes_one es τ rest log =
        ap (λ (cs : List Call). (plays_from (record { session = s; log = log ++ [] }) cs).log) (event_entry buf e es event)
        ∙ (ap (λ (q : Played). (plays_from q (calls_in buf es)).log)
        (after_one (log ++ [])
        ∙ ap further (ap (λ (l : List Entry). l ++ (e ∷ ruled p)) (append-nil log) ∙ sym (append_assoc log (e ∷ []) (ruled p))))
        ∙ (rest (record { state = m.state; zeros = summed s.zeros m.zeros }) steps.stands (log ++ (e ∷ [])) ∙ longer log es e τ))

  -- a call that is taken and is no silence
  steps_as : (s : Session) (e : Entry) → call_refusal s.state.waiting e buf ≡ 0 → (e.kind ≡ silence → ⊥)
      → made s (record { event = e; buffer = buf }) ≡ accepted s.zeros (step s.state e.payload buf)
  unfolding made
  steps_as s e free n = call_taken s e buf free ∙ taken_step s e buf n

  answer_goes : (w : Asked) (a : List ℕ) (es : List Entry) (τ : Machine) → is_payload a ≡ true → Goes (at (turn w a)) es τ
      → Goes (owes w) (entry answer a ∷ es) τ
  unfolding pending Agrees kept_as given
  answer_goes w a es τ ok rest s h log =
      let e = entry answer a in
      let free = answer_free s buf room (question_of w) h.waits a (payload_most_lem a ok) in
      goes_one s e (owes w) (turn w a) (step s.state a buf) free (steps_as s e free (λ k. omega arith))
      (answer_step_lem s.state w a buf h ok) refl
      es τ rest log

  word_goes : (h : Heard) (p : List ℕ) (es : List Entry) (τ : Machine) → allowed h p ≡ true → taken_by (speaker_of h) p ≡ true
      → is_payload p ≡ true → Goes (at (after_word h p)) es τ
      → Goes (at (hears h)) (entry (due_kind h) p ∷ es) τ
  unfolding pending ruled Agrees kept_as
  word_goes h p es τ fits takes ok rest s stands log =
      let e = entry (due_kind h) p in
      let free : call_refusal s.state.waiting e buf ≡ 0 =
      ap (λ (k : ℕ). call_refusal s.state.waiting (entry k p) buf) (sym (kind_due h))
      ∙ word_free s buf room (speaker_of h) stands.waits p takes
      in
      goes_one s e (at (hears h)) (after_word h p) (step s.state p buf) free
      (steps_as s e free (λ k. no_silence (speaker_of h) (kind_due h ∙ k)))
      (word_step_lem s.state h p buf stands fits ok) (word_event h p) es τ rest log

  -- ---- an entry of the kernel's own: it was pending
  own_goes : (s : Session) (e : Entry) (es : List Entry) (τ : Machine) (log : List Entry) → given e ≡ true
      → (plays_from (record { session = s; log = (log ++ (e ∷ [])) ++ [] }) (calls_in buf es)).log ≡ ((log ++ (e ∷ [])) ++ es) ++ pending τ
      → (plays_from (record { session = s; log = log ++ (e ∷ []) }) (calls_in buf (e ∷ es))).log ≡ (log ++ (e ∷ es)) ++ pending τ
  own_goes s e es τ log g rest =
      ap (λ (cs : List Call). (plays_from (record { session = s; log = log ++ (e ∷ []) }) cs).log) (own_entry buf e es g)
      ∙ (ap (λ (l : List Entry). (plays_from (record { session = s; log = l }) (calls_in buf es)).log) (sym (append-nil (log ++ (e ∷ []))))
      ∙ (rest ∙ longer log es e τ))

  command_goes : (w : Asked) (es : List Entry) (τ : Machine) → Goes (owes w) es τ → Goes (at (asks w)) (entry command (command_of w) ∷ es) τ
  unfolding pending ruled Agrees given
  command_goes w es τ rest s h log =
      own_goes s (entry command (command_of w)) es τ log refl (rest s h (log ++ (entry command (command_of w) ∷ [])))

  decision_goes : (outcome reason : ℕ) (z : Situation) (es : List Entry) (τ : Machine) → Goes done es τ
      → Goes (at (decides outcome reason z)) (entry decision (decision_of outcome reason z) ∷ es) τ
  unfolding pending ruled Agrees landing given
  decision_goes outcome reason z es τ rest s h log =
      let e = entry decision (decision_of outcome reason z) in
      own_goes s e es τ log refl (rest s (lands_at s.state (decides outcome reason z) h) (log ++ (e ∷ [])))

  -- ---- whatever the machine takes
  abbrev Onward : List Entry → Machine → Type 0
  Onward es τ = (σ : Machine) → run rules es σ ≡ some τ → Willing σ es → Goes σ es τ

  module _ (es : List Entry) (τ : Machine) (on : Onward es τ) where
    -- the machine's next state is known
    settled : (σ σ' : Machine) (o : Option Machine) → o ≡ some σ → o ≡ some σ' → run rules es σ ≡ some τ → Willing σ' es → Goes σ' es τ
    settled σ σ' o a b r w =
        let same : some σ ≡ some σ' = sym a ∙ b in
        on σ' (subst (λ (x : Machine). run rules es x ≡ some τ) (cc same) r) w

    by_state : (e : Entry) (σ ρ : Machine) → next rules σ e ≡ some ρ → run rules es ρ ≡ some τ → Willing σ (e ∷ es) → Goes σ (e ∷ es) τ
    unfolding next
    by_state e (at (asks w)) ρ h r will =
        let c = chosen (due command (alike e.payload (command_of w)) e) (some (owes w)) ρ h in
        let same = alike_same e.payload (command_of w) (due_test command _ e c.0) in
        subst (λ (x : Entry). Goes (at (asks w)) (x ∷ es) τ) (sym (due_entry command _ e c.0 ∙ ap (entry command) same))
        (command_goes w es τ (settled ρ (owes w) _ c.1 refl r tt))
    by_state e (at (hears h)) ρ n r will =
        let p = e.payload in
        let c = chosen (due (due_kind h) (sayable rules h p) e) (some (at (after_word h p))) ρ n in
        let said = due_test (due_kind h) _ e c.0 in
        subst (λ (x : Entry). Goes (at (hears h)) (x ∷ es) τ) (sym (due_entry (due_kind h) _ e c.0))
        (word_goes h p es τ (said_allowed rules h p said) (word_taken h e es (said_allowed rules h p said) will)
        (said_payload rules h p said)
        (settled ρ (at (after_word h p)) _ c.1 refl r (word_willing h p es)))
    by_state e (at (decides outcome reason z)) ρ h r will =
        let c = chosen (due decision (alike e.payload (decision_of outcome reason z)) e) (some done) ρ h in
        let same = alike_same e.payload (decision_of outcome reason z) (due_test decision _ e c.0) in
        subst (λ (x : Entry). Goes (at (decides outcome reason z)) (x ∷ es) τ)
        (sym (due_entry decision _ e c.0 ∙ ap (entry decision) same))
        (decision_goes outcome reason z es τ (settled ρ done _ c.1 refl r tt))
    by_state e (owes w) ρ h r will =
        let c = chosen (due answer (is_payload e.payload) e) (some (at (turn w e.payload))) ρ h in
        subst (λ (x : Entry). Goes (owes w) (x ∷ es) τ) (sym (due_entry answer _ e c.0))
        (answer_goes w e.payload es τ (due_test answer _ e c.0) (settled ρ (at (turn w e.payload)) _ c.1 refl r
        (turn_willing w e.payload es)))
    by_state e done ρ h r will = no_state ρ h

  goes : (es : List Entry) (τ : Machine) → Onward es τ
  unfolding run calls_in plays_from
  goes [] τ σ h will =
      let same : σ ≡ τ = cc h in
      λ s a log. ap (λ (x : Machine). log ++ pending x) same ∙ ap (λ (l : List Entry). l ++ pending τ) (sym (append-nil log))
  goes (e ∷ es) τ σ h will =
      let t = taken (run rules es) (next rules σ e) τ h in
      by_state es τ (goes es τ) e σ t.0 t.1.0 t.1.1 will

  -- from fresh: the entries that were read, and what is pending
  pub read_played : (es : List Entry) (τ : Machine) → run rules es (at opens) ≡ some τ → begins es ≡ true
      → (plays (calls_in buf es)).log ≡ es ++ pending τ
  unfolding plays fresh_session Agrees pending ruled
  read_played es τ h begun = goes es τ (at opens) h begun fresh_session fresh_stands []

  -- a whole session leaves nothing pending
  pub session_played : (es : List Entry) → WholeSession es → begins es ≡ true → (plays (calls_in buf es)).log ≡ es
  unfolding pending
  session_played es whole begun = read_played es done (session_run rules es whole) begun ∙ append-nil es
