-- A call that is turned away changes nothing, whatever the session: the refusals come first, and no call that passes them is
-- answered with a number.
-- Assumes nothing.
use mathlib.Core.Path.{◌≡◌, sym, ap, ◌∙◌}
use mathlib.Core.Bool.{false, false≢true}
use mathlib.Core.List.{List, ◌++◌, append-nil}
use Prim.Native.Nat.{ℕ}
use native.Mathlib.Omega.{arith}
use lib.Dec.{eqb}
use lib.ListN.{length}
use borrow.Author.Tests.{eqb-true, eqb-false}
use Rattle.slices.proofs.Choice.{either}
use Rattle.numbers.specs.Tables.{silence}
use Rattle.tape_read.specs.Entries.{Entry}
use Rattle.rulebook.specs.Phase.{Phase, asks, hears, decides, terminal, says}
use Rattle.rulebook.specs.Turn.{turn, after as after_word}
use Rattle.session_phase.specs.Waiting.{awaited, is_over}
use Rattle.session_phase.specs.declared.Speaker.TheVariants.{Terminal, Says, Shopper}
use Rattle.session_phase.specs.declared.Waiting.{Waiting}
use Rattle.session_phase.specs.declared.Waiting.TheVariants.{Searching, ForCard, ForWord, Decided, Closed}
use Rattle.session_phase.specs.declared.Reply.TheVariants.{Closed as ClosedReply, Refused}
use Rattle.session_state.specs.Reading.{late, asked_by}
use Rattle.session_moves.specs.Moves.{reply_in, moved, shut}
use Rattle.session_events.specs.Events.{answer_step, word_step, step_at, step}
use Rattle.kernel_refusals.specs.Refusals.{call_refusal}
use Rattle.kernel.specs.declared.Session.{Session}
use Rattle.kernel.specs.Calls.{Called, accepted, refused, closed_after, call}
use Rattle.kernel_laws.specs.Log.{Call, made, logged, logged_by, Played, after}
use Rattle.kernel_laws.specs.Saying.{Unchanged}
use Rattle.kernel_laws.proofs.Turning.{zero_or, call_taken, call_refused, taken_silence, taken_step, passed}

-- no phase is answered with a number
no_number : (p : Phase) (room n : ℕ) → reply_in room p ≡ Refused n → ⊥
unfolding reply_in
no_number (asks w) room n e = let z : ◌≡◌ {A = ℕ} 0 1 = cc e in omega arith
no_number (hears h) room n e = let z : ◌≡◌ {A = ℕ} 0 1 = cc e in omega arith
no_number (decides outcome reason z) room n e = let z : ◌≡◌ {A = ℕ} 0 1 = cc e in omega arith

-- nor is a session that is closed
no_refusal : (n : ℕ) → ClosedReply ≡ Refused n → ⊥
no_refusal n e = let z : ◌≡◌ {A = ℕ} 0 1 = cc e in omega arith

module _ (s : Session) (e : Entry) (buf : List ℕ) where
  step_reply : (x : Waiting) → is_over x ≡ false → (n : ℕ) → (step_at x s.state e.payload buf).reply ≡ Refused n → ⊥
  unfolding step_at answer_step word_step moved shut is_over awaited
  step_reply Searching g n h = no_refusal n h
  step_reply (ForCard question) g n h = no_number (turn (asked_by question s.state) e.payload) (length buf) n h
  step_reply (ForWord Terminal) g n h = no_number (after_word terminal e.payload) (length buf) n h
  step_reply (ForWord (Says word count)) g n h = no_number (after_word (says word (late s.state)) e.payload) (length buf) n h
  step_reply (ForWord (Shopper shown)) g n h = no_refusal n h
  step_reply (Decided outcome reason) g n h = false≢true (sym g)
  step_reply Closed g n h = false≢true (sym g)

  taken_reply : call_refusal s.state.waiting e buf ≡ 0 → (n : ℕ) → (call s e buf).reply ≡ Refused n → ⊥
  unfolding closed_after accepted step
  taken_reply z n h =
      let here = call_taken s e buf z in
      either (eqb e.kind silence)
      (λ y.
      let closes = ap (λ (r : Called). r.reply) (here ∙ taken_silence s e buf (eqb-true e.kind silence y)) in
      let clash = sym closes ∙ h in
      let k : ◌≡◌ {A = ℕ} 0 1 = cc clash in
      omega arith)
      (λ m.
      let steps = ap (λ (r : Called). r.reply) (here ∙ taken_step s e buf (eqb-false e.kind silence m)) in
      step_reply s.state.waiting (passed s e buf z).goes n (sym steps ∙ h))

  -- a number is always the refusals' own
  pub number_of : (n : ℕ) → (call s e buf).reply ≡ Refused n
      → (call_refusal s.state.waiting e buf ≡ n) × (call_refusal s.state.waiting e buf ≡ 0 → ⊥)
  unfolding refused
  number_of n h =
      zero_or (call_refusal s.state.waiting e buf)
      (λ z. absurd (taken_reply z n h))
      (λ k.
      let same : Refused (call_refusal s.state.waiting e buf) ≡ Refused n =
      sym (ap (λ (r : Called). r.reply) (call_refused s e buf k)) ∙ h in
      (cc same, k))

-- ---- turned away
module _ (s : Session) (c : Call) where
  pub turned_away : (call_refusal s.state.waiting c.event c.buffer ≡ 0 → ⊥) → Unchanged s c
  unfolding made refused logged_by logged
  turned_away h =
      let same = call_refused s c.event c.buffer h in
      record {
        session = ap (λ (r : Called). r.session) same;
        buffer = ap (λ (r : Called). r.buffer) same;
        log = ap (λ (r : Called). logged_by r c.event) same;
      }

  pub refused_unchanged : (n : ℕ) → (made s c).reply ≡ Refused n → Unchanged s c
  unfolding made
  refused_unchanged n h = turned_away (number_of s c.event c.buffer n h).1

-- so the session and its log stay as they were
pub unchanged_after : (p : Played) (c : Call) → Unchanged p.session c → after p c ≡ p
unfolding after
unchanged_after p c u =
    λ i. record { session = u.session i; log = (ap (λ (l : _). p.log ++ l) u.log ∙ append-nil p.log) i }
