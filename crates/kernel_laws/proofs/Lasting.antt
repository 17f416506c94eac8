-- After any calls from fresh the session stands where its log has led the rulebook's machine, or it was closed by the silence that
-- ends its log: a call that is turned away changes neither, a silence closes, and any other that is taken is a step of the machine.
-- Assumes nothing.
use mathlib.Core.Path.{◌≡◌, sym, ap, ◌∙◌, subst}
use mathlib.Core.Bool.{true, false≢true}
use mathlib.Core.List.{List, [], ◌∷◌, ◌++◌, append-nil}
use Prim.Native.Nat.{ℕ}
use lib.Dec.{eqb}
use lib.Pow.{are_bytes}
use borrow.Author.Tests.{eqb-true, eqb-false}
use Rattle.slices.proofs.Choice.{either, and_left, and_right}
use Rattle.numbers.specs.Tables.{silence}
use Rattle.tape_read.specs.Entries.{Entry}
use Rattle.sessions.specs.Session as Under
use Rattle.rulebook.specs.Session.{Closed as ClosedLog}
use Rattle.session_phase.specs.Waiting.{awaited, is_over}
use Rattle.session_phase.specs.declared.Waiting.TheVariants.{Closed}
use Rattle.session_events.specs.Events.{step}
use Rattle.session_laws.specs.Logging.{Reached}
use Rattle.session_laws.proofs.Reaching.{reached_fresh}
use Rattle.kernel_refusals.specs.Refusals.{call_refusal}
use Rattle.kernel.specs.declared.Session.{Session}
use Rattle.kernel.specs.Calls.{Called, refused, accepted, closed_after, call, fresh_session}
use Rattle.kernel_laws.specs.Log.{Call, made, logged, logged_by, Played, after, plays_from, plays, all_bytes}
use Rattle.kernel_laws.specs.Saying.{Silenced}
use Rattle.kernel_laws.proofs.Turning.{zero_or, call_taken, call_refused, taken_silence, taken_step, passed}
use Rattle.kernel_laws.proofs.Taking.{taken_event, silence_alone, silence_taken, taken_reached}

pub data Stands (s : Session) (es : List Entry) : Type 0 where
  going : Reached s.state es → Stands s es
  shut : Silenced s es → Stands s es

-- a silence closes the log too
pub silenced_log : (s : Session) (es : List Entry) → Silenced s es → ClosedLog es
unfolding Under.Closed
silenced_log s es c = (c.before, (c.awaits, c.ends))

module _ (s : Session) (es : List Entry) (buf : List ℕ) (e : Entry) where
  -- where a call leaves the session and its log
  abbrev Left : Called → Type 0
  Left r = Stands r.session (es ++ logged_by r e)

  left_refused : Stands s es → (call_refusal s.state.waiting e buf ≡ 0 → ⊥) → Left (call s e buf)
  unfolding refused logged_by logged
  left_refused st h = subst Left (sym (call_refused s e buf h)) (subst (Stands s) (sym (append-nil es)) st)

  module _ (there : Reached s.state es) (h : call_refusal s.state.waiting e buf ≡ 0) where
    left_silent : e.kind ≡ silence → Left (call s e buf)
    unfolding closed_after logged_by logged
    left_silent k =
        let p = passed s e buf h in
        subst Left (sym (call_taken s e buf h ∙ taken_silence s e buf k))
        (subst (λ (x : Entry). Stands (closed_after s buf).session (es ++ (x ∷ []))) (sym (silence_alone s es buf there e p k))
        (shut (silence_taken s es buf there e p k)))

    left_step : are_bytes e.payload ≡ true → (e.kind ≡ silence → ⊥) → Left (call s e buf)
    left_step bytes n =
        let p = passed s e buf h in
        subst Left (sym (call_taken s e buf h ∙ taken_step s e buf n))
        (going (taken_reached es e buf s.zeros (accepted s.zeros (step s.state e.payload buf)) p.room
        (taken_event s es buf there e p bytes n)))

  -- a session that is closed takes nothing
  pub not_closed : s.state.waiting ≡ Closed → call_refusal s.state.waiting e buf ≡ 0 → ⊥
  unfolding is_over awaited
  not_closed k h = false≢true (sym (passed s e buf h).goes ∙ ap is_over k)

  by_case : are_bytes e.payload ≡ true → Stands s es → call_refusal s.state.waiting e buf ≡ 0 → Left (call s e buf)
  by_case bytes (going there) h =
      either (eqb e.kind silence)
      (λ y. left_silent there h (eqb-true e.kind silence y))
      (λ n. left_step there h bytes (eqb-false e.kind silence n))
  by_case bytes (shut c) h = absurd (not_closed c.closed h)

  pub stands_call : are_bytes e.payload ≡ true → Stands s es → Left (call s e buf)
  stands_call bytes st = zero_or (call_refusal s.state.waiting e buf) (by_case bytes st) (left_refused st)

-- from call to call
pub stands_from : (cs : List Call) (p : Played) → all_bytes cs ≡ true → Stands p.session p.log
    → Stands (plays_from p cs).session (plays_from p cs).log
unfolding plays_from all_bytes after made
stands_from [] p bytes st = st
stands_from (c ∷ cs) p bytes st =
    stands_from cs (after p c) (and_right (are_bytes c.event.payload) (all_bytes cs) bytes)
    (stands_call p.session p.log c.buffer c.event (and_left (are_bytes c.event.payload) (all_bytes cs) bytes) st)

pub stands_plays : (cs : List Call) → all_bytes cs ≡ true → Stands (plays cs).session (plays cs).log
unfolding plays fresh_session
stands_plays cs bytes = stands_from cs (record { session = fresh_session; log = [] }) bytes (going reached_fresh)
