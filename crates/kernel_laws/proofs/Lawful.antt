-- After any calls from fresh, taken and turned away, the log is a session of the rulebook exactly where the kernel has decided, and
-- open everywhere else: the machine has read the log to its end just there, and a silence leaves it open.
-- Assumes nothing.
use mathlib.Core.Path.{◌≡◌, refl, sym, ap, ◌∙◌}
use mathlib.Core.Bool.{true, false, false≢true}
use mathlib.Core.List.{List}
use mathlib.Core.Logic.{inr, ⊎_elim}
use mathlib.Core.Option.{some}
use Prim.Native.Nat.{ℕ}
use native.Mathlib.Omega.{arith}
use Rattle.slices.proofs.Choice.{either}
use Rattle.tape_read.specs.Entries.{Entry}
use Rattle.sessions.specs.Session as Under
use Rattle.sessions.proofs.Running.{session_run}
use Rattle.sessions.proofs.Reading.{not_closed}
use Rattle.sessions.proofs.Trichotomy.{one_sort}
use Rattle.sessions.proofs.States.{state_lawful}
use Rattle.rulebook.specs.Phase.{Phase, asks, hears, decides}
use Rattle.rulebook.specs.Session.{rules, Session as WholeSession, Open}
use Rattle.rulebook.specs.Machine.{done}
use Rattle.rulebook.proofs.Kept.{kept}
use Rattle.session_phase.specs.Waiting.{is_decided}
use Rattle.session_phase.specs.declared.Waiting.{Waiting}
use Rattle.session_phase.specs.declared.Waiting.TheVariants.{Searching, ForCard, ForWord, Decided, Closed}
use Rattle.session_state.specs.declared.State.{State}
use Rattle.session_moves.specs.Moves.{kept_as}
use Rattle.session_laws.specs.Agreeing.{StandsAt}
use Rattle.session_laws.specs.Logging.{landing, Reached}
use Rattle.session_laws.proofs.Reaching.{reached_decided}
use Rattle.kernel.specs.declared.Session.{Session}
use Rattle.kernel_laws.specs.Log.{Call, plays, all_bytes}
use Rattle.kernel_laws.specs.Saying.{Lawfully}
use Rattle.kernel_laws.proofs.Lasting.{Stands, going, shut, silenced_log, stands_plays}

is_decided_lem : (x : Waiting) → is_decided x ≡ true → (outcome : ℕ) × ((reason : ℕ) × (x ≡ Decided outcome reason))
unfolding is_decided
is_decided_lem Searching e = absurd (false≢true e)
is_decided_lem (ForCard question) e = absurd (false≢true e)
is_decided_lem (ForWord speaker) e = absurd (false≢true e)
is_decided_lem (Decided outcome reason) e = (outcome, (reason, refl))
is_decided_lem Closed e = absurd (false≢true e)

-- the machine is at its end only after a decision
decided_there : (s : State) (p : Phase) → StandsAt s p → landing p ≡ done → is_decided s.waiting ≡ true
unfolding landing kept_as is_decided
decided_there s (asks w) h e = absurd (let z : ◌≡◌ {A = ℕ} 0 1 = cc e in omega arith)
decided_there s (hears w) h e = absurd (let z : ◌≡◌ {A = ℕ} 0 1 = cc e in omega arith)
decided_there s (decides outcome reason z) h e = ap is_decided h.waits

module _ (s : Session) (es : List Entry) where
  module _ (there : Reached s.state es) where
    going_finished : is_decided s.state.waiting ≡ true → WholeSession es
    going_finished e =
        let d = is_decided_lem s.state.waiting e in
        reached_decided s.state es there d.0 d.1.0 d.1.1

    going_decided : WholeSession es → is_decided s.state.waiting ≡ true
    going_decided play =
        let same : some (landing there.phase) ≡ some done = sym there.read ∙ session_run rules es play in
        decided_there s.state there.phase there.stands (cc same)

    going_open : is_decided s.state.waiting ≡ false → Open es
    unfolding Under.Lawful
    going_open n =
        ⊎_elim (λ play. absurd (false≢true (sym n ∙ going_decided play))) (λ o. o)
        (state_lawful kept es (landing there.phase) there.read)

  shut_undecided : s.state.waiting ≡ Closed → is_decided s.state.waiting ≡ false
  unfolding is_decided
  shut_undecided k = ap is_decided k

  pub stands_lawful : Stands s es → Lawfully s es
  unfolding Under.Open
  stands_lawful (going there) =
      record {
        finished = going_finished there;
        decided = going_decided there;
        unfinished = going_open there;
        undecided = λ o. either (is_decided s.state.waiting) (λ y. absurd (one_sort kept es (going_finished there y) o)) (λ n. n);
      }
  stands_lawful (shut c) =
      record {
        finished = λ e. absurd (false≢true (sym (shut_undecided c.closed) ∙ e));
        decided = λ play. absurd (not_closed kept es play (silenced_log s es c));
        unfinished = λ n. inr (silenced_log s es c);
        undecided = λ o. shut_undecided c.closed;
      }

pub any_calls : (cs : List Call) → all_bytes cs ≡ true → Lawfully (plays cs).session (plays cs).log
any_calls cs bytes = stands_lawful (plays cs).session (plays cs).log (stands_plays cs bytes)
