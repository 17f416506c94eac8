-- What a call gives is what the rulebook's phase names: the step stands at the phase, its command fits the buffer, and DECISION is read
-- off the state that stands there. So the log grows by the entries that the rulebook asks for.
-- Assumes nothing.
use mathlib.Core.Path.{◌≡◌, refl, sym, ap, ◌∙◌}
use mathlib.Core.List.{List, [], ◌∷◌, ◌++◌}
use Prim.Native.Nat.{ℕ, ◌≤◌}
use native.Mathlib.Omega.{arith}
use lib.ListN.{length, take, drop}
use lib.Seq.{drop_at}
use Rattle.slices.proofs.Writing.{put_start, laid_fits}
use Rattle.numbers.specs.Tables.{command, decision}
use Rattle.tape_read.specs.Entries.{Entry, entry}
use Rattle.commands.specs.Commands.{longest}
use Rattle.rulebook.specs.Situation.{Situation}
use Rattle.rulebook.specs.Phase.{Asked, Phase, asks, hears, decides, command_of, decision_of}
use Rattle.rulebook.specs.Machine.{Machine}
use Rattle.session_phase.specs.Waiting.{outcome_of, reason_of}
use Rattle.session_phase.specs.declared.Waiting.{Waiting}
use Rattle.session_phase.specs.declared.Reply.{Reply}
use Rattle.session_state.specs.Results.{decision_in}
use Rattle.session_state.specs.declared.State.{State}
use Rattle.session_moves.specs.Moves.{Moved, kept_as, reply_in, buffer_in}
use Rattle.session_laws.specs.Agreeing.{StandsAt}
use Rattle.session_laws.specs.Logging.{logged as ruled, Follows as Steps}
use Rattle.session_laws.proofs.Standing.{stands_decision}
use Rattle.session_laws.proofs.Commanding.{command_most, command_reply, command_there}
use Rattle.kernel.specs.Calls.{Called, accepted}
use Rattle.kernel_laws.specs.Log.{logged, logged_by}
use Rattle.kernel_laws.specs.Saying.{Gives}

-- behind a command that fits, the buffer is as it was
command_rest : (w : Asked) (buf : List ℕ) → length (command_of w) ≤ length buf
    → drop (length (command_of w)) (buffer_in (asks w) buf) ≡ drop (length (command_of w)) buf
unfolding buffer_in
command_rest w buf fits =
    ap (drop (length (command_of w))) (laid_fits (command_of w) 0 buf (omega arith) ∙ put_start (command_of w) buf)
    ∙ drop_at (command_of w) _ (length (command_of w)) refl

-- DECISION read off a state that stands at a decision
pub decision_read : (s : State) (outcome reason : ℕ) (z : Situation) → StandsAt s (decides outcome reason z)
    → decision_in s ≡ decision_of outcome reason z
unfolding decision_in outcome_of reason_of kept_as
decision_read s outcome reason z h =
    ap (λ (x : Waiting). outcome_of x ∷ reason_of x ∷ (s.tvr ++ s.tsi)) h.waits ∙ sym (stands_decision s outcome reason z h)

module _ (σ : Machine) (e : Entry) (buf : List ℕ) (m : Moved) (room : longest ≤ length buf) where
  pub step_gives : (zeros : ℕ) (p : Phase) → Steps σ e p buf m → Gives p buf (accepted zeros m)
  unfolding Gives accepted reply_in buffer_in
  step_gives zeros (asks w) f =
      let most = command_most m.state w f.stands in
      let fits : length (command_of w) ≤ length buf = omega arith in (
        f.reply ∙ command_reply w buf fits,
        ap (take (length (command_of w))) f.buffer ∙ command_there w buf fits,
        ap (drop (length (command_of w))) f.buffer ∙ command_rest w buf fits,
      )
  step_gives zeros (hears h) f = (f.reply, f.buffer)
  step_gives zeros (decides outcome reason z) f = (f.reply, decision_read m.state outcome reason z f.stands, f.buffer)

-- what is logged is the event, and the command or the decision of the phase
pub gives_logged : (e : Entry) (p : Phase) (buf : List ℕ) (r : Called) → Gives p buf r → logged_by r e ≡ e ∷ ruled p
unfolding Gives logged_by logged ruled
gives_logged e (asks w) buf r h = ap (λ (x : Reply). logged x r e) h.0 ∙ ap (λ (c : List ℕ). e ∷ entry command c ∷ []) h.1
gives_logged e (hears w) buf r h = ap (λ (x : Reply). logged x r e) h.0
gives_logged e (decides outcome reason z) buf r h =
    ap (λ (x : Reply). logged x r e) h.0 ∙ ap (λ (d : List ℕ). e ∷ entry decision d ∷ []) h.1
