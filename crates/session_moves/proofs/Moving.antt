-- How a step of the code is the step of the definition: the state waits for what the phase says, and the command is the phase's.
-- Assumes nothing.
use mathlib.Core.Path.{◌≡◌, sym, ap, ◌∙◌}
use mathlib.Core.List.{List}
use Prim.Native.Nat.{ℕ, ◌≤◌, ◌<◌, ◌%◌}
use native.Mathlib.Nat.{mod-eq_of_lt}
use native.Mathlib.Omega.{arith}
use lib.ListN.{length, take}
use lib.Seq.{length-take-le}
use borrow.Author.Tests.{eq-eqb, ne_eqb}
use Rattle.slices.specs.Writing.{laid}
use Rattle.slices.proofs.Choice.{pick_yes, pick_no}
use Rattle.commands.specs.Commands.{size_in}
use Rattle.answer_afl.specs.declared.cursor.Cursor.{Cursor}
use Rattle.rulebook.specs.Situation.{Situation}
use Rattle.rulebook.specs.Phase.{Asked, Heard, Phase, asks, hears, decides, situation_of, command_of, due_kind, tvr_of, tsi_of, ended}
use Rattle.rulebook.specs.Turn.{goes_on}
use Rattle.rulebook_zeros.specs.Zeros.{unsupplied_asking, unsupplied_in}
use Rattle.session_state.specs.Reading.{situation_with, early, late}
use Rattle.session_records.specs.Runs.{longest, in_run}
use Rattle.session_state.specs.Keeping.{changed}
use Rattle.session_records.specs.declared.Run.{Run}
use Rattle.session_state.specs.declared.State.{State}
use Rattle.session_phase.specs.declared.Waiting.TheVariants.{ForCard, ForWord, Decided, Closed}
use Rattle.session_phase.specs.declared.Reply.TheVariants.{Command, Due, Decided as DecidedReply, Closed as ClosedReply, Refused}
use Rattle.session_moves.specs.declared.Step.{Step}
use Rattle.session_moves.specs.Moves.{played, question_of, speaker_of, kept_as, cursor_asking, cursor_after}
use Rattle.session_moves.specs.Moves.{standing, reply_in, buffer_in, moved, unmoved, shut, waiting_for, asked_for}

-- the bytes of a run, as the code cuts them out
module _ (r : Run) (n : ℕ) (b : List ℕ) (same : b ≡ r.bytes) (part : take n r.bytes ≡ in_run r) where
  pub run_part : take n b ≡ in_run r
  run_part = ap (take n) same ∙ part

  pub run_count : n ≤ longest → length r.bytes ≡ longest → n ≡ length (take n b)
  run_count h e = let l = ap length same in sym (length-take-le n b (omega arith))

-- a reason that is not 0 ends the session, and with 0 it goes on
pub goes_ended : (reason : ℕ) (z : Situation) (p : Phase) → (reason ≡ 0 → ⊥) → goes_on reason z p ≡ ended reason z
unfolding goes_on
goes_ended reason z p h = pick_no _ _ _ (ne_eqb reason 0 h)

pub goes_next : (reason : ℕ) (z : Situation) (p : Phase) → reason ≡ 0 → goes_on reason z p ≡ p
unfolding goes_on
goes_next reason z p h = pick_yes _ _ _ (eq-eqb reason 0 h)

module _ (why reason : ℕ) (z : Situation) (p : Phase) (s : State) (buf : List ℕ) (e : why ≡ reason) where
  reason_ended : (why ≡ 0 → ⊥) → moved (goes_on reason z p) s buf ≡ moved (decides 3 why z) s buf
  unfolding ended
  reason_ended h = ap (λ (n : ℕ). moved (goes_on n z p) s buf) (sym e) ∙ ap (λ (q : Phase). moved q s buf) (goes_ended why z p h)

  pub reason_next : why ≡ 0 → moved (goes_on reason z p) s buf ≡ moved p s buf
  reason_next h = ap (λ (q : Phase). moved q s buf) (goes_next reason z p (sym e ∙ h))

module _ (s : State) (buf : List ℕ) where
  -- a step to a decision
  module _ (outcome reason : ℕ) {r : Step} (e : r ≡ waiting_for (Decided outcome reason) DecidedReply s) where
    pub late_decided : played r buf ≡ moved (decides outcome reason (late s)) s buf
    unfolding played waiting_for moved standing kept_as cursor_after reply_in buffer_in unsupplied_in tvr_of tsi_of late situation_with
    late_decided = ap (λ (x : Step). played x buf) e

    pub early_decided : played r buf ≡ moved (decides outcome reason (early s)) s buf
    unfolding played waiting_for moved standing kept_as cursor_after reply_in buffer_in unsupplied_in tvr_of tsi_of early situation_with
    early_decided = ap (λ (x : Step). played x buf) e

  -- to somebody else's word
  pub hearing : (h : Heard) {r : Step} → r ≡ waiting_for (ForWord (speaker_of h)) (Due (due_kind h)) s → s.tvr ≡ tvr_of (hears h)
      → s.tsi ≡ tsi_of (hears h)
      → played r buf ≡ moved (hears h) s buf
  unfolding played waiting_for moved standing kept_as cursor_after reply_in buffer_in unsupplied_in
  hearing h e t u =
      ap (λ (x : Step). played x buf) e
      ∙ (λ i. record {
        state = changed (ForWord (speaker_of h)) (t i) (u i) s.cursor s;
        reply = Due
            (due_kind h);
        buffer = buf;
        zeros = 0;
      })

  -- to a command
  module _ (w : Asked) {n : ℕ} {out command : List ℕ} (same : command ≡ command_of w) (size : n ≡ size_in (length buf) command)
      (laidOut : out ≡ laid command 0 buf) where
    pub asking : {r : Step} → r.reply ≡ Command n → r.zeros ≡ unsupplied_asking w → (tvr tsi : List ℕ) (cursor : Cursor)
        → r.state ≡ changed (ForCard (question_of w)) tvr tsi cursor s
        → tvr ≡ (situation_of w).tvr → tsi ≡ (situation_of w).tsi → cursor ≡ cursor_asking w s → played r out ≡ moved (asks w) s buf
    unfolding played moved standing kept_as cursor_after reply_in buffer_in unsupplied_in tvr_of tsi_of
    asking d z tvr tsi cursor e t u c =
        λ i. record {
          state = (e ∙ (λ j. changed (ForCard (question_of w)) (t j) (u j) (c j) s)) i;
          reply = (d ∙ (ap Command size ∙ ap (λ (x : List ℕ). Command (size_in (length buf) x)) same)) i;
          buffer = (laidOut ∙ ap (λ (x : List ℕ). laid x 0 buf) same) i;
          zeros = z i;
        }

    pub asking_on : {r : Step} {z : ℕ} → r ≡ asked_for (question_of w) n z s → z ≡ unsupplied_asking w → s.tvr ≡ (situation_of w).tvr
        → s.tsi ≡ (situation_of w).tsi → s.cursor ≡ cursor_asking w s → played r out ≡ moved (asks w) s buf
    unfolding asked_for
    asking_on e z t u c =
        asking (ap (λ (x : Step). x.reply) e) (ap (λ (x : Step). x.zeros) e
        ∙ z) s.tvr s.tsi s.cursor (ap (λ (x : Step). x.state) e) t u c

  -- a session that is over
  pub stays : {r : Step} → (r.state ≡ s) × (r.reply ≡ Refused 4) × (r.zeros ≡ 0) → played r buf ≡ unmoved s buf
  unfolding played unmoved
  stays e = λ i. record { state = e.0 i; reply = e.1 i; buffer = buf; zeros = e.2 i }

  -- a session that is closed
  pub shuts : {r : Step} → r ≡ waiting_for Closed ClosedReply s → played r buf ≡ shut s buf
  unfolding played waiting_for shut
  shuts e = ap (λ (x : Step). played x buf) e

-- a bad answer ends the session for its reason, of which a state keeps a byte
module _ (s : State) (buf : List ℕ) (why reason : ℕ) (p : Phase) (e : why ≡ reason) (small : reason < 256) (bad : why ≡ 0
    → ⊥) {r : Step} (w : r ≡ waiting_for (Decided 3 (why % 256)) DecidedReply s) where
  whole : r ≡ waiting_for (Decided 3 why) DecidedReply s
  whole = w ∙ ap (λ (n : ℕ). waiting_for (Decided 3 n) DecidedReply s) (mod-eq_of_lt (omega (arith, e, small)))

  pub late_refused : played r buf ≡ moved (goes_on reason (late s) p) s buf
  late_refused = late_decided s buf 3 why whole ∙ sym (reason_ended why reason (late s) p s buf e bad)

  pub early_refused : played r buf ≡ moved (goes_on reason (early s) p) s buf
  early_refused = early_decided s buf 3 why whole ∙ sym (reason_ended why reason (early s) p s buf e bad)
