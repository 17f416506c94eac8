-- After the end, a decision or a silence, everything is turned away with number 2, or 1 where the buffer is short, and nothing
-- changes any more. A session closed by silence has a log that ends with that silence: it is open, and never a session.
-- Assumes nothing.
use mathlib.Core.Path.{◌≡◌, refl, sym, ap, ◌∙◌}
use mathlib.Core.Bool.{true, false≢true}
use mathlib.Core.List.{List, [], ◌∷◌, ◌++◌}
use mathlib.Core.Logic.{inr}
use Prim.Native.Nat.{ℕ}
use native.Mathlib.Omega.{arith}
use lib.Dec.{ltb}
use lib.ListN.{length}
use Rattle.slices.specs.Choice.{pick, first_of}
use Rattle.slices.proofs.Choice.{pick_yes, picked}
use Rattle.tape_read.specs.Entries.{Entry}
use Rattle.commands.specs.Commands.{longest}
use Rattle.sessions.specs.Session as Under
use Rattle.sessions.proofs.Reading.{not_closed}
use Rattle.rulebook.specs.Session.{Session as WholeSession, Open, Closed as ClosedLog}
use Rattle.rulebook.proofs.Kept.{kept}
use Rattle.session_phase.specs.Waiting.{awaited, is_over, is_decided, is_closed}
use Rattle.session_phase.specs.declared.Waiting.{Waiting}
use Rattle.session_phase.specs.declared.Waiting.TheVariants.{Searching, ForCard, ForWord, Decided, Closed}
use Rattle.session_laws.proofs.Reaching.{reached_open}
use Rattle.kernel_refusals.specs.Refusals.{refusal_lines, call_refusal}
use Rattle.kernel.specs.declared.Session.{Session}
use Rattle.kernel.specs.Calls.{refused}
use Rattle.kernel_laws.specs.Log.{Call, made, Played, after, plays_from, plays, all_bytes}
use Rattle.kernel_laws.specs.Ending.{at_end, Ended}
use Rattle.kernel_laws.proofs.Turning.{call_refused}
use Rattle.kernel_laws.proofs.Lasting.{Stands, going, shut, silenced_log, stands_plays}
use Rattle.kernel_laws.proofs.Refusing.{turned_away, unchanged_after}

module _ (s : Session) (over : is_over s.state.waiting ≡ true) (e : Entry) (buf : List ℕ) where
  pub over_refusal : call_refusal s.state.waiting e buf ≡ at_end buf
  unfolding call_refusal refusal_lines first_of
  over_refusal = ap (pick (ltb (length buf) longest) 1) (pick_yes _ _ _ over)

  not_taken : call_refusal s.state.waiting e buf ≡ 0 → ⊥
  not_taken z =
      let never : at_end buf ≡ 0 → ⊥ =
      picked (λ (n : ℕ). n ≡ 0 → ⊥) (ltb (length buf) longest) 1 2 (λ y e. omega arith) (λ n e. omega arith) in
      never (sym over_refusal ∙ z)

-- every call, with everything that it leaves behind
pub over_call : (s : Session) → is_over s.state.waiting ≡ true → (c : Call) → made s c ≡ refused (at_end c.buffer) s c.buffer
unfolding made
over_call s over c =
    call_refused s c.event c.buffer (not_taken s over c.event c.buffer)
    ∙ ap (λ (n : ℕ). refused n s c.buffer) (over_refusal s over c.event c.buffer)

-- no calls change it
pub over_stays : (cs : List Call) (p : Played) → is_over p.session.state.waiting ≡ true → plays_from p cs ≡ p
unfolding plays_from
over_stays [] p over = refl
over_stays (c ∷ cs) p over =
    let same = unchanged_after p c (turned_away p.session c (not_taken p.session over c.event c.buffer)) in
    ap (λ (q : Played). plays_from q cs) same ∙ over_stays cs p over

from_append : (cs ds : List Call) (p : Played) → plays_from p (cs ++ ds) ≡ plays_from (plays_from p cs) ds
unfolding plays_from
from_append [] ds p = refl
from_append (c ∷ cs) ds p = from_append cs ds (after p c)

pub plays_append : (cs ds : List Call) → plays (cs ++ ds) ≡ plays_from (plays cs) ds
unfolding plays
plays_append cs ds = from_append cs ds _

-- ---- the two ends
decided_over : (x : Waiting) → is_decided x ≡ true → is_over x ≡ true
unfolding is_decided is_over awaited
decided_over Searching e = absurd (false≢true e)
decided_over (ForCard question) e = absurd (false≢true e)
decided_over (ForWord speaker) e = absurd (false≢true e)
decided_over (Decided outcome reason) e = refl
decided_over Closed e = refl

is_closed_lem : (x : Waiting) → is_closed x ≡ true → x ≡ Closed
unfolding is_closed
is_closed_lem Searching e = absurd (false≢true e)
is_closed_lem (ForCard question) e = absurd (false≢true e)
is_closed_lem (ForWord speaker) e = absurd (false≢true e)
is_closed_lem (Decided outcome reason) e = absurd (false≢true e)
is_closed_lem Closed e = refl

closed_over : (x : Waiting) → is_closed x ≡ true → is_over x ≡ true
unfolding is_over awaited
closed_over x e = ap is_over (is_closed_lem x e)

ended : (cs : List Call) → is_over (plays cs).session.state.waiting ≡ true → Ended cs
ended cs over =
    record { answers = over_call (plays cs).session over; stays = λ more. plays_append cs more ∙ over_stays more (plays cs) over }

pub decided_ended : (cs : List Call) → is_decided (plays cs).session.state.waiting ≡ true → Ended cs
decided_ended cs d = ended cs (decided_over (plays cs).session.state.waiting d)

pub closed_ended : (cs : List Call) → is_closed (plays cs).session.state.waiting ≡ true → Ended cs
closed_ended cs k = ended cs (closed_over (plays cs).session.state.waiting k)

-- ---- the log of a session closed by silence
closed_log : (s : Session) (es : List Entry) → Stands s es → s.state.waiting ≡ Closed → ClosedLog es
closed_log s es (going there) k = absurd (reached_open s.state es there k)
closed_log s es (shut c) same = silenced_log s es c

module _ (cs : List Call) (bytes : all_bytes cs ≡ true) (k : is_closed (plays cs).session.state.waiting ≡ true) where
  pub closed_by_silence : ClosedLog (plays cs).log
  closed_by_silence =
      closed_log (plays cs).session (plays cs).log (stands_plays cs bytes) (is_closed_lem (plays cs).session.state.waiting k)

  pub silence_is_open : Open (plays cs).log
  unfolding Under.Open
  silence_is_open = inr closed_by_silence

  pub silence_is_no_session : WholeSession (plays cs).log → ⊥
  silence_is_no_session play = not_closed kept (plays cs).log play closed_by_silence
