-- No call clears a bit of TVR or TSI: on every session that has the bits of the word it waits for. Every session that waits for the card
-- or for the issuer does, and one that waits for START does where both are zeros, as from fresh on.
-- Assumes nothing.
use mathlib.Core.Path.{◌≡◌, sym, ◌∙◌, subst}
use mathlib.Core.Bool.{true}
use mathlib.Core.List.{List, [], ◌∷◌, ◌++◌}
use Prim.Native.Nat.{ℕ}
use native.Mathlib.Omega.{arith}
use lib.Dec.{eqb}
use lib.Pow.{are_bytes}
use borrow.Author.Tests.{eqb-true, eqb-false}
use Rattle.slices.proofs.Choice.{either, and_left, and_right}
use Rattle.numbers.specs.Tables.{silence}
use Rattle.tape_read.specs.Entries.{Entry}
use Rattle.decide_tvr.proofs.Rows.{joined_self, kept_on}
use Rattle.session_phase.specs.declared.Speaker.TheVariants.{Terminal}
use Rattle.session_phase.specs.declared.Waiting.TheVariants.{ForWord, Closed}
use Rattle.session_state.specs.Keeping.{changed}
use Rattle.session_state.specs.declared.State.{State}
use Rattle.session_laws.specs.Bits.{Keeps, Even}
use Rattle.session_laws.proofs.Clearing.{keeps_self, step_keeps}
use Rattle.session_laws.proofs.Reaching.{reached_even}
use Rattle.kernel_refusals.specs.Refusals.{call_refusal}
use Rattle.kernel.specs.declared.Session.{Session}
use Rattle.kernel.specs.Calls.{Called, refused, accepted, closed_state, closed_after, call}
use Rattle.kernel_laws.specs.Log.{Call, made, Played, after, plays_from, plays, all_bytes}
use Rattle.kernel_laws.proofs.Turning.{zero_or, call_taken, call_refused, taken_silence, taken_step}
use Rattle.kernel_laws.proofs.Lasting.{Stands, going, shut, stands_call, stands_plays}
use Rattle.kernel_laws.proofs.Ending.{plays_append}

module _ (s : Session) (even : Even s.state) (c : Call) where
  abbrev KeptBy : Called → Type 0
  KeptBy r = Keeps s.state r.session.state

  silence_keeps : KeptBy (closed_after s c.buffer)
  unfolding closed_after closed_state changed
  silence_keeps = record { tvr = joined_self s.state.tvr; tsi = joined_self s.state.tsi }

  taken_keeps : call_refusal s.state.waiting c.event c.buffer ≡ 0 → KeptBy (call s c.event c.buffer)
  unfolding accepted
  taken_keeps z =
      let here = call_taken s c.event c.buffer z in
      either (eqb c.event.kind silence)
      (λ y. subst KeptBy (sym (here ∙ taken_silence s c.event c.buffer (eqb-true c.event.kind silence y))) silence_keeps)
      (λ n.
      subst KeptBy (sym (here ∙ taken_step s c.event c.buffer (eqb-false c.event.kind silence n)))
      (step_keeps s.state c.event.payload c.buffer even))

  pub call_keeps : KeptBy (made s c)
  unfolding made refused
  call_keeps =
      zero_or (call_refusal s.state.waiting c.event c.buffer) taken_keeps
      (λ k. subst KeptBy (sym (call_refused s c.event c.buffer k)) (keeps_self s.state))

-- ---- from fresh
stands_even : (s : Session) (es : List Entry) → Stands s es → Even s.state
stands_even s es (going there) = reached_even s.state es there
stands_even s es (shut c) =
    λ e. absurd (let same : Closed ≡ ForWord Terminal = sym c.closed ∙ e in let z : ◌≡◌ {A = ℕ} 0 1 = cc same in omega arith)

keeps_on : (s t u : State) → Keeps s t → Keeps t u → Keeps s u
keeps_on s t u h k =
    record { tvr = kept_on s.tvr t.tvr u.tvr h.tvr k.tvr; tsi = kept_on s.tsi t.tsi u.tsi h.tsi k.tsi }

keeps_from : (cs : List Call) (p : Played) → all_bytes cs ≡ true → Stands p.session p.log
    → Keeps p.session.state (plays_from p cs).session.state
unfolding plays_from all_bytes after made
keeps_from [] p bytes st = keeps_self p.session.state
keeps_from (c ∷ cs) p bytes st =
    let one = call_keeps p.session (stands_even p.session p.log st) c in
    let next = stands_call p.session p.log c.buffer c.event (and_left (are_bytes c.event.payload) (all_bytes cs) bytes) st in
    keeps_on p.session.state (after p c).session.state (plays_from (after p c) cs).session.state one
    (keeps_from cs (after p c) (and_right (are_bytes c.event.payload) (all_bytes cs) bytes) next)

-- a bit that is set after some calls is set after any further ones
pub plays_keeps : (cs more : List Call) → all_bytes cs ≡ true → all_bytes more ≡ true
    → Keeps (plays cs).session.state (plays (cs ++ more)).session.state
plays_keeps cs more bytes also =
    subst (λ (p : Played). Keeps (plays cs).session.state p.session.state) (sym (plays_append cs more))
    (keeps_from more (plays cs) also (stands_plays cs bytes))
