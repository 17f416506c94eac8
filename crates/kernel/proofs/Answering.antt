-- A call is turned away, with nothing changed, or taken: then it closes the session, or is the session's step.
-- Assumes nothing.
use mathlib.Core.Path.{◌≡◌, sym, ap, ◌∙◌}
use mathlib.Core.List.{List}
use Prim.Native.Nat.{ℕ}
use borrow.Author.Tests.{eq-eqb, ne_eqb}
use Rattle.slices.proofs.Choice.{pick_yes, pick_no}
use Rattle.numbers.specs.Tables.{silence}
use Rattle.tape_read.specs.Entries.{Entry}
use Rattle.session_phase.specs.declared.Reply.TheVariants.{Refused, Closed as ClosedReply}
use Rattle.dol_fill.specs.Filled.{summed}
use Rattle.session_moves.specs.Moves.{played}
use Rattle.session_moves.specs.declared.Step.{Step as Move}
use Rattle.session_events.specs.Events.{step}
use Rattle.kernel_refusals.specs.Refusals.{call_refusal}
use Rattle.kernel.specs.declared.Session.{Session}
use Rattle.kernel.specs.declared.Step.{Step}
use Rattle.kernel.specs.Calls.{called, refused, accepted, closed_state, closed_after, taken, unless, call}

module _ (s : Session) (e : Entry) (buf : List ℕ) {why : ℕ} (told : why ≡ call_refusal s.state.waiting e buf) (r : Step) where
  pub away : (why ≡ 0 → ⊥) → (r.session ≡ s) × (r.reply ≡ Refused why) → called r buf ≡ call s e buf
  unfolding called refused unless call
  away h t =
      (λ i. record { session = t.0 i; reply = (t.1 ∙ ap Refused told) i; buffer = buf })
      ∙ sym (pick_no _ _ _ (ne_eqb _ 0 (λ z. h (told ∙ z))))

  took : (out : List ℕ) → why ≡ 0 → called r out ≡ taken s e buf → called r out ≡ call s e buf
  unfolding unless call
  took out h t = t ∙ sym (pick_yes _ _ _ (eq-eqb _ 0 (sym told ∙ h)))

  pub closes : why ≡ 0 → e.kind ≡ silence
      → (r.session.state ≡ closed_state s.state) × (r.session.zeros ≡ s.zeros) × (r.reply ≡ ClosedReply)
      → called r buf ≡ call s e buf
  unfolding called taken closed_after
  closes h k t =
      took buf h
      ((λ i. record { session = record { state = t.0 i; zeros = t.1 i }; reply = t.2 i; buffer = buf })
      ∙ sym (pick_yes _ _ _ (eq-eqb _ silence k)))

  pub steps : (m : Move) (out : List ℕ) → why ≡ 0 → (e.kind ≡ silence → ⊥)
      → (r.session.state ≡ m.state) × (r.session.zeros ≡ summed s.zeros m.zeros) × (r.reply ≡ m.reply)
      → played m out ≡ step s.state e.payload buf → called r out ≡ call s e buf
  unfolding called taken accepted played
  steps m out h k t p =
      took out h
      ((λ i. record { session = record { state = t.0 i; zeros = t.1 i }; reply = t.2 i; buffer = out })
      ∙ (ap (accepted s.zeros) p ∙ sym (pick_no _ _ _ (ne_eqb _ silence k))))
