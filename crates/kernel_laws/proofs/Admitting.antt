-- When a call is taken: the buffer has room, the session waits for the event, and the event passes its own line.
-- Assumes nothing.
use mathlib.Core.Path.{◌≡◌, refl, sym, ap, ◌∙◌}
use mathlib.Core.Bool.{true, false, not}
use mathlib.Core.List.{List}
use Prim.Native.Nat.{ℕ, ◌≤◌}
use native.Mathlib.Omega.{arith}
use lib.ListN.{length}
use borrow.Author.Tests.{eq-eqb, ne_eqb, le-ltb}
use Rattle.slices.specs.Choice.{first_of}
use Rattle.slices.proofs.Choice.{pick_no}
use Rattle.slices.proofs.Lines.{line_no}
use Rattle.numbers.specs.Tables.{answer, silence}
use Rattle.tape_read.specs.Entries.{Entry, entry, payload_most}
use Rattle.commands.specs.Commands.{longest}
use Rattle.session_phase.specs.Waiting.{kind_of, awaited, is_over}
use Rattle.session_phase.specs.declared.Question.{Question}
use Rattle.session_phase.specs.declared.Speaker.{Speaker}
use Rattle.session_phase.specs.declared.Waiting.{Waiting}
use Rattle.session_phase.specs.declared.Waiting.TheVariants.{ForCard, ForWord}
use Rattle.session_laws.proofs.Words.{no_silence, some_kind}
use Rattle.kernel_refusals.specs.Refusals.{is_due, start_bad, answer_bad, word_lines, refusal_lines, call_refusal}
use Rattle.kernel.specs.declared.Session.{Session}
use Rattle.kernel_laws.proofs.Words.{taken_by, answer_passes, word_passes}

-- an event of the kind that is waited for, which is no silence, is due
kind_due : (x : Waiting) (e : Entry) → (e.kind ≡ silence → ⊥) → e.kind ≡ awaited x → is_due x e ≡ true
unfolding is_due
kind_due x e n h = pick_no _ _ _ (ne_eqb e.kind silence n) ∙ eq-eqb e.kind (awaited x) h

goes_on_lem : (x : Waiting) → (awaited x ≡ 0 → ⊥) → is_over x ≡ false
unfolding is_over
goes_on_lem x h = ne_eqb (awaited x) 0 h

module _ (s : Session) (buf : List ℕ) (room : longest ≤ length buf) where
  free : (e : Entry) → (awaited s.state.waiting ≡ 0 → ⊥) → start_bad e ≡ false → is_due s.state.waiting e ≡ true → answer_bad e ≡ false
      → first_of (word_lines s.state.waiting e.payload) ≡ 0
      → call_refusal s.state.waiting e buf ≡ 0
  unfolding call_refusal refusal_lines
  free e over start due long words =
      line_no refl 1 _ (le-ltb (length buf) longest room)
      ∙ (line_no refl 2 _ (goes_on_lem s.state.waiting over)
      ∙ (line_no refl 3 _ start ∙ (line_no refl 4 _ (ap not due) ∙ (line_no refl 5 _ long ∙ words))))

  pub answer_free : (question : Question) → s.state.waiting ≡ ForCard question → (a : List ℕ) → length a ≤ payload_most
      → call_refusal s.state.waiting (entry answer a) buf ≡ 0
  unfolding awaited start_bad answer_bad
  answer_free question k a most =
      let waits : awaited s.state.waiting ≡ answer = ap awaited k in
      free (entry answer a) (λ z. let none : answer ≡ 0 = sym waits ∙ z in omega arith) refl
      (kind_due s.state.waiting (entry answer a) (λ e. omega arith) (sym waits)) (le-ltb payload_most (length a) most)
      (ap (λ (x : Waiting). first_of (word_lines x a)) k ∙ answer_passes question a)

  pub word_free : (speaker : Speaker) → s.state.waiting ≡ ForWord speaker → (p : List ℕ) → taken_by speaker p ≡ true
      → call_refusal s.state.waiting (entry (kind_of speaker) p) buf ≡ 0
  unfolding awaited
  word_free speaker k p fits =
      let waits : awaited s.state.waiting ≡ kind_of speaker = ap awaited k in
      let own = word_passes p speaker fits in
      free (entry (kind_of speaker) p) (λ z. some_kind speaker (sym waits ∙ z)) own.0
      (kind_due s.state.waiting (entry (kind_of speaker) p) (no_silence speaker) (sym waits)) own.1
      (ap (λ (x : Waiting). first_of (word_lines x p)) k ∙ own.2)
