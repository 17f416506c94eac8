-- A call is turned away, and then nothing is changed, or it is taken; and what a call that is taken has passed.
-- Assumes nothing.
use mathlib.Core.Path.{◌≡◌, sym, ◌∙◌}
use mathlib.Core.Bool.{true, false, not, false≢true}
use mathlib.Core.List.{List}
use Prim.Native.Nat.{ℕ, ◌≤◌}
use native.Mathlib.Omega.{arith}
use lib.Dec.{eqb, ltb}
use lib.ListN.{length}
use borrow.Author.Tests.{eq-eqb, ne_eqb, eqb-true, ltb-false, not-false}
use Rattle.slices.specs.Choice.{first_of}
use Rattle.slices.proofs.Choice.{pick_yes, pick_no, either}
use Rattle.slices.proofs.Lines.{line_clear}
use Rattle.numbers.specs.Tables.{silence}
use Rattle.tape_read.specs.Entries.{Entry}
use Rattle.commands.specs.Commands.{longest}
use Rattle.session_phase.specs.Waiting.{is_over}
use Rattle.session_events.specs.Events.{step}
use Rattle.kernel_refusals.specs.Refusals.{is_due, start_bad, answer_bad, word_lines, refusal_lines, call_refusal}
use Rattle.kernel.specs.declared.Session.{Session}
use Rattle.kernel.specs.Calls.{refused, accepted, closed_after, taken, unless, call}

-- by cases of whether a number is 0
pub zero_or : {P : Type 0} (n : ℕ) → (n ≡ 0 → P) → ((n ≡ 0 → ⊥) → P) → P
zero_or n yes' no' = either (eqb n 0) (λ y. yes' (eqb-true n 0 y)) (λ f. no' (λ e. false≢true (sym f ∙ eq-eqb n 0 e)))

-- a call that is taken has passed every line
pub record Passed (s : Session) (e : Entry) (buf : List ℕ) : Type 0 where
  pub room : longest ≤ length buf
  pub goes : is_over s.state.waiting ≡ false
  pub start : start_bad e ≡ false
  pub due : is_due s.state.waiting e ≡ true
  pub answer : answer_bad e ≡ false
  pub words : first_of (word_lines s.state.waiting e.payload) ≡ 0

module _ (s : Session) (e : Entry) (buf : List ℕ) where
  abbrev number : ℕ
  number = call_refusal s.state.waiting e buf

  pub call_taken : number ≡ 0 → call s e buf ≡ taken s e buf
  unfolding call unless
  call_taken h = pick_yes _ _ _ (eq-eqb number 0 h)

  pub call_refused : (number ≡ 0 → ⊥) → call s e buf ≡ refused number s buf
  unfolding call unless
  call_refused h = pick_no _ _ _ (ne_eqb number 0 h)

  -- a silence closes, anything else is a step
  pub taken_silence : e.kind ≡ silence → taken s e buf ≡ closed_after s buf
  unfolding taken
  taken_silence k = pick_yes _ _ _ (eq-eqb e.kind silence k)

  pub taken_step : (e.kind ≡ silence → ⊥) → taken s e buf ≡ accepted s.zeros (step s.state e.payload buf)
  unfolding taken
  taken_step k = pick_no _ _ _ (ne_eqb e.kind silence k)

  pub passed : number ≡ 0 → Passed s e buf
  unfolding call_refusal refusal_lines
  passed h =
      let one = line_clear (ltb (length buf) longest) 1 _ (λ z. omega arith) h in
      let two = line_clear (is_over s.state.waiting) 2 _ (λ z. omega arith) one.1 in
      let three = line_clear (start_bad e) 3 _ (λ z. omega arith) two.1 in
      let four = line_clear (not (is_due s.state.waiting e)) 4 _ (λ z. omega arith) three.1 in
      let five = line_clear (answer_bad e) 5 _ (λ z. omega arith) four.1 in
      record {
        room = ltb-false (length buf) longest one.0;
        goes = two.0;
        start = three.0;
        due = not-false _ four.0;
        answer = five.0;
        words = five.1;
      }
