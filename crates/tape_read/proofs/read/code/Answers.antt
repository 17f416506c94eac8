-- `tape_read::read::code` meets its contract: each answer is the line of the list that its test stands on, and what is left of
-- the list is the content's. Assumes nothing.
use mathlib.Core.Path.{◌≡◌, sym, ap, ◌∙◌}
use mathlib.Core.Bool.{false, not}
use mathlib.Core.List.{List}
use Prim.Native.Nat.{ℕ}
use borrow.Author.Tests.{eq-eqb, ne_eqb}
use Rattle.tape_crc.specs.Check.{block_check_of}
use Rattle.tape_read.specs.Blocks.{number_in, session_in, check_in, check_bad, number_bad, session_bad}
use Rattle.tape_read.proofs.Codes.{code_check_lem, code_number_lem, code_session_lem, code_content}
use Rattle.tape_read.proofs.read.code.Goals as goal

-- a test that the code found to pass
module _ (b : List ℕ) (n m : ℕ) (same : n ≡ m) where
  check_right : n ≡ check_in b → m ≡ block_check_of b → check_bad b ≡ false
  unfolding check_bad
  check_right e f = ap not (eq-eqb _ _ (sym e ∙ (same ∙ f)))

  number_right : n ≡ number_in b → number_bad m b ≡ false
  unfolding number_bad
  number_right e = ap not (eq-eqb _ _ (sym e ∙ same))

  session_right : n ≡ session_in b → session_bad m b ≡ false
  unfolding session_bad
  session_right e = ap not (eq-eqb _ _ (sym e ∙ same))

pub returns-then-long_at-of_block : goal.returns-then-long_at-of_block
unfolding check_bad
returns-then-long_at-of_block c =
    sym (code_check_lem _ _ _
    (ap not (ne_eqb _ _ (λ e. c.if-long_at-of_block.true (c.long_at.ensures ∙ (e ∙ sym c.of_block.ensures))))))

pub returns-then-number-due_number : goal.returns-then-number-due_number
unfolding number_bad
returns-then-number-due_number c =
    let check = check_right c.args.block.now _ _ c.if-long_at-of_block.false c.long_at.ensures c.of_block.ensures in
    sym (code_number_lem _ _ _ check (ap not (ne_eqb _ _ (λ e. c.if-number-due_number.true (c.number.ensures ∙ e)))))

pub returns-then-session-due_session : goal.returns-then-session-due_session
unfolding session_bad
returns-then-session-due_session c =
    let b = c.args.block.now in
    let check = check_right b _ _ c.if-long_at-of_block.false c.long_at.ensures c.of_block.ensures in
    let number = number_right b _ _ c.if-number-due_number.false c.number.ensures in
    sym (code_session_lem _ _ _ check number (ap not (ne_eqb _ _ (λ e. c.if-session-due_session.true (c.session.ensures ∙ e)))))

pub returns : goal.returns
returns c =
    let b = c.args.block.now in
    let check = check_right b _ _ c.if-long_at-of_block.false c.long_at.ensures c.of_block.ensures in
    let number = number_right b _ _ c.if-number-due_number.false c.number.ensures in
    let session = session_right b _ _ c.if-session-due_session.false c.session.ensures in
    c.content_code.ensures ∙ sym (code_content _ _ _ check number session)
