-- `record` meets its contract: each arm keeps the entries that the definition names for that reply.
-- Assumes nothing.
use mathlib.Core.Path.{◌≡◌, sym, ap, ◌∙◌}
use mathlib.Core.List.{List, [], ◌∷◌}
use Prim.Native.Nat.{ℕ}
use Rattle.session_phase.specs.declared.Reply.{Reply}
use Rattle.kernel.specs.declared.Session.{Session}
use Rattle.tape_write.specs.declared.Writer.{Writer}
use Rattle.numbers.specs.Tables.{command, decision}
use Rattle.tape_read.specs.Entries.{Entry, entry}
use Rattle.kernel_record.specs.Recording.{recorded, kept_all}
use Rattle.kernel_record.proofs.Keeping.{only, nothing_kept}
use Rattle.kernel_record.proofs.record.Goals as goal

-- the entries are those of the reply that was told
by : (w : Writer) (e : Entry) (buf : List ℕ) (s : Session) (t : List ℕ) (reply told : Reply) → reply ≡ told
    → kept_all w (recorded e told buf s) t ≡ kept_all w (recorded e reply buf s) t
by w e buf s t reply told h = ap (λ (q : Reply). kept_all w (recorded e q buf s) t) (sym h)

-- two entries, the second of them with the payload that another function handed over
second_is : (w : Writer) (e : Entry) (kind : ℕ) (p q t : List ℕ) → p ≡ q
    → kept_all w (e ∷ entry kind p ∷ []) t ≡ kept_all w (e ∷ entry kind q ∷ []) t
second_is w e kind p q t h = ap (λ (x : List ℕ). kept_all w (e ∷ entry kind x ∷ []) t) h

pub returns-in-Command : goal.returns-in-Command
unfolding recorded
returns-in-Command c =
    let a = c.args in
    c.both.ensures
    ∙ (second_is a.writer _ command _ _ a.tape.now c.part.ensures
    ∙ by a.writer _ a.command.now a.session a.tape.now a.reply _ c.in-Command.is)

pub returns-in-Decided : goal.returns-in-Decided
unfolding recorded
returns-in-Decided c =
    let a = c.args in
    c.both-in-Decided.ensures
    ∙ (second_is a.writer _ decision _ _ a.tape.now c.decision_in.ensures
    ∙ by a.writer _ a.command.now a.session a.tape.now a.reply _ c.in-Decided.is)

pub returns-in-Due : goal.returns-in-Due
unfolding recorded
returns-in-Due c =
    let a = c.args in
    let m = c.append in
    only a.writer _ a.tape.now m.result _ m.ensures.value m.ensures.tape_after
    ∙ by a.writer _ a.command.now a.session a.tape.now a.reply _ c.in-Due.is

pub returns-in-Closed : goal.returns-in-Closed
unfolding recorded
returns-in-Closed c =
    let a = c.args in
    let m = c.append-in-Closed in
    only a.writer _ a.tape.now m.result _ m.ensures.value m.ensures.tape_after
    ∙ by a.writer _ a.command.now a.session a.tape.now a.reply _ c.in-Closed.is

pub returns-in-Refused : goal.returns-in-Refused
unfolding recorded
returns-in-Refused c =
    let a = c.args in
    let e = entry a.kind a.payload.now in
    nothing_kept a.writer a.tape.now
    ∙ by a.writer e a.command.now a.session a.tape.now a.reply _ c.in-Refused.is
