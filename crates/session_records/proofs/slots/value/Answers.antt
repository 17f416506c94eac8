-- `slots::value` meets its contract.
-- Assumes nothing.
use mathlib.Core.Path.{sym, ap, ◌∙◌}
use mathlib.Core.List.{[]}
use mathlib.Core.Option
use Prim.Native.Nat.{ℕ, ◌-◌}
use lib.ListN.{take, drop}
use Rattle.session_records.specs.Slots.{read, told_in}
use Rattle.session_records.proofs.Cells.{read_none, read_some}
use Rattle.session_records.proofs.slots.value.Goals as goal

pub returns-then-n-eq0 : goal.returns-then-n-eq0
unfolding told_in
returns-then-n-eq0 c =
    let e = c.cell-c in
    let b = c.byte-n.ensures.0 in
    c.part.ensures
    ∙ sym (ap (λ l. Option.get_or (read l) []) (sym e.ensures)
    ∙ ap (λ o. Option.get_or o []) (read_none e.result.now (sym b ∙ c.if-n-eq0.true)))

pub returns : goal.returns
unfolding told_in
returns c =
    let e = c.cell-c in
    let b = c.byte-n.ensures.0 in
    c.part-2.ensures
    ∙ (ap (λ (n : ℕ). take (n - 1) (drop 1 e.result.now)) b
    ∙ sym (ap (λ l. Option.get_or (read l) []) (sym e.ensures)
    ∙ ap (λ o. Option.get_or o []) (read_some e.result.now (λ z. c.if-n-eq0.false (b ∙ z)))))
