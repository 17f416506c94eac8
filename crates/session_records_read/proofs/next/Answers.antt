-- `session_records_read::next` meets its contract: the AFL is the run that is kept.
-- Assumes nothing.
use mathlib.Core.Path.{sym, ap, ◌∙◌}
use mathlib.Core.List.{List}
use Prim.Native.Nat.{ℕ}
use Rattle.std.specs.Prelude.{Some}
use Rattle.slices.proofs.Choice.{pick_yes, pick_no}
use Rattle.answer_afl.specs.Cursor.{is_left, stepped}
use Rattle.session_moves.proofs.Moving.{run_part, run_count}
use Rattle.session_records_read.proofs.next.Goals as goal

pub slice_bounds-afl-end : goal.slice_bounds-afl-end
slice_bounds-afl-end c =
    run_count c.args.s.locator c.size_of-n.result
    c.bytes_of-bytes.result c.bytes_of-bytes.ensures.0 c.size_of-n.ensures.0
    c.size_of-n.ensures.1 c.size_of-n.ensures.2

pub returns-then-is_left : goal.returns-then-is_left
returns-then-is_left c =
    let s = c.args.s in
    let same = run_part s.locator c.size_of-n.result c.bytes_of-bytes.result c.bytes_of-bytes.ensures.0 c.size_of-n.ensures.0 in
    let left = c.is_left.ensures.0 ∙ ap (λ (v : List ℕ). is_left v s.cursor) same in
    ap Some (c.step.ensures ∙ ap (λ (v : List ℕ). stepped v s.cursor) same)
    ∙ sym (pick_yes _ _ _ (sym left ∙ c.if-is_left.true))

pub returns-else-is_left : goal.returns-else-is_left
returns-else-is_left c =
    let s = c.args.s in
    let same = run_part s.locator c.size_of-n.result c.bytes_of-bytes.result c.bytes_of-bytes.ensures.0 c.size_of-n.ensures.0 in
    let left = c.is_left.ensures.0 ∙ ap (λ (v : List ℕ). is_left v s.cursor) same in
    sym (pick_no _ _ _ (sym left ∙ c.if-is_left.false))
