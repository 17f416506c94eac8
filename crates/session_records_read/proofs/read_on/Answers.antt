-- `session_records_read::read_on` meets its contract: the record at the cursor is asked for, and after the last one the session goes on.
-- Assumes nothing.
use mathlib.Core.Path.{◌≡◌, refl, sym, ap, ◌∙◌}
use mathlib.Core.Bool.{Bool, true, false}
use mathlib.Core.List.{List}
use Prim.Native.Nat.{ℕ}
use Rattle.std.specs.Prelude.{Some, None}
use Rattle.slices.specs.Choice.{pick}
use Rattle.answer_afl.specs.declared.cursor.Cursor.{Cursor}
use Rattle.answer_afl.specs.Cursor.{record_at, stepped, remaining}
use Rattle.answer_afl.proofs.Walking.{one_less, none_remain}
use Rattle.rulebook.specs.Phase.{reading, situation_of, command_of}
use Rattle.rulebook.specs.Turn.{read_on}
use Rattle.rulebook_zeros.specs.Zeros.{unsupplied_asking}
use Rattle.session_state.specs.Reading.{situation_with, late, records_left}
use Rattle.session_records.specs.Runs.{in_run}
use Rattle.session_moves.specs.Moves.{question_of, cursor_asking, moved}
use Rattle.session_moves.proofs.Moving.{asking}
use Rattle.session_records_read.proofs.read_on.Goals as goal

-- what is left, by what was found
some_left : (b : Bool) (x y : Cursor) → pick b (Some x) None ≡ Some y → (b ≡ true) × (x ≡ y)
unfolding pick
some_left true x y e = (refl, cc)
some_left false x y e = absurd (cc)

none_left : (b : Bool) (x : Cursor) → pick b (Some x) None ≡ None → b ≡ false
unfolding pick
none_left true x e = absurd (cc)
none_left false x e = refl

pub returns-in-Some : goal.returns-in-Some
unfolding records_left read_on unsupplied_asking command_of situation_of question_of cursor_asking late situation_with
returns-in-Some c =
    let args = c.args in
    let s = args.s in
    let buf = args.buf.now in
    let v = in_run s.locator in
    let k = s.cursor in
    let left = some_left _ _ _ (sym c.next.ensures ∙ c.in-Some.is) in
    asking s buf (reading (late s) (record_at v k).0 (record_at v k).1 (remaining v (stepped v k))) refl
    c.read-n.ensures.size
    c.read-n.ensures.buffer refl refl s.tvr s.tsi _
    c.change.ensures refl refl (sym left.1)
    ∙ sym (ap (λ (l : List (ℕ × ℕ)). moved (read_on (late s) l) s buf) (one_less v k left.0))

pub returns-in-None : goal.returns-in-None
unfolding records_left read_on
returns-in-None c =
    let args = c.args in
    let s = args.s in
    let buf = args.buf.now in
    c.all_read.ensures
    ∙ sym
    (ap (λ (l : List (ℕ × ℕ)). moved (read_on (late s) l) s buf)
    (none_remain (in_run s.locator) s.cursor (none_left _ _ (sym c.next.ensures ∙ c.in-None.is))))
