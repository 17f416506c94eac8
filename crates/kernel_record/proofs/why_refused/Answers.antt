-- `why_refused` meets its contract: 7 for either entry, then 8 where there is no room for both.
-- Assumes nothing.
use mathlib.Core.Path.{◌≡◌, sym, ◌∙◌}
use mathlib.Core.Bool.{true, false}
use mathlib.Core.List.{[], ◌∷◌}
use Rattle.tape_read.specs.Entries.{entry}
use Rattle.kernel_record.specs.Recording.{wrong, any_wrong}
use Rattle.kernel_record.proofs.Refusing.{any_first, any_rest, call_wrong, call_full, call_taken}
use Rattle.kernel_record.proofs.why_refused.Goals as goal

pub returns-then-is_wrong : goal.returns-then-is_wrong
returns-then-is_wrong c =
    let a = c.args in
    let e = entry a.kind a.payload.now in
    let f = entry a.next_kind a.next_payload.now in
    sym (call_wrong a.writer.used e (f ∷ []) a.tape.now (any_first e (f ∷ []) (sym c.is_wrong.ensures ∙ c.if-is_wrong.true)))

pub returns-then-is_wrong-2 : goal.returns-then-is_wrong-2
returns-then-is_wrong-2 c =
    let a = c.args in
    let e = entry a.kind a.payload.now in
    let f = entry a.next_kind a.next_payload.now in
    let right : wrong e ≡ false = sym c.is_wrong.ensures ∙ c.if-is_wrong.false in
    let bad : wrong f ≡ true = sym c.is_wrong-2.ensures ∙ c.if-is_wrong-2.true in
    sym (call_wrong a.writer.used e (f ∷ []) a.tape.now (any_rest e (f ∷ []) right ∙ any_first f [] bad))

pub returns-then-has_room : goal.returns-then-has_room
unfolding any_wrong
returns-then-has_room c =
    let none : let a = c.args in any_wrong (entry a.kind a.payload.now ∷ entry a.next_kind a.next_payload.now ∷ []) ≡ false =
    let a = c.args in
    let e = entry a.kind a.payload.now in
    let f = entry a.next_kind a.next_payload.now in
    any_rest e (f ∷ []) (sym c.is_wrong.ensures ∙ c.if-is_wrong.false)
    ∙ any_rest f [] (sym c.is_wrong-2.ensures ∙ c.if-is_wrong-2.false)
    in
    let a = c.args in
    sym (call_taken a.writer.used _ _ a.tape.now (none) (sym c.has_room.ensures ∙ c.if-has_room.true))

pub returns-else-has_room : goal.returns-else-has_room
unfolding any_wrong
returns-else-has_room c =
    let none : let a = c.args in any_wrong (entry a.kind a.payload.now ∷ entry a.next_kind a.next_payload.now ∷ []) ≡ false =
    let a = c.args in
    let e = entry a.kind a.payload.now in
    let f = entry a.next_kind a.next_payload.now in
    any_rest e (f ∷ []) (sym c.is_wrong.ensures ∙ c.if-is_wrong.false)
    ∙ any_rest f [] (sym c.is_wrong-2.ensures ∙ c.if-is_wrong-2.false)
    in
    let a = c.args in
    sym (call_full a.writer.used _ _ a.tape.now (none) (sym c.has_room.ensures ∙ c.if-has_room.false))
