-- `valid::valid_field` meets its contract: the length, what stands behind the AID in its room, and the byte behind that.
-- Assumes nothing.
use mathlib.Core.Path.{◌≡◌, sym, ap, ◌∙◌}
use mathlib.Core.List.{List}
use Prim.Native.Nat.{ℕ, ◌≤◌}
use native.Mathlib.Omega.{arith}
use lib.Dec.{leb}
use lib.ListN.{length, take, drop, length-take}
use Rattle.slices.specs.Tests.{between}
use Rattle.decimal_dates.specs.Decimal.{zeros_only}
use Rattle.slices.proofs.Cutting.{to_end}
use Rattle.slices.proofs.Tests.{held, failed, passed, refused, last}
use Rattle.start_list.specs.Rows.{name_room, room_in}
use Rattle.start_list.specs.Valid.{valid_field}
use mathlib.Core.Bool.{not}
use Rattle.start_list.proofs.valid.valid_field.Goals as goal

small : (row : List ℕ) → length (room_in row) ≤ name_room
unfolding room_in
small row = simp length-take (omega arith)

pub returns-then-not-between : goal.returns-then-not-between
unfolding valid_field
returns-then-not-between c =
    let size = c.between.ensures ∙ ap (between 5 name_room) c.byte-n.ensures.0 in
    sym (refused size _ (ap not c.if-not-between.true))

pub returns-then-zeros_only : goal.returns-then-zeros_only
unfolding valid_field
returns-then-zeros_only c =
    let behind : c.zeros_only.result ≡ zeros_only (drop c.byte-n.result (room_in c.args.f.now)) =
    let f = c.args.f.now in
    let n = c.byte-n.result in
    let k = small f in
    c.zeros_only.ensures
    ∙ ap zeros_only
    (c.part.ensures
    ∙ (ap (λ (t : List ℕ). take name_room (drop n t)) c.room.ensures ∙ to_end name_room n (room_in f) (omega arith)))
    in
    let n = c.byte-n.ensures.0 in
    let f = c.args.f.now in
    let size = c.between.ensures ∙ ap (between 5 name_room) n in
    let zeros' = behind ∙ ap (λ (k : ℕ). zeros_only (drop k (room_in f))) n in
    sym (passed size _ (ap not c.if-not-between.false)
    ∙ (held zeros' _ c.if-zeros_only.true ∙ last (ap (λ (k : ℕ). leb k 1) c.mark.ensures.0)))

pub returns-else-zeros_only : goal.returns-else-zeros_only
unfolding valid_field
returns-else-zeros_only c =
    let behind : c.zeros_only.result ≡ zeros_only (drop c.byte-n.result (room_in c.args.f.now)) =
    let f = c.args.f.now in
    let n = c.byte-n.result in
    let k = small f in
    c.zeros_only.ensures
    ∙ ap zeros_only
    (c.part.ensures
    ∙ (ap (λ (t : List ℕ). take name_room (drop n t)) c.room.ensures ∙ to_end name_room n (room_in f) (omega arith)))
    in
    let n = c.byte-n.ensures.0 in
    let f = c.args.f.now in
    let size = c.between.ensures ∙ ap (between 5 name_room) n in
    let zeros' = behind ∙ ap (λ (k : ℕ). zeros_only (drop k (room_in f))) n in
    sym (passed size _ (ap not c.if-not-between.false) ∙ failed zeros' _ c.if-zeros_only.false)
