-- `slots::slot_in` meets its contract. The loop's invariant: the names that are left, placed from `at` on, decide as all do.
-- Assumes nothing.
use mathlib.Core.Path.{◌≡◌, refl, sym, ap, ◌∙◌}
use mathlib.Core.List.{List}
use Prim.Native.Nat.{ℕ, ◌+◌, ◌≤◌, ◌<◌}
use native.Mathlib.Omega.{arith}
use native.Mathlib.Numerals.{add-one}
use lib.ListN.{length, drop, get_or, drop_of_length-le}
use lib.Seq.{drop-cons}
use borrow.Author.Tests.{eq-eqb, ne_eqb}
use Rattle.slices.specs.Tables.{beside}
use Rattle.slices.proofs.Choice.{pick_yes, pick_no}
use Rattle.answer_common.specs.Content.{rule_for}
use Rattle.session_records.specs.Slots.{room, rooms_of, nowhere, placed, total}
use Rattle.session_records.proofs.slots.slot_in.Invariants.{from}
use Rattle.session_records.proofs.slots.slot_in.Goals as goal

module _ (names : List ℕ) (tag at i : ℕ) (h : i < length names) where
  abbrev name : ℕ
  name = get_or names i 0

  one : total (rooms_of (drop i names)) ≡ room (rule_for name) + 1 + total (rooms_of (drop (i + 1) names))
  unfolding total
  one =
      ap (λ l. total (rooms_of l)) (drop-cons names i 0 h)
      ∙ ap (λ (k : ℕ). room (rule_for name) + 1 + total (rooms_of (drop k names))) (sym (add-one i))

  here : name ≡ tag → from tag at (drop i names) ≡ record { at = at; size = room (rule_for name) + 1 }
  unfolding placed beside
  here e = ap (from tag at) (drop-cons names i 0 h) ∙ pick_yes _ _ _ (eq-eqb tag name (sym e))

  further : (name ≡ tag → ⊥) → from tag at (drop i names) ≡ from tag (at + (room (rule_for name) + 1)) (drop (i + 1) names)
  unfolding placed beside
  further e =
      ap (from tag at) (drop-cons names i 0 h)
      ∙ (pick_no _ _ _ (ne_eqb tag name (λ z. e (sym z)))
      ∙ ap (λ (k : ℕ). from tag (at + (room (rule_for name) + 1)) (drop k names)) (sym (add-one i)))

past : (names : List ℕ) (tag at i : ℕ) → length names ≤ i → from tag at (drop i names) ≡ nowhere
unfolding placed beside
past names tag at i h = ap (from tag at) (drop_of_length-le names h)

pub loop-name-init : goal.loop-name-init
loop-name-init c = (omega (arith, c.requires), refl)

pub overflow_add-size : goal.overflow_add-size
overflow_add-size c =
    let l = c.loop-name in
    let z =
    one c.args.names.now c.args.tag l.at
    l.name-index (omega arith) in
    omega (arith, z, l.invariant.0, c.room-size.ensures)

pub returns-then-name-tag : goal.returns-then-name-tag
returns-then-name-tag c =
    let l = c.loop-name in
    let a = c.args in
    ap (λ (n : ℕ). record { at = l.at; size = n + 1 }) c.room-size.ensures
    ∙ (sym (here a.names.now a.tag l.at l.name-index (omega arith) c.if-name-tag.true) ∙ l.invariant.1)

pub overflow_add-at : goal.overflow_add-at
overflow_add-at c =
    let l = c.loop-name in
    let a = c.args in
    let z = one a.names.now a.tag l.at l.name-index (omega arith) in
    omega (arith, z, l.invariant.0, c.room-size.ensures)

pub loop-name-preserved : goal.loop-name-preserved
loop-name-preserved c =
    let l = c.loop-name in
    let a = c.args in
    let r = c.room-size.ensures in
    let z = one a.names.now a.tag l.at l.name-index (omega arith) in (
      omega (arith, z, l.invariant.0, r),
      ap (λ (n : ℕ). from a.tag (l.at + (n + 1)) (drop (l.name-index + 1) a.names.now)) r
          ∙ (sym (further a.names.now a.tag l.at l.name-index (omega arith) c.if-name-tag.false) ∙ l.invariant.1),
    )

pub returns : goal.returns
unfolding nowhere
returns c =
    let l = c.loop-name in
    let a = c.args in
    sym (past a.names.now a.tag l.at l.name-index (omega arith)) ∙ l.invariant.1
