-- `meet::decided` meets its contract: DECISION, its nine bytes, and nothing behind it.
-- Assumes nothing.
use mathlib.Core.Path.{◌≡◌, sym, ap, ap₂, ◌∙◌}
use mathlib.Core.List.{List, [], ◌∷◌, ◌++◌}
use Prim.Native.Nat.{ℕ}
use native.Mathlib.Omega.{arith}
use lib.ListN.{length, get_or}
use Rattle.slices.specs.Tests.{alike}
use Rattle.slices.proofs.Choice.{pick_yes, pick_no}
use Rattle.numbers.specs.Tables.{decision}
use Rattle.session_state.proofs.Nine.{nine_bytes}
use Rattle.quick_meet.specs.Meeting.{decision_met}
use Rattle.quick_meet.proofs.Tests.{there, as_going, as_stopped, word_inside}
use Rattle.quick_meet.proofs.meet.decided.Goals as goal

-- the bytes that are due, written out one by one
due_bytes : (outcome reason : ℕ) (tvr tsi : List ℕ) → length tvr ≡ 5 → length tsi ≡ 2
    → outcome ∷ reason ∷ get_or tvr 0 0 ∷ get_or tvr 1 0 ∷ get_or tvr 2 0 ∷ get_or tvr 3 0 ∷ get_or tvr 4 0 ∷ get_or tsi 0 0 ∷ get_or
    tsi 1 0 ∷ []
    ≡ outcome ∷ reason ∷ (tvr ++ tsi)
due_bytes outcome reason tvr tsi five two = ap (λ (l : List ℕ). outcome ∷ reason ∷ l) (nine_bytes tvr tsi five two)

pub returns-in-Err : goal.returns-in-Err
unfolding decision_met
returns-in-Err c =
    as_stopped c.word.result _ c.word.ensures _ _ _ c.in-Err.is

-- one block further
pub overflow_add-k : goal.overflow_add-k
overflow_add-k c =
    let args = c.args in
    let stands = sym (ap there c.word.ensures) ∙ ap there c.in_default.is in
    let inside = word_inside args.tape.now args.k decision stands in
    omega (arith, c.well_formed)

pub returns-then-alike : goal.returns-then-alike
unfolding decision_met
returns-then-alike c =
    let args = c.args in
    let five : length args.tvr ≡ 5 = omega (arith, c.well_formed) in
    let two : length args.tsi ≡ 2 = omega (arith, c.well_formed) in
    let test = c.alike.ensures
    ∙ ap₂ alike c.payload_at.ensures (due_bytes args.outcome args.reason args.tvr args.tsi five two) in
    c.last.ensures
    ∙ (sym (pick_yes _ _ _ (sym test ∙ c.if-alike.true))
    ∙ as_going c.word.result _ c.word.ensures _ _ (ap there c.in_default.is))

pub returns : goal.returns
unfolding decision_met
returns c =
    let args = c.args in
    let five : length args.tvr ≡ 5 = omega (arith, c.well_formed) in
    let two : length args.tsi ≡ 2 = omega (arith, c.well_formed) in
    let test = c.alike.ensures
    ∙ ap₂ alike c.payload_at.ensures (due_bytes args.outcome args.reason args.tvr args.tsi five two) in
    c.fail.ensures
    ∙ (sym (pick_no _ _ _ (sym test ∙ c.if-alike.false))
    ∙ as_going c.word.result _ c.word.ensures _ _ (ap there c.in_default.is))
