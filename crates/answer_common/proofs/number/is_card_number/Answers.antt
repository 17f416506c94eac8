-- `answer_common::number::is_card_number` meets its contract: the definition's tests in their order.
-- Assumes nothing.
use mathlib.Core.Path.{refl, sym, ap, ◌∙◌}
use Prim.Native.Nat.{ℕ}
use lib.Dec.{leb}
use lib.ListN.{length, drop}
use borrow.Author.Tests.{le-leb, lt-leb}
use Rattle.slices.proofs.Tests.{held, failed, last}
use Rattle.answer_common.specs.CardNumber.{halves, only_f, card_number}
use Rattle.answer_common.proofs.Limits.{between_in, between_below, between_above}
use Rattle.answer_common.proofs.number.is_card_number.Goals as goal

pub returns-then-v-lt1 : goal.returns-then-v-lt1
unfolding card_number
returns-then-v-lt1 c = let bad = between_below 1 10 _ c.if-v-lt1.true in sym (failed refl _ bad ∙ bad)

pub returns-then-v-gt10 : goal.returns-then-v-gt10
unfolding card_number
returns-then-v-gt10 c = let bad = between_above 1 10 _ c.if-v-gt10.true in sym (failed refl _ bad ∙ bad)

pub returns-then-n-ge1 : goal.returns-then-n-ge1
unfolding card_number
returns-then-n-ge1 c =
    let v = c.args.v.now in
    let n = c.digits-n.ensures in
    let size = between_in 1 10 (length v) c.if-v-lt1.false c.if-v-gt10.false in
    let filled = c.is_only_f.ensures ∙ ap (λ (k : ℕ). only_f (drop k (halves v))) n in
    sym (held refl _ size ∙ (held (ap (leb 1) n) _ (le-leb _ _ c.if-n-ge1.true) ∙ last filled))

pub returns-else-n-ge1 : goal.returns-else-n-ge1
unfolding card_number
returns-else-n-ge1 c =
    let v = c.args.v.now in
    let n = c.digits-n.ensures in
    let size = between_in 1 10 (length v) c.if-v-lt1.false c.if-v-gt10.false in
    sym (held refl _ size ∙ failed (ap (leb 1) n) _ (lt-leb _ _ c.if-n-ge1.false))
