-- `answer_record::take_one` meets its contract: an object that counts is kept, as it is or as an empty one, and makes the reason no better.
-- Assumes nothing.
use mathlib.Core.Path.{◌≡◌, refl, sym, ap, ap₂, ◌∙◌}
use mathlib.Core.Bool.{Bool, true, false}
use mathlib.Core.List.{List, []}
use Prim.Native.Nat.{ℕ}
use Rattle.slices.specs.Choice.{pick}
use Rattle.slices.specs.Tests.{is_some}
use Rattle.slices.proofs.Choice.{pick_yes, pick_no}
use Rattle.answer_common.specs.Content.{right_value}
use Rattle.answer_common.specs.Named.{listed}
use Rattle.session_records.specs.Slots.{told_in, kept_in}
use Rattle.answer_record.specs.Taken.{taken, worse, one_taken}
use Rattle.answer_record.proofs.take_one.Goals as goal

module _ (names : List ℕ) (tag : ℕ) (v : List ℕ) (why : ℕ) (d : List ℕ) where
  module _ (l : listed tag names ≡ true) {again : Bool} (h : again ≡ is_some (told_in d tag)) {w : ℕ} {out : List ℕ} where
    counted : (right : Bool) (x : List ℕ) → right_value tag v ≡ right → pick right v [] ≡ x → w ≡ worse why again right → out
        ≡ kept_in tag x d
        → taken w out ≡ one_taken names tag v (taken why d)
    unfolding one_taken taken
    counted right x r e f g =
        ap₂ taken (f ∙ ap₂ (worse why) h (sym r)) (g ∙ ap (λ (y : List ℕ). kept_in tag y d) (sym (ap (λ (b : Bool). pick b v []) r ∙ e)))
        ∙ sym (pick_yes _ _ _ l)

  passed : listed tag names ≡ false → taken why d ≡ one_taken names tag v (taken why d)
  unfolding one_taken
  passed l = sym (pick_no _ _ _ l)

pub returns-then-is_right : goal.returns-then-is_right
returns-then-is_right c =
    let a = c.args in
    counted a.names.now a.tag a.v.now a.why a.told.now (sym c.is_listed.ensures ∙ c.if-is_listed.true)
    c.has-again.ensures true a.v.now (sym c.is_right.ensures ∙ c.if-is_right.true) (pick_yes _ _ _ refl) c.worse.ensures
    c.keep.ensures

pub returns-else-is_right : goal.returns-else-is_right
returns-else-is_right c =
    let a = c.args in
    counted a.names.now a.tag a.v.now a.why a.told.now (sym c.is_listed.ensures ∙ c.if-is_listed.true)
    c.has-again.ensures false [] (sym c.is_right.ensures ∙ c.if-is_right.false) (pick_no _ _ _ refl) c.worse-else-is_right.ensures
    c.keep-else-is_right.ensures

pub returns-else-is_listed : goal.returns-else-is_listed
returns-else-is_listed c =
    let a = c.args in
    passed a.names.now a.tag a.v.now a.why a.told.now (sym c.is_listed.ensures ∙ c.if-is_listed.false)
