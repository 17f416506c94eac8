-- `answer_select::select_reason` meets its contract: what the one object is decides, then its members.
-- Assumes nothing.
use mathlib.Core.Path.{◌≡◌, sym, ap, subst, ◌∙◌}
use mathlib.Core.Bool.{false}
use mathlib.Core.List.{List, [], ◌∷◌, ◌++◌}
use Prim.Native.Nat.{ℕ}
use borrow.Author.Tests.{ne_eqb}
use Rattle.slices.specs.Choice.{first_of}
use Rattle.slices.specs.Tables.{any_of}
use Rattle.slices.proofs.Choice.{pick_no}
use Rattle.answer_common.specs.Answer.{frame}
use Rattle.answer_common.specs.Named.{listed}
use Rattle.answer_common.specs.declared.answer.Single.TheVariants.{Object}
use Rattle.answer_common.proofs.Membered.{unexpected}
use Rattle.answer_common.proofs.Single.{Found, found, refused}
use Rattle.answer_select.specs.Select.{select_tag, select_lines, select_reason}
use Rattle.answer_select.proofs.select_reason.Goals as goal

not_listed : (tag : ℕ) → (tag ≡ select_tag → ⊥) → listed tag (select_tag ∷ []) ≡ false
unfolding listed any_of
not_listed tag n = pick_no _ _ _ (ne_eqb tag select_tag n)

pub returns-then-tag-ne-SELECTED : goal.returns-then-tag-ne-SELECTED
unfolding select_reason
returns-then-tag-ne-SELECTED c =
    let a = c.args.answer.now in
    sym
    (unexpected a c.in-Object.tag c.in-Object.from c.in-Object.end (sym c.single_of.ensures ∙ c.in-Object.is) (select_tag ∷ []) _
    (not_listed c.in-Object.tag c.if-tag-ne-SELECTED.true))

pub content_reason-requires : goal.content_reason-requires
content_reason-requires c =
    (sym c.single_of.ensures ∙ c.in-Object.is) ∙ ap (λ (t : ℕ). Object t c.in-Object.from c.in-Object.end) c.if-tag-ne-SELECTED.false

pub returns-in-Refused : goal.returns-in-Refused
unfolding select_reason
returns-in-Refused c =
    let a = c.args.answer.now in
    sym (refused a (select_tag ∷ []) _ c.in-Refused.why (subst (Found a) (sym c.single_of.ensures ∙ c.in-Refused.is) (found a)))

pub returns-else-tag-ne-SELECTED : goal.returns-else-tag-ne-SELECTED
unfolding select_reason
returns-else-tag-ne-SELECTED c =
    let a = c.args.answer.now in
    c.content_reason.ensures ∙ ap (λ (aid : List ℕ). first_of (frame (select_tag ∷ []) a ++ select_lines aid a)) c.aid.ensures
