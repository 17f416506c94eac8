-- `answer_cryptogram::cryptogram_reason` meets its contract: what the one object is decides, then what is in it.
-- Assumes nothing.
use mathlib.Core.Path.{sym, ap, ◌∙◌}
use Prim.Native.Nat.{ℕ}
use Rattle.answer_common.specs.declared.answer.Single.TheVariants.{Object}
use Rattle.answer_common.proofs.BothForms.{refused, other}
use Rattle.answer_cryptogram.specs.Cryptogram.{cryptogram_reason}
use Rattle.answer_cryptogram.proofs.cryptogram_reason.Goals as goal

pub joined_reason-requires : goal.joined_reason-requires
joined_reason-requires c =
    sym c.single_of.ensures ∙ (c.in-Object.is ∙ ap (λ (t : ℕ). Object t c.in-Object.start c.in-Object.end) c.if-tag-eq-JOINED.true)

pub returns-then-tag-eq-JOINED : goal.returns-then-tag-eq-JOINED
unfolding cryptogram_reason
returns-then-tag-eq-JOINED c = c.joined_reason.ensures

pub template_reason-requires : goal.template_reason-requires
template_reason-requires c =
    sym c.single_of.ensures ∙ (c.in-Object.is ∙ ap (λ (t : ℕ). Object t c.in-Object.start c.in-Object.end) c.if-tag-eq-TEMPLATE.true)

pub returns-in-Refused : goal.returns-in-Refused
unfolding cryptogram_reason
returns-in-Refused c =
    refused c.args.answer.now _ c.in-Refused.why (sym c.single_of.ensures ∙ c.in-Refused.is)

pub returns-then-tag-eq-TEMPLATE : goal.returns-then-tag-eq-TEMPLATE
unfolding cryptogram_reason
returns-then-tag-eq-TEMPLATE c = c.template_reason.ensures

pub returns-else-tag-eq-TEMPLATE : goal.returns-else-tag-eq-TEMPLATE
unfolding cryptogram_reason
returns-else-tag-eq-TEMPLATE c =
    other c.args.answer.now _ c.in-Object.tag c.in-Object.start c.in-Object.end
    (sym c.single_of.ensures ∙ c.in-Object.is) c.if-tag-eq-JOINED.false c.if-tag-eq-TEMPLATE.false
