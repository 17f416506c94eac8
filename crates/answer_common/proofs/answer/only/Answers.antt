-- `answer_common::answer::only` meets its contract: what the reader finds at the front, and then after it, decides.
-- Assumes nothing.
use mathlib.Core.Path.{◌≡◌, sym, ◌∙◌}
use mathlib.Core.Bool.{true}
use Rattle.tlv_list.specs.Objects.{is_list}
use Rattle.answer_common.proofs.Outer.{refused, not_refused, only_refused, only_end}
use Rattle.answer_common.proofs.Outer.{only_broken, only_one, only_then_broken, only_and_more}
use Rattle.answer_common.proofs.answer.only.Goals as goal

pub returns-then-list_refusal-ne0 : goal.returns-then-list_refusal-ne0
returns-then-list_refusal-ne0 c =
    let s = c.args.s.now in
    only_refused s (refused s c.requires (λ e. c.if-list_refusal-ne0.true (c.list_refusal.ensures ∙ e)))

pub returns-in-End : goal.returns-in-End
returns-in-End c = only_end _ (sym c.next.ensures ∙ c.in-End.is)

pub returns-in-Broken : goal.returns-in-Broken
returns-in-Broken c = only_broken _ (sym c.next.ensures ∙ c.in-Broken.is)

pub returns-in-End-next : goal.returns-in-End-next
returns-in-End-next c =
    let is_list_lem : is_list c.args.s.now ≡ true =
    not_refused _ (sym c.list_refusal.ensures ∙ c.if-list_refusal-ne0.false)
    in
    only_one _ (is_list_lem) _ _ _ (sym c.next.ensures ∙ c.in-Member.is)
    (sym c.next-in-Member.ensures ∙ c.in-End-next.is)

pub returns-in-Broken-next : goal.returns-in-Broken-next
returns-in-Broken-next c =
    let is_list_lem : is_list c.args.s.now ≡ true =
    not_refused _ (sym c.list_refusal.ensures ∙ c.if-list_refusal-ne0.false)
    in
    only_then_broken _ (is_list_lem) _ _ _
    (sym c.next.ensures ∙ c.in-Member.is)
    (sym c.next-in-Member.ensures ∙ c.in-Broken-next.is)

pub returns-in-Member-next : goal.returns-in-Member-next
returns-in-Member-next c =
    let is_list_lem : is_list c.args.s.now ≡ true =
    not_refused _ (sym c.list_refusal.ensures ∙ c.if-list_refusal-ne0.false)
    in
    only_and_more _ (is_list_lem) _ _ _ (sym c.next.ensures ∙ c.in-Member.is)
    _ _ _ (sym c.next-in-Member.ensures ∙ c.in-Member-next.is)
