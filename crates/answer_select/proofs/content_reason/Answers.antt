-- `answer_select::content_reason` meets its contract: the rest of reason 3, then the lines in their order, each left behind where its test
-- fails.
-- Assumes nothing.
use mathlib.Core.Path.{◌≡◌, sym, ap, ◌∙◌}
use mathlib.Core.Bool.{not}
use mathlib.Core.List.{List, [], ◌∷◌, ◌++◌}
use Prim.Native.Nat.{ℕ}
use borrow.Author.Tests.{not-true, not-false}
use Rattle.slices.specs.Choice.{first_of}
use Rattle.slices.proofs.Lines.{line_yes, line_no, last_no}
use Rattle.tlv_list.specs.Objects.{between}
use Rattle.tlv_list.specs.Place.{data_field}
use Rattle.tlv_list.specs.Lookup.{found_value}
use Rattle.tlv_list.specs.declared.Found.{Found}
use Rattle.dol_wanted.specs.Wanted.{fillable}
use Rattle.answer_common.specs.Answer.{frame}
use Rattle.answer_common.specs.Named.{direct}
use Rattle.answer_select.specs.Select.{select_tag, inner, select_lines}
use Rattle.answer_select.proofs.Found.{twice_so, wrong_so, missing_so, pdol_so, no_list, on_lines, name_found, a5_found, list_found}
use Rattle.answer_select.proofs.content_reason.Goals as goal
use Rattle.answer_select.proofs.content_reason.Goals.{After-members-n}

-- the value of the one object, as the definitions have it
here : (a d s : List ℕ) (start end : ℕ) → d ≡ data_field a → s ≡ between d start end → s ≡ between (data_field a) start end
here a d s start end e f = f ∙ ap (λ (x : List ℕ). between x start end) e

-- what stands under the three names
record Seen (a s p : List ℕ) (name in-a5 list : Found) : Type 0 where
  one : direct select_tag a 0x84 ≡ found_value s name
  two : direct select_tag a 0xA5 ≡ found_value s in-a5
  three : inner a 0x9F38 ≡ found_value p list

seen : (c : After-members-n) → Seen c.args.answer.now c.value-s.result.now c.value_of-p.result.now c.members-m.result.first
    c.members-m.result.second c.members-n.result.first
seen c = record {
  one = name_found c.args.answer.now c.args.aid.now c.args.start c.args.end c.requires
      (here _ _ _ _ _ c.data_field.ensures c.value-s.ensures) c.members-m.ensures (not-false _ c.if-not-m.false);
  two = a5_found c.args.answer.now c.args.aid.now c.args.start c.args.end c.requires
      (here _ _ _ _ _ c.data_field.ensures c.value-s.ensures) c.members-m.ensures (not-false _ c.if-not-m.false);
  three = list_found c.args.answer.now c.args.aid.now c.args.start c.args.end c.requires
      (here _ _ _ _ _ c.data_field.ensures c.value-s.ensures) c.members-m.ensures (not-false _ c.if-not-m.false)
      c.value_of-p.ensures c.members-n.ensures;
}

-- from reason 4 on
lines : (c : After-members-n) → first_of (frame (0x6F ∷ []) c.args.answer.now ++ select_lines c.args.aid.now c.args.answer.now)
    ≡ first_of (select_lines c.args.aid.now c.args.answer.now)
lines c = on_lines c.args.answer.now c.args.aid.now c.args.start c.args.end c.requires
    (here _ _ _ _ _ c.data_field.ensures c.value-s.ensures) c.members-m.ensures (not-false _ c.if-not-m.false)

pub returns-then-not-m : goal.returns-then-not-m
returns-then-not-m c = sym (no_list c.args.answer.now c.args.aid.now c.args.start c.args.end c.requires
    (here _ _ _ _ _ c.data_field.ensures c.value-s.ensures) c.members-m.ensures (not-true _ c.if-not-m.true))

pub returns-then-any_times : goal.returns-then-any_times
unfolding select_lines
returns-then-any_times c =
    let p = goal.at.returns-then-any_times c in
    let f = seen p.After-members-n in
    sym
    (lines p.After-members-n
    ∙ line_yes (c.any_times.ensures ∙ twice_so _ c.args.aid.now _ _ _ _ _ f.one f.two f.three) 4 _ c.if-any_times.true)

pub returns-then-is_wrong : goal.returns-then-is_wrong
unfolding select_lines
returns-then-is_wrong c =
    let p = goal.at.returns-then-is_wrong c in
    let f = seen p.After-members-n in
    sym
    (lines p.After-members-n
    ∙ (line_no (c.any_times.ensures ∙ twice_so _ c.args.aid.now _ _ _ _ _ f.one f.two f.three) 4 _ c.if-any_times.false
    ∙ line_yes (c.is_wrong.ensures ∙ wrong_so _ c.args.aid.now _ _ _ _ _ f.one f.two f.three) 5 _ c.if-is_wrong.true))

pub returns-then-any_times-2 : goal.returns-then-any_times-2
unfolding select_lines
returns-then-any_times-2 c =
    let p = goal.at.returns-then-any_times-2 c in
    let f = seen p.After-members-n in
    sym
    (lines p.After-members-n
    ∙ (line_no (c.any_times.ensures ∙ twice_so _ c.args.aid.now _ _ _ _ _ f.one f.two f.three) 4 _ c.if-any_times.false
    ∙ (line_no (c.is_wrong.ensures ∙ wrong_so _ c.args.aid.now _ _ _ _ _ f.one f.two f.three) 5 _ c.if-is_wrong.false
    ∙ line_yes (c.any_times-2.ensures ∙ missing_so _ c.args.aid.now _ _ _ _ _ f.one f.two f.three) 8 _ c.if-any_times-2.true)))

pub returns-then-is_fillable : goal.returns-then-is_fillable
unfolding select_lines
returns-then-is_fillable c =
    let p = goal.at.returns-then-is_fillable c in
    let f = seen p.After-members-n in
    sym
    (lines p.After-members-n
    ∙ (line_no (c.any_times.ensures ∙ twice_so _ c.args.aid.now _ _ _ _ _ f.one f.two f.three) 4 _ c.if-any_times.false
    ∙ (line_no (c.is_wrong.ensures ∙ wrong_so _ c.args.aid.now _ _ _ _ _ f.one f.two f.three) 5 _ c.if-is_wrong.false
    ∙ (line_no (c.any_times-2.ensures ∙ missing_so _ c.args.aid.now _ _ _ _ _ f.one f.two f.three) 8 _ c.if-any_times-2.false
    ∙ last_no
    (ap not (c.is_fillable.ensures ∙ ap fillable (c.value_of.ensures ∙ pdol_so _ c.args.aid.now _ _ _ _ _ f.one f.two f.three)))
    9 (ap not c.if-is_fillable.true)))))

pub returns-else-is_fillable : goal.returns-else-is_fillable
unfolding select_lines
returns-else-is_fillable c =
    let p = goal.at.returns-else-is_fillable c in
    let f = seen p.After-members-n in
    sym
    (lines p.After-members-n
    ∙ (line_no (c.any_times.ensures ∙ twice_so _ c.args.aid.now _ _ _ _ _ f.one f.two f.three) 4 _ c.if-any_times.false
    ∙ (line_no (c.is_wrong.ensures ∙ wrong_so _ c.args.aid.now _ _ _ _ _ f.one f.two f.three) 5 _ c.if-is_wrong.false
    ∙ (line_no (c.any_times-2.ensures ∙ missing_so _ c.args.aid.now _ _ _ _ _ f.one f.two f.three) 8 _ c.if-any_times-2.false
    ∙ line_yes
    (ap not (c.is_fillable.ensures ∙ ap fillable (c.value_of.ensures ∙ pdol_so _ c.args.aid.now _ _ _ _ _ f.one f.two f.three)))
    9 _ (ap not c.if-is_fillable.false)))))
