-- `answer_cryptogram::template_reason` meets its contract: the rest of reason 3, then the lines in their order, each left behind where its
-- test fails.
-- Assumes nothing.
use mathlib.Core.Path.{◌≡◌, sym, ap, ◌∙◌}
use mathlib.Core.List.{List, ◌++◌}
use Prim.Native.Nat.{ℕ}
use borrow.Author.Tests.{not-true, not-false}
use Rattle.slices.specs.Choice.{first_of}
use Rattle.slices.proofs.Lines.{line_yes, line_no}
use Rattle.tlv_list.specs.Objects.{between}
use Rattle.tlv_list.specs.Place.{data_field}
use Rattle.decide_cryptogram.specs.Cryptograms.{allowed_by}
use Rattle.answer_common.specs.Answer.{frame}
use Rattle.answer_common.specs.Forms.{template, both_forms, lacks}
use Rattle.answer_common.specs.Named.{direct, any_times}
use Rattle.answer_cryptogram.specs.Cryptogram.{mandatory_names, cryptogram_names, cryptogram_wrong, cryptogram_lines}
use Rattle.answer_cryptogram.proofs.Found.{last, no_list, on_lines, twice_so, missing_so, wrong_so, last_so}
use Rattle.answer_cryptogram.proofs.template_reason.Goals as goal
use Rattle.answer_cryptogram.proofs.template_reason.Goals.{Else-not-m, After-any_times, After-is_any_wrong, After-any_times-2}

-- the value of the one object, as the definitions have it
here : (a d s : List ℕ) (start end : ℕ) → d ≡ data_field a → s ≡ between d start end → s ≡ between (data_field a) start end
here a d s start end e f = f ∙ ap (λ (x : List ℕ). between x start end) e

-- from reason 4 on, and the test of each line as the code found it
lines : (c : Else-not-m) → first_of (frame both_forms c.args.answer.now ++ cryptogram_lines (allowed_by c.args.request) c.args.answer.now)
    ≡ first_of (cryptogram_lines (allowed_by c.args.request) c.args.answer.now)
lines c = on_lines (allowed_by c.args.request) c.args.answer.now c.args.start c.args.end c.requires
    (here _ _ _ _ _ c.data_field.ensures c.value-s.ensures) c.members-m.ensures (not-false _ c.if-not-m.false)

twice : (c : After-any_times) → c.any_times.result ≡ any_times 2 cryptogram_names (direct template c.args.answer.now)
twice c = c.any_times.ensures ∙ twice_so (allowed_by c.args.request) c.args.answer.now c.args.start c.args.end c.requires
    (here _ _ _ _ _ c.data_field.ensures c.value-s.ensures) c.members-m.ensures (not-false _ c.if-not-m.false)

wrong : (c : After-is_any_wrong) → c.is_any_wrong.result ≡ cryptogram_wrong c.args.answer.now
wrong c = c.is_any_wrong.ensures ∙ wrong_so (allowed_by c.args.request) c.args.answer.now c.args.start c.args.end c.requires
    (here _ _ _ _ _ c.data_field.ensures c.value-s.ensures) c.members-m.ensures (not-false _ c.if-not-m.false)

missing : (c : After-any_times-2) → c.any_times-2.result ≡ lacks mandatory_names c.args.answer.now
missing c = c.any_times-2.ensures ∙ missing_so (allowed_by c.args.request) c.args.answer.now c.args.start c.args.end c.requires
    (here _ _ _ _ _ c.data_field.ensures c.value-s.ensures) c.members-m.ensures (not-false _ c.if-not-m.false)

pub returns-then-not-m : goal.returns-then-not-m
returns-then-not-m c = sym (no_list (allowed_by c.args.request) c.args.answer.now c.args.start c.args.end c.requires
    (here _ _ _ _ _ c.data_field.ensures c.value-s.ensures) c.members-m.ensures (not-true _ c.if-not-m.true))

pub returns-then-any_times : goal.returns-then-any_times
unfolding cryptogram_lines
returns-then-any_times c =
    let p = goal.at.returns-then-any_times c in
    sym
    (lines p.Else-not-m
    ∙ line_yes (twice p.After-any_times) 4 _ c.if-any_times.true)

pub returns-then-is_any_wrong : goal.returns-then-is_any_wrong
unfolding cryptogram_lines
returns-then-is_any_wrong c =
    let p = goal.at.returns-then-is_any_wrong c in
    sym
    (lines p.Else-not-m
    ∙ (line_no (twice p.After-any_times) 4 _ c.if-any_times.false
    ∙ line_yes (wrong p.After-is_any_wrong) 5 _ c.if-is_any_wrong.true))

pub returns-then-any_times-2 : goal.returns-then-any_times-2
unfolding cryptogram_lines
returns-then-any_times-2 c =
    let p = goal.at.returns-then-any_times-2 c in
    sym
    (lines p.Else-not-m
    ∙ (line_no (twice p.After-any_times) 4 _ c.if-any_times.false
    ∙ (line_no (wrong p.After-is_any_wrong) 5 _ c.if-is_any_wrong.false
    ∙ line_yes (missing p.After-any_times-2) 8 _ c.if-any_times-2.true)))

pub returns : goal.returns
unfolding cryptogram_lines
returns c =
    let p = goal.at.returns c in
    let lines_left =
    lines p.Else-not-m
    ∙ (line_no (twice p.After-any_times) 4 _ c.if-any_times.false
    ∙ (line_no (wrong p.After-is_any_wrong) 5 _ c.if-is_any_wrong.false
    ∙ line_no (missing p.After-any_times-2) 8 _ c.if-any_times-2.false))
    in
    c.given_reason.ensures
    ∙ (ap (λ (x : List ℕ). first_of (last (allowed_by c.args.request) x)) c.value_of.ensures
    ∙ (last_so (allowed_by c.args.request) c.args.answer.now c.args.start c.args.end c.requires
    (here _ _ _ _ _ c.data_field.ensures c.value-s.ensures) c.members-m.ensures
    (not-false _ c.if-not-m.false) ∙ sym lines_left))
