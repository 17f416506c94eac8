-- `answer_gpo::template_reason` meets its contract: the rest of reason 3, then the lines in their order, each left behind where its test
-- fails.
-- Assumes nothing.
use mathlib.Core.Path.{◌≡◌, refl, sym, ap, ◌∙◌}
use mathlib.Core.Bool.{true, not}
use mathlib.Core.List.{List, ◌++◌}
use Prim.Native.Nat.{ℕ}
use borrow.Author.Tests.{not-true, not-false}
use Rattle.slices.specs.Choice.{first_of}
use Rattle.slices.proofs.Lines.{line_yes, line_no, last_no}
use Rattle.tlv_list.specs.Objects.{between}
use Rattle.tlv_list.specs.Place.{data_field}
use Rattle.answer_afl.specs.Entries.{entries_right, too_many}
use Rattle.answer_common.specs.Answer.{frame}
use Rattle.answer_common.specs.Forms.{template, both_forms, lacks}
use Rattle.answer_common.specs.Named.{direct, any_times}
use Rattle.answer_common.proofs.Any.{any_yes, any_no, any_last}
use Rattle.answer_gpo.specs.Options.{option_names, locator_of, options_wrong, options_lines}
use Rattle.answer_gpo.proofs.Found.{no_list, on_lines, times_so, missing_so, wrong_so, locator_so}
use Rattle.answer_gpo.proofs.template_reason.Goals as goal
use Rattle.answer_gpo.proofs.template_reason.Goals.{Else-not-m, After-any_times, Then-is_wrong, After-is_wrong-2, After-value_of-afl}
use Rattle.answer_gpo.proofs.template_reason.Goals.{After-any_times-2}

-- the value of the one object, as the definitions have it
here : (a d s : List ℕ) (start end : ℕ) → d ≡ data_field a → s ≡ between d start end → s ≡ between (data_field a) start end
here a d s start end e f = f ∙ ap (λ (x : List ℕ). between x start end) e

-- from reason 4 on, and the test of each line as the code found it
lines : (c : Else-not-m) → first_of (frame both_forms c.args.answer.now ++ options_lines c.args.answer.now)
    ≡ first_of (options_lines c.args.answer.now)
lines c =
    on_lines c.args.answer.now c.args.start c.args.end c.requires
    (here _ _ _ _ _ c.data_field.ensures c.value-s.ensures) c.members-m.ensures
    (not-false _ c.if-not-m.false)

twice : (c : After-any_times) → c.any_times.result ≡ any_times 2 option_names (direct template c.args.answer.now)
twice c =
    c.any_times.ensures
    ∙ times_so c.args.answer.now c.args.start c.args.end c.requires
    (here _ _ _ _ _ c.data_field.ensures c.value-s.ensures) c.members-m.ensures
    (not-false _ c.if-not-m.false) 2

wrong_first : (c : Then-is_wrong) → true ≡ options_wrong c.args.answer.now
wrong_first c =
    sym
    (wrong_so c.args.answer.now c.args.start c.args.end c.requires
    (here _ _ _ _ _ c.data_field.ensures c.value-s.ensures) c.members-m.ensures
    (not-false _ c.if-not-m.false) ∙ any_yes c.is_wrong.ensures _ c.if-is_wrong.true)

wrong_second : (c : After-is_wrong-2) → c.is_wrong-2.result ≡ options_wrong c.args.answer.now
wrong_second c =
    sym
    (wrong_so c.args.answer.now c.args.start c.args.end c.requires
    (here _ _ _ _ _ c.data_field.ensures c.value-s.ensures) c.members-m.ensures
    (not-false _ c.if-not-m.false) ∙ (any_no c.is_wrong.ensures _ c.if-is_wrong.false ∙ any_last c.is_wrong-2.ensures))

afl : (c : After-value_of-afl) → c.value_of-afl.result.now ≡ locator_of c.args.answer.now
afl c =
    c.value_of-afl.ensures
    ∙ locator_so c.args.answer.now c.args.start c.args.end c.requires
    (here _ _ _ _ _ c.data_field.ensures c.value-s.ensures) c.members-m.ensures
    (not-false _ c.if-not-m.false)

missing : (c : After-any_times-2) → c.any_times-2.result ≡ lacks option_names c.args.answer.now
missing c =
    c.any_times-2.ensures
    ∙ missing_so c.args.answer.now c.args.start c.args.end c.requires
    (here _ _ _ _ _ c.data_field.ensures c.value-s.ensures) c.members-m.ensures
    (not-false _ c.if-not-m.false)

pub returns-then-not-m : goal.returns-then-not-m
returns-then-not-m c =
    sym
    (no_list c.args.answer.now c.args.start c.args.end c.requires
    (here _ _ _ _ _ c.data_field.ensures c.value-s.ensures) c.members-m.ensures
    (not-true _ c.if-not-m.true))

pub returns-then-any_times : goal.returns-then-any_times
unfolding options_lines
returns-then-any_times c =
    let p = goal.at.returns-then-any_times c in
    sym
    (lines p.Else-not-m
    ∙ line_yes (twice p.After-any_times) 4 _ c.if-any_times.true)

pub returns-then-is_wrong : goal.returns-then-is_wrong
unfolding options_lines
returns-then-is_wrong c =
    let p = goal.at.returns-then-is_wrong c in
    sym
    (lines p.Else-not-m
    ∙ (line_no (twice p.After-any_times) 4 _ c.if-any_times.false
    ∙ line_yes (wrong_first p.Then-is_wrong) 5 _ refl))

pub returns-then-is_wrong-2 : goal.returns-then-is_wrong-2
unfolding options_lines
returns-then-is_wrong-2 c =
    let p = goal.at.returns-then-is_wrong-2 c in
    sym
    (lines p.Else-not-m
    ∙ (line_no (twice p.After-any_times) 4 _ c.if-any_times.false
    ∙ line_yes (wrong_second p.After-is_wrong-2) 5 _ c.if-is_wrong-2.true))

pub returns-then-not-are_right : goal.returns-then-not-are_right
unfolding options_lines
returns-then-not-are_right c =
    let p = goal.at.returns-then-not-are_right c in
    sym
    (lines p.Else-not-m
    ∙ (line_no (twice p.After-any_times) 4 _ c.if-any_times.false
    ∙ (line_no (wrong_second p.After-is_wrong-2) 5 _ c.if-is_wrong-2.false
    ∙ line_yes (ap not (c.are_right.ensures ∙ ap entries_right (afl p.After-value_of-afl))) 6 _ (ap not c.if-not-are_right.true))))

pub returns-then-are_too_many : goal.returns-then-are_too_many
unfolding options_lines
returns-then-are_too_many c =
    let p = goal.at.returns-then-are_too_many c in
    sym
    (lines p.Else-not-m
    ∙ (line_no (twice p.After-any_times) 4 _ c.if-any_times.false
    ∙ (line_no (wrong_second p.After-is_wrong-2) 5 _ c.if-is_wrong-2.false
    ∙ (line_no (ap not (c.are_right.ensures ∙ ap entries_right (afl p.After-value_of-afl))) 6 _ (ap not c.if-not-are_right.false)
    ∙ line_yes (c.are_too_many.ensures ∙ ap too_many (afl p.After-value_of-afl)) 7 _ c.if-are_too_many.true))))

pub returns-then-any_times-2 : goal.returns-then-any_times-2
unfolding options_lines
returns-then-any_times-2 c =
    let p = goal.at.returns-then-any_times-2 c in
    sym
    (lines p.Else-not-m
    ∙ (line_no (twice p.After-any_times) 4 _ c.if-any_times.false
    ∙ (line_no (wrong_second p.After-is_wrong-2) 5 _ c.if-is_wrong-2.false
    ∙ (line_no (ap not (c.are_right.ensures ∙ ap entries_right (afl p.After-value_of-afl))) 6 _ (ap not c.if-not-are_right.false)
    ∙ (line_no (c.are_too_many.ensures ∙ ap too_many (afl p.After-value_of-afl)) 7 _ c.if-are_too_many.false
    ∙ line_yes (missing p.After-any_times-2) 8 _ c.if-any_times-2.true)))))

pub returns-else-any_times-2 : goal.returns-else-any_times-2
unfolding options_lines
returns-else-any_times-2 c =
    let p = goal.at.returns-else-any_times-2 c in
    sym
    (lines p.Else-not-m
    ∙ (line_no (twice p.After-any_times) 4 _ c.if-any_times.false
    ∙ (line_no (wrong_second p.After-is_wrong-2) 5 _ c.if-is_wrong-2.false
    ∙ (line_no (ap not (c.are_right.ensures ∙ ap entries_right (afl p.After-value_of-afl))) 6 _ (ap not c.if-not-are_right.false)
    ∙ (line_no (c.are_too_many.ensures ∙ ap too_many (afl p.After-value_of-afl)) 7 _ c.if-are_too_many.false
    ∙ last_no (missing p.After-any_times-2) 8 c.if-any_times-2.false)))))
