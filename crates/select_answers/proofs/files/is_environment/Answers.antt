-- `files::is_environment` meets its contract: the tests in their order.
-- Assumes nothing.
use mathlib.Core.Path.{◌≡◌, sym, ap, ◌∙◌}
use Prim.Native.Nat.{ℕ}
use lib.Dec.{eqb}
use borrow.Author.Tests.{eq-eqb, ne_eqb}
use Rattle.slices.proofs.Tests.{held, failed, passed, refused, last}
use Rattle.select_names.specs.Names.{begins_with}
use Rattle.answer_common.specs.Named.{standing, value_of}
use Rattle.select_answers.specs.Files.{environment, environment_right}
use mathlib.Core.Bool.{not}
use Rattle.select_answers.proofs.files.is_environment.Goals as goal

pub returns-then-not-is_name : goal.returns-then-not-is_name
unfolding environment_right
returns-then-not-is_name c = sym (refused c.is_name.ensures _ (ap not c.if-not-is_name.true))

pub returns-then-not-begins_with : goal.returns-then-not-begins_with
unfolding environment_right
returns-then-not-begins_with c =
    let begun : c.begins_with.result ≡ begins_with environment (value_of (standing c.args.s.now 0x84)) =
    c.begins_with.ensures ∙ ap (begins_with environment) c.value_in_checked.ensures
    in
    sym (passed c.is_name.ensures _ (ap not c.if-not-is_name.false) ∙ refused (begun) _ (ap not c.if-not-begins_with.true))

pub returns-then-times_in_checked-eq1 : goal.returns-then-times_in_checked-eq1
unfolding environment_right
returns-then-times_in_checked-eq1 c =
    let begun : c.begins_with.result ≡ begins_with environment (value_of (standing c.args.s.now 0x84)) =
    c.begins_with.ensures ∙ ap (begins_with environment) c.value_in_checked.ensures
    in
    let once' = ap (λ (n : ℕ). eqb n 1) c.times_in_checked.ensures in
    sym (passed c.is_name.ensures _ (ap not c.if-not-is_name.false)
    ∙ (passed (begun) _ (ap not c.if-not-begins_with.false)
    ∙ (held once' _ (eq-eqb _ _ c.if-times_in_checked-eq1.true) ∙ last c.is_file.ensures)))

pub returns-else-times_in_checked-eq1 : goal.returns-else-times_in_checked-eq1
unfolding environment_right
returns-else-times_in_checked-eq1 c =
    let begun : c.begins_with.result ≡ begins_with environment (value_of (standing c.args.s.now 0x84)) =
    c.begins_with.ensures ∙ ap (begins_with environment) c.value_in_checked.ensures
    in
    let once' = ap (λ (n : ℕ). eqb n 1) c.times_in_checked.ensures in
    sym (passed c.is_name.ensures _ (ap not c.if-not-is_name.false)
    ∙ (passed (begun) _ (ap not c.if-not-begins_with.false)
    ∙ failed once' _ (ne_eqb _ _ c.if-times_in_checked-eq1.false)))
