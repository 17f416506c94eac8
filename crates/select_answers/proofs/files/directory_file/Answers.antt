-- `files::directory_file` meets its contract: 88 in a good FCI of the environment.
-- Assumes nothing.
use mathlib.Core.Path.{◌≡◌, sym, ap, ap₂, ◌∙◌}
use mathlib.Core.List.{List}
use Prim.Native.Nat.{ℕ}
use native.Mathlib.Omega.{arith}
use lib.ListN.{get_or}
use Rattle.slices.proofs.Choice.{pick_yes, pick_no}
use Rattle.tlv_list.specs.Lookup.{Lookup}
use Rattle.answer_common.specs.Named.{direct, value_of}
use Rattle.answer_select.specs.Select.{select_tag, inner}
use Rattle.select_answers.specs.Files.{environment_right, directory_file}
use Rattle.select_answers.proofs.Selected.{outer_found, inner_found}
use Rattle.select_answers.proofs.files.directory_file.Goals as goal

pub returns-then-is_environment : goal.returns-then-is_environment
unfolding directory_file
returns-then-is_environment c =
    let found : c.is_environment.result ≡ environment_right (direct select_tag c.args.answer.now) (inner c.args.answer.now) =
    let a = c.args.answer.now in
    c.is_environment.ensures
    ∙ ap₂ environment_right (outer_found a c.inside.ensures) (inner_found a c.proprietary-inner.ensures)
    in
    let a = c.args.answer.now in (
      c.byte.ensures.0
          ∙ (ap (λ (v : List ℕ). get_or v 0 0)
          (c.value_in_checked.ensures
          ∙ ap (λ (look : ℕ → Lookup). value_of (look 0x88)) (inner_found a c.proprietary-inner.ensures))
          ∙ sym (pick_yes _ _ _ (sym (found) ∙ c.if-is_environment.true))),
      c.byte.ensures.1,
    )

pub returns : goal.returns
unfolding directory_file
returns c =
    let found : c.is_environment.result ≡ environment_right (direct select_tag c.args.answer.now) (inner c.args.answer.now) =
    let a = c.args.answer.now in
    c.is_environment.ensures
    ∙ ap₂ environment_right (outer_found a c.inside.ensures) (inner_found a c.proprietary-inner.ensures)
    in
    (sym (pick_no _ _ _ (sym (found) ∙ c.if-is_environment.false)), omega arith)
