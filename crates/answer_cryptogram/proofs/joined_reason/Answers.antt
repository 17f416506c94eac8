-- `answer_cryptogram::joined_reason` meets its contract: the size, then what is given.
-- Assumes nothing.
use mathlib.Core.Path.{◌≡◌, refl, sym, ap, ◌∙◌}
use mathlib.Core.Bool.{not}
use mathlib.Core.List.{List, ◌∷◌, ◌++◌}
use Prim.Native.Nat.{ℕ}
use lib.ListN.{length}
use Rattle.slices.specs.Choice.{first_of}
use Rattle.slices.specs.Tests.{between as within}
use Rattle.slices.proofs.Lines.{line_yes, line_no}
use Rattle.tlv_list.specs.Objects.{between}
use Rattle.decide_cryptogram.specs.Cryptograms.{allowed_by}
use Rattle.answer_common.specs.Answer.{frame}
use Rattle.answer_common.specs.Forms.{both_forms}
use Rattle.answer_common.proofs.Limits.{between_in, between_below, between_above}
use Rattle.answer_cryptogram.specs.Cryptogram.{cryptogram_lines}
use Rattle.answer_cryptogram.proofs.Found.{last, joined_reason}
use Rattle.answer_cryptogram.proofs.joined_reason.Goals as goal

pub returns-then-both-lt11 : goal.returns-then-both-lt11
returns-then-both-lt11 c =
    let left : first_of (frame both_forms c.args.answer.now ++ cryptogram_lines (allowed_by c.args.request) c.args.answer.now)
    ≡ first_of ((not (within 11 43 (length c.value-both.result.now)), 5) ∷ last (allowed_by c.args.request) c.value-both.result.now) =
    let a = c.args in
    joined_reason (allowed_by a.request) a.answer.now a.start a.end c.requires
    (c.value-both.ensures ∙ ap (λ (x : List ℕ). between x a.start a.end) c.data_field.ensures)
    in
    sym (left ∙ line_yes refl 5 _ (ap not (between_below 11 43 _ c.if-both-lt11.true)))

pub returns-then-both-gt43 : goal.returns-then-both-gt43
returns-then-both-gt43 c =
    let left : first_of (frame both_forms c.args.answer.now ++ cryptogram_lines (allowed_by c.args.request) c.args.answer.now)
    ≡ first_of ((not (within 11 43 (length c.value-both.result.now)), 5) ∷ last (allowed_by c.args.request) c.value-both.result.now) =
    let a = c.args in
    joined_reason (allowed_by a.request) a.answer.now a.start a.end c.requires
    (c.value-both.ensures ∙ ap (λ (x : List ℕ). between x a.start a.end) c.data_field.ensures)
    in
    sym (left ∙ line_yes refl 5 _ (ap not (between_above 11 43 _ c.if-both-gt43.true)))

pub returns : goal.returns
returns c =
    let left : first_of (frame both_forms c.args.answer.now ++ cryptogram_lines (allowed_by c.args.request) c.args.answer.now)
    ≡ first_of ((not (within 11 43 (length c.value-both.result.now)), 5) ∷ last (allowed_by c.args.request) c.value-both.result.now) =
    let a = c.args in
    joined_reason (allowed_by a.request) a.answer.now a.start a.end c.requires
    (c.value-both.ensures ∙ ap (λ (x : List ℕ). between x a.start a.end) c.data_field.ensures)
    in
    c.given_reason.ensures
    ∙ sym (left ∙ line_no refl 5 _ (ap not (between_in 11 43 _ c.if-both-lt11.false c.if-both-gt43.false)))
