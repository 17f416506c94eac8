-- `answer_gpo::joined_reason` meets its contract: the three tests of an AFL, in their order.
-- Assumes nothing.
use mathlib.Core.Path.{◌≡◌, sym, ap, ◌∙◌}
use mathlib.Core.Bool.{not}
use mathlib.Core.List.{List, [], ◌∷◌, ◌++◌}
use Prim.Native.Nat.{ℕ}
use native.Mathlib.Omega.{arith}
use lib.ListN.{length, drop}
use Rattle.slices.specs.Choice.{first_of}
use Rattle.slices.proofs.Cutting.{to_end}
use Rattle.slices.proofs.Lines.{line_yes, line_no, last_no}
use Rattle.tlv_list.specs.Objects.{between}
use Rattle.tlv_list.specs.Place.{data_field}
use Rattle.answer_afl.specs.Entries.{whole_entries, entries_right, too_many}
use Rattle.answer_common.specs.Answer.{frame}
use Rattle.answer_common.specs.Forms.{both_forms}
use Rattle.answer_gpo.specs.Options.{options_lines}
use Rattle.answer_gpo.proofs.Found.{joined_reason}
use Rattle.answer_gpo.proofs.joined_reason.Goals as goal

pub returns-then-not-are_whole : goal.returns-then-not-are_whole
returns-then-not-are_whole c =
    let here : c.part-afl.result.now ≡ drop 2 (between (data_field c.args.answer.now) c.args.start c.args.end) =
    let a = c.args in
    let v = c.value-both in
    c.part-afl.ensures
    ∙ (to_end (length v.result.now) 2 v.result.now (omega arith)
    ∙ ap (drop 2) (v.ensures ∙ ap (λ (x : List ℕ). between x a.start a.end) c.data_field.ensures))
    in
    let left : first_of (frame both_forms c.args.answer.now ++ options_lines c.args.answer.now)
    ≡ first_of ((not (whole_entries c.part-afl.result.now), 5) ∷ (not (entries_right c.part-afl.result.now), 6)
    ∷ (too_many c.part-afl.result.now, 7) ∷ []) =
    joined_reason c.args.answer.now c.args.start c.args.end c.requires (here)
    in
    sym (left ∙ line_yes (ap not c.are_whole.ensures) 5 _ (ap not c.if-not-are_whole.true))

pub returns-then-not-are_right : goal.returns-then-not-are_right
returns-then-not-are_right c =
    let here : c.part-afl.result.now ≡ drop 2 (between (data_field c.args.answer.now) c.args.start c.args.end) =
    let a = c.args in
    let v = c.value-both in
    c.part-afl.ensures
    ∙ (to_end (length v.result.now) 2 v.result.now (omega arith)
    ∙ ap (drop 2) (v.ensures ∙ ap (λ (x : List ℕ). between x a.start a.end) c.data_field.ensures))
    in
    let left : first_of (frame both_forms c.args.answer.now ++ options_lines c.args.answer.now)
    ≡ first_of ((not (whole_entries c.part-afl.result.now), 5) ∷ (not (entries_right c.part-afl.result.now), 6)
    ∷ (too_many c.part-afl.result.now, 7) ∷ []) =
    joined_reason c.args.answer.now c.args.start c.args.end c.requires (here)
    in
    sym
    (left
    ∙ (line_no (ap not c.are_whole.ensures) 5 _ (ap not c.if-not-are_whole.false)
    ∙ line_yes (ap not c.are_right.ensures) 6 _ (ap not c.if-not-are_right.true)))

pub returns-then-are_too_many : goal.returns-then-are_too_many
returns-then-are_too_many c =
    let here : c.part-afl.result.now ≡ drop 2 (between (data_field c.args.answer.now) c.args.start c.args.end) =
    let a = c.args in
    let v = c.value-both in
    c.part-afl.ensures
    ∙ (to_end (length v.result.now) 2 v.result.now (omega arith)
    ∙ ap (drop 2) (v.ensures ∙ ap (λ (x : List ℕ). between x a.start a.end) c.data_field.ensures))
    in
    let left : first_of (frame both_forms c.args.answer.now ++ options_lines c.args.answer.now)
    ≡ first_of ((not (whole_entries c.part-afl.result.now), 5) ∷ (not (entries_right c.part-afl.result.now), 6)
    ∷ (too_many c.part-afl.result.now, 7) ∷ []) =
    joined_reason c.args.answer.now c.args.start c.args.end c.requires (here)
    in
    sym
    (left
    ∙ (line_no (ap not c.are_whole.ensures) 5 _ (ap not c.if-not-are_whole.false)
    ∙ (line_no (ap not c.are_right.ensures) 6 _ (ap not c.if-not-are_right.false)
    ∙ line_yes c.are_too_many.ensures 7 _ c.if-are_too_many.true)))

pub returns-else-are_too_many : goal.returns-else-are_too_many
returns-else-are_too_many c =
    let here : c.part-afl.result.now ≡ drop 2 (between (data_field c.args.answer.now) c.args.start c.args.end) =
    let a = c.args in
    let v = c.value-both in
    c.part-afl.ensures
    ∙ (to_end (length v.result.now) 2 v.result.now (omega arith)
    ∙ ap (drop 2) (v.ensures ∙ ap (λ (x : List ℕ). between x a.start a.end) c.data_field.ensures))
    in
    let left : first_of (frame both_forms c.args.answer.now ++ options_lines c.args.answer.now)
    ≡ first_of ((not (whole_entries c.part-afl.result.now), 5) ∷ (not (entries_right c.part-afl.result.now), 6)
    ∷ (too_many c.part-afl.result.now, 7) ∷ []) =
    joined_reason c.args.answer.now c.args.start c.args.end c.requires (here)
    in
    sym
    (left
    ∙ (line_no (ap not c.are_whole.ensures) 5 _ (ap not c.if-not-are_whole.false)
    ∙ (line_no (ap not c.are_right.ensures) 6 _ (ap not c.if-not-are_right.false)
    ∙ last_no c.are_too_many.ensures 7 c.if-are_too_many.false)))
