-- `session_second::request_second` meets its contract: the second GENERATE AC is filled from 8D, where that can be filled.
-- Assumes nothing.
use mathlib.Core.Path.{refl, sym, ap, ap₂, ◌∙◌}
use mathlib.Core.List.{List, []}
use Prim.Native.Nat.{ℕ}
use mathlib.Core.Option.{some, get_or}
use Rattle.slices.proofs.Choice.{pick_yes, pick_no}
use Rattle.start_fields.specs.Reading.{reading_of}
use Rattle.dol_wanted.specs.Wanted.{fillable}
use Rattle.dol_fill.specs.Filled.{filling, unsupplied}
use Rattle.commands.specs.Commands.{cryptogram_command}
use Rattle.decide_cryptogram.specs.Cryptograms.{p1_of}
use Rattle.decide_requests.specs.Replies.{response_code}
use Rattle.decide_cryptogram.specs.declared.Cryptogram.{Cryptogram}
use Rattle.rulebook.specs.Situation.{list_in, known_in}
use Rattle.rulebook.specs.Phase.{second, Phase, asks, situation_of, command_of, ended}
use Rattle.rulebook.specs.Turn.{replied}
use Rattle.rulebook_zeros.specs.Zeros.{unsupplied_asking}
use Rattle.facts.specs.Facts.{Facts}
use Rattle.session_records.specs.Slots.{told_in, told}
use Rattle.session_state.specs.Reading.{start_in, situation_with, late}
use Rattle.session_moves.specs.Moves.{question_of, cursor_asking, moved}
use Rattle.session_moves.proofs.Moving.{late_decided, asking_on}
use Rattle.session_second.proofs.request_second.Goals as goal

abbrev list_at : List ℕ → List ℕ
list_at d = get_or (told_in d 0x8D) []

pub returns-then-is_fillable : goal.returns-then-is_fillable
unfolding replied late situation_with command_of situation_of question_of cursor_asking unsupplied_asking list_in told
returns-then-is_fillable c =
    let args = c.args in
    let s = args.s in
    let buf = args.buf.now in
    let reply = args.reply in
    let code = args.code in
    let bytes = c.bytes_of-told.ensures.0 in
    let q = c.second-request.result in
    let known = c.at_second-known.ensures.known
    ∙ ap (λ (x : List ℕ). known_in (late s) (some x))
    c.response_code-response.ensures
    in
    let list = c.value-list.ensures ∙ ap list_at bytes in
    let same = ap₂ (λ (k : Facts) (l : List ℕ). cryptogram_command (p1_of q) (filling (reading_of (start_in s)) k l)) known list in
    let lacks = c.missing-zeros.ensures ∙ ap₂ (unsupplied (reading_of (start_in s))) known list in
    asking_on s buf (second (late s) q (response_code reply q code)) same
    c.generate-n.ensures.size
    c.generate-n.ensures.buffer c.ask.ensures lacks refl refl refl
    ∙ (ap (λ (x : Cryptogram). moved (asks (second (late s) x (response_code reply x code))) s buf)
    c.second-request.ensures
    ∙ sym
    (ap (λ (p : Phase). moved p s buf)
    (pick_yes _ _ _
    (sym (c.is_fillable.ensures
    ∙ ap fillable
    list)
    ∙ c.if-is_fillable.true))))

pub returns-else-is_fillable : goal.returns-else-is_fillable
unfolding replied ended late situation_with list_in told
returns-else-is_fillable c =
    let args = c.args in
    let s = args.s in
    let buf = args.buf.now in
    let list = c.value-list.ensures ∙ ap list_at c.bytes_of-told.ensures.0 in
    late_decided s buf 3 9 c.end.ensures
    ∙ sym (ap (λ (p : Phase). moved p s buf)
    (pick_no _ _ _ (sym (c.is_fillable.ensures ∙ ap fillable list) ∙ c.if-is_fillable.false)))
