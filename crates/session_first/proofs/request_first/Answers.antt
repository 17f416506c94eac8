-- `session_first::request_first` meets its contract: a reason ends the session, and otherwise the first GENERATE AC is filled from
-- 8C.
-- Assumes nothing.
use mathlib.Core.Path.{refl, sym, ap, ap₂, ◌∙◌}
use mathlib.Core.List.{List, []}
use Prim.Native.Nat.{ℕ}
use mathlib.Core.Option.{get_or}
use Rattle.start_fields.specs.Reading.{reading_of}
use Rattle.dol_fill.specs.Filled.{filling, unsupplied}
use Rattle.commands.specs.Commands.{cryptogram_command}
use Rattle.decide_cryptogram.specs.Cryptograms.{p1_of}
use Rattle.decide_requests.specs.Requests.{first_request}
use Rattle.decide_cryptogram.specs.declared.Cryptogram.{Cryptogram}
use Rattle.rulebook.specs.Situation.{list_in}
use Rattle.rulebook.specs.Phase.{first, asks, situation_of, command_of}
use Rattle.rulebook.specs.Turn.{requested}
use Rattle.rulebook_zeros.specs.Zeros.{unsupplied_asking}
use Rattle.facts.specs.Facts.{Facts}
use Rattle.session_records.specs.Slots.{told_in, told}
use Rattle.session_state.specs.Reading.{start_in, situation_with, late}
use Rattle.session_moves.specs.Moves.{question_of, cursor_asking, moved}
use Rattle.session_moves.proofs.Moving.{late_refused, asking_on, reason_next}
use Rattle.session_first.proofs.request_first.Goals as goal

pub returns-then-why-ne0 : goal.returns-then-why-ne0
unfolding requested late situation_with
returns-then-why-ne0 c =
    let args = c.args in
    let why = args.why in
    let s = args.s in
    let buf = args.buf.now in
    late_refused s buf why why (asks (first (late s) (first_request (reading_of (start_in s)) (late s).facts s.tvr))) refl
    c.requires c.if-why-ne0.true c.end.ensures

pub returns : goal.returns
unfolding requested late situation_with command_of situation_of question_of cursor_asking unsupplied_asking list_in told
returns c =
    let args = c.args in
    let why = args.why in
    let s = args.s in
    let buf = args.buf.now in
    let bytes = c.bytes_of-told.ensures.0 in
    let q = c.first_request-request.result
    in
    let asked = c.first_request-request.ensures
    ∙ ap₂ (λ (x d : List ℕ). first_request (reading_of x) (told_in d) s.tvr) c.part.ensures bytes in
    let list = c.value-list.ensures
    ∙ ap (λ (d : List ℕ). get_or (told_in d 0x8C) []) bytes in
    let same = ap₂ (λ (k : Facts) (l : List ℕ). cryptogram_command (p1_of q) (filling (reading_of (start_in s)) k l))
    c.at_first-known.ensures.known list in
    let lacks = c.missing-zeros.ensures
    ∙ ap₂ (unsupplied (reading_of (start_in s)))
    c.at_first-known.ensures.known list in
    asking_on s buf (first (late s) q) same c.generate-n.ensures.size
    c.generate-n.ensures.buffer c.ask.ensures lacks refl refl refl
    ∙ (ap (λ (x : Cryptogram). moved (asks (first (late s) x)) s buf) asked
    ∙ sym
    (reason_next why why (late s) (asks (first (late s) (first_request (reading_of (start_in s)) (late s).facts s.tvr))) s buf refl
    c.if-why-ne0.false))
