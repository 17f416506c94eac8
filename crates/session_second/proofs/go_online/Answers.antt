-- `session_second::go_online` meets its contract: a terminal of type 0 goes on as unable, whatever code stands beside that.
-- Assumes nothing.
use mathlib.Core.Path.{◌≡◌, refl, sym, ap, ◌∙◌}
use mathlib.Core.List.{List, [], ◌∷◌}
use Prim.Native.Nat.{ℕ}
use borrow.Author.Tests.{eq-eqb, ne_eqb}
use Rattle.slices.proofs.Choice.{pick_yes, pick_no}
use Rattle.slices.specs.Choice.{pick}
use Rattle.start_fields.specs.Reading.{reading_of}
use Rattle.dol_wanted.specs.Wanted.{fillable}
use Rattle.decide_requests.specs.Requests.{second_request}
use Rattle.decide_requests.specs.declared.reply.HostReply.TheVariants.{Unable}
use Rattle.words.specs.declared.Word.TheVariants.{Host}
use Rattle.rulebook.specs.Situation.{list_in}
use Rattle.rulebook.specs.Phase.{says, second, Phase, asks, due_kind, tvr_of, tsi_of, ended}
use Rattle.rulebook.specs.Turn.{wanted_in, replied, online}
use Rattle.session_state.specs.Reading.{start_in, situation_with, late}
use Rattle.session_moves.specs.Moves.{speaker_of, moved}
use Rattle.session_moves.proofs.Moving.{hearing}
use Rattle.decide_requests.proofs.Replying.{unable_code}
use Rattle.session_second.proofs.go_online.Goals as goal

kind_of_lem : {x y : List ℕ} → x ≡ y → (reading_of x).kind ≡ (reading_of y).kind
kind_of_lem e = ap (λ (l : List ℕ). (reading_of l).kind) e

pub returns-then-kind-eq0 : goal.returns-then-kind-eq0
unfolding online replied late situation_with
returns-then-kind-eq0 c =
    let args = c.args in
    let s = args.s in
    let buf = args.buf.now in
    let z = late s in
    let q = second_request Unable (reading_of (start_in s)) z.facts s.tvr in
    let same = ap (λ (x : List ℕ). pick (fillable (list_in z 0x8D)) (asks (second z q x)) (ended 9 z)) (unable_code q (0 ∷ 0 ∷ []) []) in
    c.request_second.ensures
    ∙ ap (λ (p : Phase). moved p s buf) (same
    ∙ sym
    (pick_yes _ _ _
    (eq-eqb (reading_of (start_in s)).kind 0
    (sym (c.kind.ensures ∙ kind_of_lem c.part.ensures) ∙ c.if-kind-eq0.true))))

pub returns-else-kind-eq0 : goal.returns-else-kind-eq0
unfolding online late situation_with speaker_of wanted_in due_kind tvr_of tsi_of
returns-else-kind-eq0 c =
    let args = c.args in
    let s = args.s in
    let buf = args.buf.now in
    hearing s buf (says Host (late s)) c.hear.ensures refl refl
    ∙ sym
    (ap (λ (p : Phase). moved p s buf)
    (pick_no _ _ _ (ne_eqb (reading_of (start_in s)).kind 0 (λ e. c.if-kind-eq0.false (c.kind.ensures
    ∙ (kind_of_lem c.part.ensures ∙ e))))))
