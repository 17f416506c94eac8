-- `online::online` meets its contract: a terminal of type 0 goes on as unable, whatever code stands beside that.
-- Assumes nothing.
use mathlib.Core.Path.{sym, ap, ◌∙◌}
use Prim.Native.Nat.{ℕ}
use mathlib.Core.List.{List, [], ◌∷◌}
use borrow.Author.Tests.{eq-eqb, ne_eqb}
use Rattle.slices.specs.Choice.{pick}
use Rattle.slices.proofs.Choice.{pick_yes, pick_no}
use Rattle.start_fields.specs.Reading.{reading_of}
use Rattle.session_records.specs.Slots.{told_in}
use Rattle.dol_wanted.specs.Wanted.{fillable}
use Rattle.decide_requests.specs.Requests.{second_request}
use Rattle.decide_requests.specs.declared.reply.HostReply.TheVariants.{Unable}
use Rattle.decide_requests.proofs.Replying.{unable_code}
use Rattle.rulebook.specs.Situation.{list_in}
use Rattle.rulebook.specs.Phase.{second, Phase, asks, ended}
use Rattle.rulebook.specs.Turn.{replied, online}
use Rattle.quick_said.specs.Said.{found_from}
use Rattle.quick_ask.specs.Standing.{situation_in}
use Rattle.quick_follow.proofs.online.online.Goals as goal

pub returns-then-kind-eq0 : goal.returns-then-kind-eq0
unfolding online replied
returns-then-kind-eq0 c =
    let args = c.args in
    let s = situation_in args.s.start.now args.s.told.now args.s.profile args.s.tvr args.s.tsi in
    let q = second_request Unable (reading_of args.s.start.now) (told_in args.s.told.now) args.s.tvr in
    let same = ap (λ (x : List ℕ). pick (fillable (list_in s 0x8D)) (asks (second s q x)) (ended 9 s)) (unable_code q (0 ∷ 0 ∷ []) []) in
    c.second.ensures
    ∙ ap (λ (p : Phase). found_from p args.at.k args.at.zeros args.tape.now)
    (same ∙ sym (pick_yes _ _ _ (eq-eqb _ 0 (sym c.kind.ensures ∙ c.if-kind-eq0.true))))

pub returns : goal.returns
unfolding online
returns c =
    let args = c.args in
    c.host.ensures
    ∙ ap (λ (p : Phase). found_from p args.at.k args.at.zeros args.tape.now)
    (sym (pick_no _ _ _ (ne_eqb _ 0 (λ e. c.if-kind-eq0.false (c.kind.ensures ∙ e)))))
