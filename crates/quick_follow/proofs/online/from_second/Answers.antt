-- `online::from_second` meets its contract: a bad answer ends the session, a good one decides it.
-- Assumes nothing.
use mathlib.Core.Path.{sym, ap, ap₂, ◌∙◌}
use Prim.Native.Nat.{ℕ, ◌^◌, ◌%◌, ◌<◌}
use native.Mathlib.Omega.{arith}
use mathlib.Core.List.{List, ◌∷◌, ◌++◌}
use Rattle.tape_crc.proofs.Bytes.{bytes_each}
use Rattle.decide_cryptogram.specs.Cryptograms.{allowed_by}
use Rattle.decide_cryptogram.specs.declared.Request.TheVariants.{Second}
use Rattle.answer_cryptogram.specs.Cryptogram.{cryptogram_reason, cryptogram_of}
use Rattle.answer_cryptogram.proofs.Good.{cryptogram_good}
use Rattle.answer_laws.proofs.Reasons.{cryptogram_small}
use Rattle.numbers.specs.Tables.{terminated}
use Rattle.rulebook.specs.Phase.{decided}
use Rattle.rulebook.specs.Turn.{by_second, second_answered}
use Rattle.quick_meet.specs.Meeting.{decision_met}
use Rattle.quick_follow.proofs.Going.{decided_found, reason_ends, reason_goes}
use Rattle.quick_follow.proofs.online.from_second.Goals as goal

pub returns-then-why-ne0 : goal.returns-then-why-ne0
unfolding second_answered
returns-then-why-ne0 c s e f =
    let args = c.args in
    let t = args.tape.now in
    let bytes = bytes_each t (λ i h. omega (arith, c.type_inv.tape i)) in
    let small : args.at.zeros < 2 ^ 64 = omega (arith, c.well_formed) in
    let allowed = allowed_by (Second args.request) in
    c.end.ensures
    ∙ (ap (λ (x : List ℕ). decision_met (terminated ∷ c.cryptogram_reason-why.result % 256 ∷ x) args.at.k args.at.zeros t)
    (sym (ap₂ ◌++◌ e f))
    ∙ reason_ends t bytes args.at.k args.at.zeros small s _ _ (decided (by_second (cryptogram_of args.a.now)) s)
    c.cryptogram_reason-why.ensures (cryptogram_small allowed args.a.now) c.if-why-ne0.true)

pub returns : goal.returns
unfolding second_answered
returns c s e f =
    let args = c.args in
    let t = args.tape.now in
    let bytes = bytes_each t (λ i h. omega (arith, c.type_inv.tape i)) in
    let small : args.at.zeros < 2 ^ 64 = omega (arith, c.well_formed) in
    let allowed = allowed_by (Second args.request) in
    let good = sym c.cryptogram_reason-why.ensures ∙ c.if-why-ne0.false in
    let given = c.cryptogram_read.ensures ∙ cryptogram_good allowed args.a.now good in
    let outcome = c.by_second-outcome.ensures ∙ ap by_second given in
    c.decided.ensures
    ∙ ((λ i. decision_met (outcome i ∷ 0 ∷ (sym e i ++ sym f i)) args.at.k args.at.zeros t)
    ∙ (decided_found t bytes args.at.k args.at.zeros small s (by_second (cryptogram_of args.a.now))
    ∙ reason_goes t bytes args.at.k args.at.zeros small s _ (cryptogram_reason allowed args.a.now) _
    c.cryptogram_reason-why.ensures c.if-why-ne0.false))
