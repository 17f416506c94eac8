-- `options::from_options` meets its contract: a bad answer ends the session, a good one leads to its records.
-- Assumes nothing.
use mathlib.Core.Path.{sym, ap, ◌∙◌}
use Prim.Native.Nat.{ℕ, ◌^◌, ◌<◌}
use native.Mathlib.Omega.{arith}
use Rattle.tape_crc.proofs.Bytes.{bytes_each}
use mathlib.Core.List.{List}
use Rattle.slices.specs.Writing.{laid, zeros}
use Rattle.start_fields.specs.Reading.{reading_of}
use Rattle.answer_gpo.specs.Options.{options_reason, profile_of, locator_of}
use Rattle.answer_gpo.proofs.Good.{profile_good, locator_good}
use Rattle.answer_afl.specs.Entries.{to_read}
use Rattle.answer_laws.proofs.Reasons.{options_small}
use Rattle.rulebook.specs.Situation.{begun}
use Rattle.rulebook.specs.Turn.{with_profile, read_on, optioned}
use Rattle.quick_said.specs.Said.{found_from}
use Rattle.quick_follow.proofs.Going.{reason_ends, reason_goes}
use Rattle.quick_follow.proofs.Beginning.{options_as}
use Rattle.quick_follow.proofs.options.from_options.Goals as goal

pub returns-then-why-ne0 : goal.returns-then-why-ne0
unfolding optioned begun zeros
returns-then-why-ne0 c =
    let args = c.args in
    let t = args.tape.now in
    let a = args.a.now in
    let bytes = bytes_each t (λ i h. omega (arith, c.type_inv.tape i)) in
    let small : args.zeros < 2 ^ 64 = omega (arith, c.well_formed) in
    let s = begun (reading_of args.start.now) in
    c.end.ensures
    ∙ reason_ends t bytes 5 args.zeros small s _ _ (read_on (with_profile s (profile_of a)) (to_read (locator_of a)))
    c.options_reason-why.ensures (options_small a) c.if-why-ne0.true

pub returns : goal.returns
unfolding optioned zeros
returns c =
    let args = c.args in
    let t = args.tape.now in
    let a = args.a.now in
    let bytes = bytes_each t (λ i h. omega (arith, c.type_inv.tape i)) in
    let small : args.zeros < 2 ^ 64 = omega (arith, c.well_formed) in
    let s = begun (reading_of args.start.now) in
    let good = sym c.options_reason-why.ensures ∙ c.if-why-ne0.false in
    let kept = c.lay.ensures ∙ ap (λ (x : List ℕ). laid x 0 (zeros 2)) (c.profile_read.ensures ∙ profile_good a good) in
    let situation = options_as args.start.now a _ good kept in
    c.read_all.ensures
    ∙ ((λ i. found_from (read_on (situation i) (to_read ((c.locator_read.ensures ∙ locator_good a good) i))) 5 args.zeros t)
    ∙ reason_goes t bytes 5 args.zeros small s _ (options_reason a) _ c.options_reason-why.ensures c.if-why-ne0.false)
