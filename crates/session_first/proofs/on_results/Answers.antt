-- `session_first::on_results` meets its contract: the first request, from the state with the bits that the results set.
-- Assumes nothing.
use mathlib.Core.Path.{ap, ◌∙◌}
use Prim.Native.Nat.{ℕ}
use native.Mathlib.Omega.{arith}
use Rattle.start_fields.specs.Reading.{reading_of}
use Rattle.answer_record.specs.Records.{after_records}
use Rattle.answer_laws.proofs.Reasons.{after_small}
use Rattle.session_records.specs.Slots.{told}
use Rattle.decide_verification.specs.Verification.{tvr_after_results, tsi_after_results}
use Rattle.rulebook.specs.Situation.{Situation}
use Rattle.rulebook.specs.Turn.{requested, after}
use Rattle.session_state.specs.declared.State.{State}
use Rattle.session_state.specs.Reading.{start_in, situation_with, late}
use Rattle.session_moves.specs.Moves.{moved}
use Rattle.session_moves.proofs.Bits.{bits_moved}
use Rattle.session_first.specs.Storing.{verified_state}
use Rattle.session_first.proofs.Verifying.{late_verified}
use Rattle.session_first.proofs.on_results.Goals as goal

pub request_first-requires : goal.request_first-requires
request_first-requires c = omega (
  arith,
  c.reason.ensures,
  after_small (told
      c.args.s.told),
)

pub returns : goal.returns
unfolding after late situation_with verified_state
returns c =
    let args = c.args in
    let s = args.s in
    let p = args.results.now in
    let buf = args.buf.now in
    let n = after_records (told s.told) in
    let t = verified_state p s in
    c.request_first.ensures
    ∙ (ap (λ (x : State). moved (requested c.reason.result (late x)) x buf)
    c.verified.ensures
    ∙ (ap (λ (k : ℕ). moved (requested k (late t)) t buf) c.reason.ensures
    ∙ (bits_moved (requested n (late t)) s.waiting
    (tvr_after_results (reading_of (start_in s)) (told s.told) p s.tvr) (tsi_after_results s.tsi) s buf
    ∙ ap (λ (z : Situation). moved (requested n z) s buf) (late_verified p s))))
