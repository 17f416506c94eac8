-- `session_first::verified` meets its contract: the bits are joined to those that are set.
-- Assumes nothing.
use mathlib.Core.Path.{ap₂, ◌∙◌}
use mathlib.Core.List.{List}
use Prim.Native.Nat.{ℕ}
use Rattle.start_fields.specs.Reading.{reading_of}
use Rattle.decide_verification.specs.Verification.{tvr_after_results}
use Rattle.session_records.specs.Slots.{told_in, told}
use Rattle.session_state.specs.Keeping.{changed}
use Rattle.session_first.specs.Storing.{verified_state}
use Rattle.session_first.proofs.verified.Goals as goal

pub returns : goal.returns
unfolding verified_state told
returns c =
    let a = c.args in
    let s = a.s in
    let tvr = c.tvr_after_results.ensures
    ∙ ap₂ (λ (x d : List ℕ). tvr_after_results (reading_of x) (told_in d) a.results.now s.tvr) c.part.ensures
    c.bytes_of-told.ensures.0 in
    let tsi = c.tsi_after_results.ensures in
    c.change.ensures ∙ (λ i. changed s.waiting (tvr i) (tsi i) s.cursor s)
