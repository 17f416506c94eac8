-- `session_records_read::managed` meets its contract: the bits are joined to those that are set.
-- Assumes nothing.
use mathlib.Core.Path.{ap₂, ◌∙◌}
use mathlib.Core.List.{List}
use Prim.Native.Nat.{ℕ}
use Rattle.start_fields.specs.Reading.{reading_of}
use Rattle.decide_tvr.specs.Results.{tvr_after_records}
use Rattle.session_records.specs.Slots.{told_in, told}
use Rattle.session_state.specs.Keeping.{changed}
use Rattle.session_records_read.specs.Storing.{managed_state}
use Rattle.session_records_read.proofs.managed.Goals as goal

pub returns : goal.returns
unfolding managed_state told
returns c =
    let s = c.args.s in
    let tvr = c.tvr_after_records.ensures
    ∙ ap₂ (λ (x d : List ℕ). tvr_after_records (reading_of x) s.profile (told_in d) s.tvr) c.part.ensures c.bytes_of-told.ensures.0 in
    let tsi = c.tsi_after_records.ensures in
    c.change.ensures ∙ (λ i. changed s.waiting (tvr i) (tsi i) s.cursor s)
