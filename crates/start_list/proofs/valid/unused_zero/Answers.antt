-- `valid::unused_zero` meets its contract: what stands behind the fields that are used.
-- Assumes nothing.
use mathlib.Core.Path.{ap, ap₂, ◌∙◌}
use mathlib.Core.List.{List}
use Prim.Native.Nat.{ℕ, ◌*◌}
use native.Mathlib.Omega.{arith}
use lib.ListN.{length, drop}
use Rattle.slices.proofs.Cutting.{to_end}
use Rattle.decimal_dates.specs.Decimal.{zeros_only}
use Rattle.start_list.proofs.valid.unused_zero.Goals as goal

pub returns : goal.returns
returns c =
    let fields = c.fields-room in
    let n = c.count-n in
    c.zeros_only.ensures
    ∙ ap zeros_only
    (c.part.ensures
    ∙ (to_end (length fields.result.now) (18 * n.result) fields.result.now (omega arith)
    ∙ ap₂ (λ (k : ℕ) (t : List ℕ). drop (18 * k) t) n.ensures.0 fields.ensures))
