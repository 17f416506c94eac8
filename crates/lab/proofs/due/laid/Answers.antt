-- `due::laid` meets its contract: the four numbers, one after the other.
-- Assumes nothing.
use mathlib.Core.Path.{ap}
use mathlib.Core.List.{[], ◌∷◌}
use Prim.Native.Nat.{ℕ}
use Rattle.lab.specs.Findings.{laid_finding}
use Rattle.lab.proofs.due.laid.Goals as goal

pub returns : goal.returns
unfolding laid_finding
returns c =
    let f = c.args.f in
    ap (λ (v : ℕ). v ∷ f.ruling.place ∷ f.ruling.code ∷ f.zeros ∷ []) c.verdict_number.ensures
