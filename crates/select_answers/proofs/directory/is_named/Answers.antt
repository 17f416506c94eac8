-- `directory::is_named` meets its contract.
-- Assumes nothing.
use mathlib.Core.Path.{ap}
use mathlib.Core.Bool.{not}
use Prim.Native.Nat.{ℕ}
use lib.Dec.{eqb}
use Rattle.select_answers.specs.Directory.{is_named}
use Rattle.select_answers.proofs.directory.is_named.Goals as goal

pub returns : goal.returns
unfolding is_named
returns c = ap (λ (n : ℕ). not (eqb n 0)) c.times_in_checked.ensures
