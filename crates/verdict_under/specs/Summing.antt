-- The sum entry by entry, beside the machine of the rules: each entry that the machine takes adds what is counted in the phase that it
-- leads to, and an entry that it does not take ends the counting. Nobody need believe it: that it is the number of any entries is
-- proved (proofs/Summing).
-- Assumes nothing.
use Rattle.std.specs.Prelude.{List, [], ◌∷◌, ℕ, ◌+◌}
use Rattle.std.proofs.Math.Option.{Option, none, some}
use Rattle.tape_read.specs.Entries.{Entry}
use Rattle.sessions.specs.Rules.{Phase, Rules}
use Rattle.sessions.specs.Machine.{Machine, at, owes, done, next}

module _ {A H S : Type 0} (count : Phase A H S → ℕ) where
  -- what the entry that led to a state added
  unfoldable pub new_in : Machine A H S → ℕ
  new_in (at p) = count p
  new_in (owes w) = 0
  new_in done = 0

  unfoldable pub count_on : (Machine A H S → ℕ) → Option (Machine A H S) → ℕ
  count_on f none = 0
  count_on f (some σ) = new_in σ + f σ

module _ {A H S : Type 0} (rules : Rules A H S) (count : Phase A H S → ℕ) where
  unfoldable pub zeros_from : List Entry → Machine A H S → ℕ
  zeros_from [] σ = 0
  zeros_from (e ∷ es) σ = count_on count (zeros_from es) (next rules σ e)

  abbrev pub zeros_of : List Entry → ℕ
  zeros_of es = zeros_from es (at rules.opens)
