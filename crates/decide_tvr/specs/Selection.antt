-- Selection at random for online processing: 01, "From facts to a decision", and 003, 7.6.2.
-- Assumes nothing.
use Rattle.std.specs.Prelude.{Bool, ℕ, leb, ltb, pos, ◌-ℤ◌, ◌*ℤ◌}
use Rattle.std.specs.Int.Signed.{le_z}
use Rattle.slices.specs.Choice.{pick}
use Rattle.start_fields.specs.Reading.{Terminal, amount_of, floor_limit_of, threshold_of}

-- from the threshold on: the random number against the percentage interpolated between target and maximum, multiplied out
-- over the integers, so that nothing is rounded and a difference below zero is kept as such
unfoldable pub biased : (random target maximum amount floor threshold : ℕ) → Bool
biased random target maximum amount floor threshold =
    le_z
    ((pos random -ℤ pos target) *ℤ (pos floor -ℤ pos threshold))
    ((pos maximum -ℤ pos target) *ℤ (pos amount -ℤ pos threshold))

-- below the threshold the target percentage alone counts
unfoldable pub chosen : (random target maximum amount floor threshold : ℕ) → Bool
chosen random target maximum amount floor threshold =
    pick (ltb amount threshold) (leb random target) (biased random target maximum amount floor threshold)

unfoldable pub selected : Terminal → Bool
selected t = chosen t.random t.target t.maximum (amount_of t) (floor_limit_of t) (threshold_of t)
