-- The definitions that a promise is made of, opened under one name. Assumes nothing.
use Rattle.std.specs.Prelude.{⊤}
use Rattle.slices.specs.Choice.{pick}
use Rattle.t0_turns.specs.Turns.{after_byte}
use Rattle.t0.specs.Steps.{sent_by, kept_by, reply_to, done, step_of}

-- what is done for each act
unfoldable pub doing : ⊤
unfolding sent_by kept_by reply_to
doing = tt

-- a byte's turn, done
unfoldable pub stepping : ⊤
unfolding doing pick after_byte done step_of
stepping = tt
