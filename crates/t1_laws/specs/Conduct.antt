-- Where an end may have a request out, and when it listens to the other end's.
-- Assumes nothing.
use Rattle.std.specs.Prelude.{Bool, true, false, not}
use Rattle.t1_state.specs.declared.Phase.{Phase}
use Rattle.t1_state.specs.declared.Phase.TheVariants.{Start, Asking, Due, Sent, Receiving, Over}
use Rattle.t1_state.specs.declared.Last.{Last}
use Rattle.t1_state.specs.declared.Last.TheVariants.{Nothing, Information, Ready, Request, Response}

-- a block is awaited, and no request of our own is open
abbrev pub listens : Phase → Bool
listens Start = false
listens Asking = false
listens Due = false
listens Sent = true
listens Receiving = true
listens Over = false

abbrev pub is_request : Last → Bool
is_request Nothing = false
is_request Information = false
is_request (Ready pcb) = false
is_request (Request w v) = true
is_request (Response w v) = false

-- the block that went out last is a request where one is open, and none where none is
abbrev pub fits : Phase → Last → Bool
fits Start last = true
fits Asking last = is_request last
fits Due last = true
fits Sent last = not (is_request last)
fits Receiving last = not (is_request last)
fits Over last = true
