-- What goes out after a block that is invalid or not allowed, and a block of ours once more. 000, I-5.2.5.1.
-- Assumes nothing.
use Rattle.std.specs.Prelude.{Bool, true, false, ℕ, ◌+◌, ltb}
use Rattle.slices.specs.Choice.{pick}
use Rattle.t1_block.specs.Blocks.{pcb_of_r}
use Rattle.t1_block.specs.declared.What.{What}
use Rattle.t1_block.specs.declared.What.TheVariants.{Resynch, Ifs, Abort, Wtx}
use Rattle.t1_state.specs.Limits.{information_limit, same_limit}
use Rattle.t1_state.specs.Changes.{at_phase, sending}
use Rattle.t1_state.specs.declared.Role.{Role}
use Rattle.t1_state.specs.declared.Role.TheVariants.{Terminal, Card}
use Rattle.t1_state.specs.declared.Phase.TheVariants.{Over}
use Rattle.t1_state.specs.declared.Last.{Last}
use Rattle.t1_state.specs.declared.Last.TheVariants.{Nothing, Information, Ready, Request, Response}
use Rattle.t1_state.specs.declared.State.{State}
use Rattle.t1_state.specs.declared.End.{End}
use Rattle.t1_state.specs.declared.End.TheVariants.{Limit}
use Rattle.t1_state.specs.declared.Refusal.{Refusal}
use Rattle.t1_state.specs.declared.Act.TheVariants.{Send, Refuse, Nothing as Quiet, End as Ends}
use Rattle.t1_state.specs.declared.Turn.{Turn}

-- the block that is the state's last goes out
abbrev pub goes_out : State → Turn
goes_out s = record { state = s; act = Send }

abbrev pub ended_by : End → State → Turn
ended_by e s = record { state = at_phase Over s; act = Ends e }

-- nothing moves
abbrev pub refused_as : Refusal → State → Turn
refused_as why s = record { state = s; act = Refuse why }

-- an R-block for the I-block that we expect, for the first time
unfoldable pub ready_for : ℕ → State → State
ready_for code s =
    sending (Ready (pcb_of_r s.numbers.expected code)) (record { information = s.counts.information; same = 1 }) s

-- a request for a size
abbrev pub is_size : What → Bool
is_size Resynch = false
is_size Ifs = true
is_size Abort = false
is_size Wtx = false

abbrev pub asks_size : Last → Bool
asks_size Nothing = false
asks_size Information = false
asks_size (Ready pcb) = false
asks_size (Request w v) = is_size w
asks_size (Response w v) = false

-- a card's S(IFS request) stays open when it has gone out as often as it may: the card remains in receive mode (000, I-5.2.5.1)
abbrev pub stays_open : Role → Last → Bool
stays_open Terminal last = false
stays_open Card last = asks_size last

-- nothing goes out, nothing moves
abbrev pub remains : State → Turn
remains s = record { state = s; act = Quiet }

-- an R-block or request has gone out as often as it may
unfoldable pub exhausted : State → Turn
exhausted s = pick (stays_open s.role s.last) (remains s) (ended_by Limit s)

-- the same R-block or request once more, unless it has gone out as often as it may
unfoldable pub same_again : State → Turn
same_again s =
    pick (ltb s.counts.same (same_limit s.role s.last))
    (goes_out (sending s.last (record { information = s.counts.information; same = s.counts.same + 1 }) s))
    (exhausted s)

-- the I-block once more, whatever went out since
unfoldable pub information_again : State → Turn
information_again s =
    pick (ltb s.counts.information (information_limit s.role))
    (goes_out (sending Information (record { information = s.counts.information + 1; same = s.counts.same }) s))
    (ended_by Limit s)

-- after an I-block or an S(response) an R-block with the code, after an R-block or an S(request) the same again
unfoldable pub wrong_after : Last → ℕ → State → Turn
wrong_after Nothing code s = goes_out (ready_for code s)
wrong_after Information code s = goes_out (ready_for code s)
wrong_after (Ready pcb) code s = same_again s
wrong_after (Request w v) code s = same_again s
wrong_after (Response w v) code s = goes_out (ready_for code s)

unfoldable pub wrong : ℕ → State → Turn
wrong code s = wrong_after s.last code s

-- by the role
unfoldable pub for_role : {A : Type 0} → Role → A → A → A
for_role Terminal t c = t
for_role Card t c = c
