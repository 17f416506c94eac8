-- A block where a request of our own is open: its response, or the request goes out again. 000, I-5.2.4.3 and I-5.2.5.1.
-- Assumes nothing.
use Rattle.std.specs.Prelude.{Ok, Err, Bool, false, ℕ, eqb}
use Rattle.slices.specs.Choice.{pick}
use Rattle.t1_block.specs.Blocks.{what_number}
use Rattle.t1_block.specs.Faults.{Heard}
use Rattle.t1_block.specs.declared.What.{What}
use Rattle.t1_block.specs.declared.What.TheVariants.{Resynch, Ifs, Abort, Wtx}
use Rattle.t1_block.specs.declared.Kind.{Kind}
use Rattle.t1_block.specs.declared.Kind.TheVariants.{Information as I, Ready as R, Request as Asks, Response as Answers}
use Rattle.t1_state.specs.Changes.{at_phase, with_sizes}
use Rattle.t1_state.specs.declared.Phase.TheVariants.{Due}
use Rattle.t1_state.specs.declared.Last.{Last}
use Rattle.t1_state.specs.declared.Last.TheVariants.{Nothing, Information, Ready, Request, Response}
use Rattle.t1_state.specs.declared.State.{State}
use Rattle.t1_state.specs.declared.End.TheVariants.{Abort as Aborted}
use Rattle.t1_state.specs.declared.Act.TheVariants.{Nothing as Quiet}
use Rattle.t1_state.specs.declared.Turn.{Turn}
use Rattle.t1_again.specs.Again.{ended_by, same_again, for_role}

-- the response to what we asked: the same thing with the same value
unfoldable pub is_response : Last → What → ℕ → Bool
is_response Nothing w v = false
is_response Information w v = false
is_response (Ready pcb) w v = false
is_response (Request asked value) w v = pick (eqb (what_number asked) (what_number w)) (eqb value v) false
is_response (Response w' v') w v = false

-- the new size is ours from here on
abbrev pub settled : What → ℕ → State → State
settled Resynch v s = s
settled Ifs v s = with_sizes s.sizes.theirs v s
settled Abort v s = s
settled Wtx v s = s

-- an S(ABORT request) ends the terminal
unfoldable pub asked_instead : What → State → Turn
asked_instead Resynch s = same_again s
asked_instead Ifs s = same_again s
asked_instead Abort s = for_role s.role (ended_by Aborted s) (same_again s)
asked_instead Wtx s = same_again s

unfoldable pub on_response : What → ℕ → State → Turn
on_response w v s = pick (is_response s.last w v) (record { state = at_phase Due (settled w v s); act = Quiet }) (same_again s)

unfoldable pub asked_kind : Kind → ℕ → State → Turn
asked_kind (I number more) v s = same_again s
asked_kind (R number) v s = same_again s
asked_kind (Asks w) v s = asked_instead w s
asked_kind (Answers w) v s = on_response w v s

unfoldable pub on_asking : Heard → ℕ → State → Turn
on_asking (Ok kind) v s = asked_kind kind v s
on_asking (Err code) v s = same_again s
