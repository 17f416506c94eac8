-- How often a block goes out, and an end that hears nothing valid.
-- Assumes nothing.
use Rattle.std.specs.Prelude.{Ok, Err, ◌≡◌, Bool, true, false, List, [], ◌∷◌, ℕ, ◌≤◌, ◌-◌}
use Rattle.slices.specs.Choice.{pick}
use Rattle.t1_block.specs.Faults.{Heard, heard_of}
use Rattle.t1_block.specs.declared.Kind.{Kind}
use Rattle.t1_block.specs.declared.Kind.TheVariants.{Information as I, Ready as R, Request as Asks, Response as Answers}
use Rattle.t1_state.specs.Limits.{same_limit}
use Rattle.t1_state.specs.declared.Phase.{Phase}
use Rattle.t1_state.specs.declared.Phase.TheVariants.{Start, Asking, Due, Sent, Receiving, Over}
use Rattle.t1_state.specs.declared.Last.{Last}
use Rattle.t1_state.specs.declared.Last.TheVariants.{Nothing, Information, Ready, Request, Response}
use Rattle.t1_state.specs.declared.State.{State}
use Rattle.t1_again.specs.Again.{stays_open}
use Rattle.t1_asking.specs.Asking.{is_response}
use Rattle.t1_turns.specs.Turns.{on_block}
use Rattle.t1.specs.Steps.{Event, turn_of}

-- no block has gone out more than three times
pub record Bounded (s : State) : Type 0 where
  pub information : s.counts.information ≤ 3
  pub same : s.counts.same ≤ 3

-- an end after any events
unfoldable pub after : List Event → State → State
after [] s = s
after (e ∷ es) s = after es (turn_of e s).state

-- an end after any blocks
unfoldable pub heard_all : List (List ℕ) → State → State
heard_all [] s = s
heard_all (b ∷ bs) s = heard_all bs (on_block b s).state

abbrev pub is_bad : Heard → Bool
is_bad (Ok kind) = false
is_bad (Err code) = true

-- every one of the blocks is invalid when it comes
unfoldable pub AllBad : List (List ℕ) → State → Type 0
AllBad [] s = Unit {0}
AllBad (b ∷ bs) s = (is_bad (heard_of b s.sizes.ours) ≡ true) × AllBad bs (on_block b s).state

abbrev pub awaits : Phase → Bool
awaits Start = false
awaits Asking = true
awaits Due = false
awaits Sent = true
awaits Receiving = true
awaits Over = false

-- whether a block that is not valid brings the same block out again
abbrev pub is_same : Last → Bool
is_same Nothing = false
is_same Information = false
is_same (Ready pcb) = true
is_same (Request w v) = true
is_same (Response w v) = false

abbrev pub repeats : Phase → Last → Bool
repeats Start last = is_same last
repeats Asking last = true
repeats Due last = is_same last
repeats Sent last = is_same last
repeats Receiving last = is_same last
repeats Over last = is_same last

-- a card whose request for a size has gone out as often as it may, and is open
pub record Mute (s : State) : Type 0 where
  pub asks : stays_open s.role s.last ≡ true
  pub spent : same_limit s.role s.last ≤ s.counts.same

-- an end that sends nothing more: it has stopped, or it remains in receive mode (000, I-5.2.5.1)
pub data Silent (s : State) : Type 0 where
  stopped : s.phase ≡ Over → Silent s
  remaining : Mute s → Silent s

-- the response to the request that is open: the same thing with the same value
abbrev pub answers_to : Last → Kind → ℕ → Bool
answers_to last (I number more) v = false
answers_to last (R number) v = false
answers_to last (Asks w) v = false
answers_to last (Answers w) v = is_response last w v

abbrev pub is_answer : Last → Heard → ℕ → Bool
is_answer last (Ok kind) v = answers_to last kind v
is_answer last (Err code) v = false

-- how many blocks that are not valid an end still answers
unfoldable pub patience : State → ℕ
patience s = pick (repeats s.phase s.last) (same_limit s.role s.last - s.counts.same) 3
