-- Two ends joined by a line without faults: a block goes over, and the block that answers it comes back.
-- Assumes nothing.
use Rattle.std.specs.Prelude.{Bool, true, false, List, ◌++◌, ℕ, zero, suc}
use Rattle.slices.specs.Choice.{pick}
use Rattle.t1_block.specs.Blocks.{inf_of}
use Rattle.t1_state.specs.declared.State.{State}
use Rattle.t1_state.specs.declared.Act.{Act}
use Rattle.t1_state.specs.declared.Act.TheVariants.{Nothing, Send, Keep, Value, Whole, End, Refuse}
use Rattle.t1_state.specs.declared.Turn.{Turn}
use Rattle.t1_turns.specs.Turns.{on_block}
use Rattle.t1.specs.Steps.{block_of, kept_by}

-- the end that sends a message, the end that receives it with what it has kept, and what that end did last
pub record Pair : Type 0 where
  pub sender : State
  pub receiver : State
  pub kept : List ℕ
  pub did : Act

abbrev pub is_whole : Act → Bool
is_whole Nothing = false
is_whole Send = false
is_whole Keep = false
is_whole Value = false
is_whole (Whole n) = true
is_whole (End e) = false
is_whole (Refuse why) = false

-- where the receiver took the block in the turn t: its own block goes back, unless the message is whole
abbrev pub answered : State → List ℕ → Turn → Pair
answered s k t =
    record {
      sender = pick (is_whole t.act) s (on_block (block_of t.state) s).state;
      receiver = t.state;
      kept = k ++ kept_by t.act (inf_of (block_of s));
      did = t.act;
    }

-- the block that is out goes over
unfoldable pub round : Pair → Pair
round p = answered p.sender p.kept (on_block (block_of p.sender) p.receiver)

-- at most so many rounds, until the message is whole
unfoldable pub rounds : ℕ → Pair → Pair
rounds zero p = p
rounds (suc n) p = pick (is_whole p.did) p (rounds n (round p))
