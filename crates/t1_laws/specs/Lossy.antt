-- A line that spoils blocks and repeats them: at any moment the block that one end has out comes to the other, as it was sent or as
-- bytes that are no valid block.
-- Assumes nothing.
use Rattle.std.specs.Prelude.{◌≡◌, true, List, [], ◌∷◌, ◌++◌, ℕ}
use Rattle.t1_block.specs.Blocks.{inf_of}
use Rattle.t1_block.specs.Faults.{heard_of}
use Rattle.t1_state.specs.declared.State.{State}
use Rattle.t1_turns.specs.Turns.{on_block}
use Rattle.t1.specs.Steps.{block_of, kept_by}
use Rattle.t1_laws.specs.Stopping.{is_bad}

-- the end that sends a message, the end that receives it, and what that end has kept
pub record Line : Type 0 where
  pub sender : State
  pub receiver : State
  pub kept : List ℕ

-- bytes come to the receiver, or to the sender
unfoldable pub forth : List ℕ → Line → Line
forth b l =
    record {
      sender = l.sender;
      receiver = (on_block b l.receiver).state;
      kept = l.kept ++ kept_by (on_block b l.receiver).act (inf_of b);
    }

unfoldable pub back : List ℕ → Line → Line
back b l = record { sender = (on_block b l.sender).state; receiver = l.receiver; kept = l.kept }

-- what can come to an end that takes so many bytes, of a block that was sent
pub data Arrives (sent : List ℕ) (ours : ℕ) (b : List ℕ) : Type 0 where
  intact : b ≡ sent → Arrives sent ours b
  spoiled : is_bad (heard_of b ours) ≡ true → Arrives sent ours b

-- one arrival after the other, each to the receiver or to the sender
pub data Arrival : Type 0 where
  there : List ℕ → Arrival
  here : List ℕ → Arrival

unfoldable pub arrive : Arrival → Line → Line
arrive (there b) l = forth b l
arrive (here b) l = back b l

unfoldable pub Possible : Arrival → Line → Type 0
Possible (there b) l = Arrives (block_of l.sender) l.receiver.sizes.ours b
Possible (here b) l = Arrives (block_of l.receiver) l.sender.sizes.ours b

unfoldable pub arrive_all : List Arrival → Line → Line
arrive_all [] l = l
arrive_all (a ∷ as') l = arrive_all as' (arrive a l)

unfoldable pub AllPossible : List Arrival → Line → Type 0
AllPossible [] l = Unit {0}
AllPossible (a ∷ as') l = Possible a l × AllPossible as' (arrive a l)
