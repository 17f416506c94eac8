-- The rules of a dialogue as a value: where a session stands and what is due there, how each thing is asked, what may be said, and how
-- it goes on. 01, "What the kernel plays and who decides". What can be asked, what can be heard and what a session remembers are types
-- of the rules' own. Ours is `rules` of rulebook; an older or a newer edition is another value.
-- Assumes nothing.
use Rattle.std.specs.Prelude.{Bool, List, ℕ}

-- where a session stands
pub data Phase (Asked Heard Situation : Type 0) : Type 0 where
  -- a command is due, and then the card's answer
  asks : Asked → Phase Asked Heard Situation
  -- what somebody else says is due
  hears : Heard → Phase Asked Heard Situation
  -- the decision is due: its outcome, its reason or 0, and the situation that it was made in
  decides : ℕ → ℕ → Situation → Phase Asked Heard Situation

pub record Rules (Asked Heard Situation : Type 0) : Type 0 where
  -- where a session opens
  pub opens : Phase Asked Heard Situation
  -- the command that asks something, and how it goes on after the card's answer
  pub command_of : Asked → List ℕ
  pub turn : Asked → List ℕ → Phase Asked Heard Situation
  -- the kind of the entry that says something, whether it may be said in these bytes, and how it goes on after them
  pub due_kind : Heard → ℕ
  pub allowed : Heard → List ℕ → Bool
  pub after : Heard → List ℕ → Phase Asked Heard Situation
  -- the bytes of DECISION
  pub decision_of : ℕ → ℕ → Situation → List ℕ
