-- What can be due on a tape, and which entries fit it. 01, "What the kernel plays and who decides" and "The tape"; 02, R-7.
-- Assumes nothing.
use Rattle.std.specs.Prelude.{◌≡◌, true, List, [], ◌⊎◌, ℕ}
use Rattle.numbers.specs.Tables.{command, answer, silence, decision}
use Rattle.tape_read.specs.Entries.{Entry, entry}
use Rattle.sessions.specs.Rules.{Rules}
use Rattle.sessions.specs.Session.{is_payload}

pub data Due (Heard : Type 0) : Type 0 where
  -- the command with these bytes
  asking : List ℕ → Due Heard
  -- the card's answer
  answering : Due Heard
  -- what somebody other than the card says: START, or a word
  saying : Heard → Due Heard
  -- the decision with these bytes
  deciding : List ℕ → Due Heard
  -- nothing: after a decision, after a closing silence, and where the rules were broken
  nothing : Due Heard

module _ {Asked Heard Situation : Type 0} (rules : Rules Asked Heard Situation) where
  open rules use {due_kind, allowed}

  -- the entries that fit. Where the card owes an answer a silence with no payload fits too, and closes the session
  unfoldable pub Fits : Due Heard → Entry → Type 0
  Fits (asking c) e = e ≡ entry command c
  Fits answering e = ((e.kind ≡ answer) × (is_payload e.payload ≡ true)) ⊎ (e ≡ entry silence [])
  Fits (saying h) e = (e.kind ≡ due_kind h) × ((allowed h e.payload ≡ true) × (is_payload e.payload ≡ true))
  Fits (deciding d) e = e ≡ entry decision d
  Fits nothing e = ⊥
