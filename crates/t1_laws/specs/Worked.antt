-- A session worked out: a card that takes 16 bytes, a command of 20 bytes in two blocks, the card asks for time and for 32 bytes, an
-- answer of 256 bytes in two blocks; then a command of 30 bytes in one block, which comes damaged and goes out again, and a short answer.
-- Assumes nothing.
use Rattle.std.specs.Prelude.{◌≡◌, List, [], ◌∷◌, ◌++◌, ℕ, replicate}
use Rattle.t1_block.specs.declared.What.TheVariants.{Ifs, Wtx}
use Rattle.t1_state.specs.declared.Phase.TheVariants.{Due}
use Rattle.t1_laws.specs.Talks.{clear, Talk, Happens, hello, command, answer, asks, comes, spoiled}

abbrev pub first_command : List ℕ
first_command = 0x00 ∷ 0xA4 ∷ 0x04 ∷ 0x00 ∷ 0x0E ∷ (replicate 14 0x41 ++ (0x00 ∷ []))

abbrev pub first_answer : List ℕ
first_answer = replicate 254 0x42 ++ (0x90 ∷ 0x00 ∷ [])

abbrev pub second_command : List ℕ
second_command = 0x80 ∷ 0xA8 ∷ 0x00 ∷ 0x00 ∷ 0x19 ∷ replicate 25 0x43

abbrev pub second_answer : List ℕ
second_answer = 0x69 ∷ 0x85 ∷ []

abbrev pub session : List Happens
session =
    hello ∷ comes ∷ comes
    ∷ command first_command ∷ comes ∷ comes ∷ comes
    ∷ asks Wtx 2 ∷ comes ∷ comes
    ∷ asks Ifs 32 ∷ comes ∷ comes
    ∷ answer first_answer ∷ comes ∷ comes ∷ comes
    ∷ command second_command ∷ spoiled (0x00 ∷ 0x00 ∷ 0x00 ∷ 0x01 ∷ []) ∷ comes ∷ comes
    ∷ answer second_answer ∷ comes
    ∷ []

-- both have all messages, and the terminal is to send the next command
pub record Done (t : Talk) : Type 0 where
  pub commands : t.card.whole ≡ first_command ∷ second_command ∷ []
  pub answers : t.terminal.whole ≡ first_answer ∷ second_answer ∷ []
  pub next : t.terminal.end.phase ≡ Due
  pub line : t.line ≡ clear
  pub size : t.terminal.end.sizes.theirs ≡ 32

-- two damaged blocks can end a session: both times that a card may send a block. Here it is the card's I-block; the terminal asks for it
-- again each time, and the card may not send it a third time
abbrev pub twice_damaged : List Happens
twice_damaged =
    hello ∷ comes ∷ comes
    ∷ command (0x00 ∷ 0xB2 ∷ 0x01 ∷ 0x0C ∷ 0x00 ∷ []) ∷ comes
    ∷ answer second_answer ∷ spoiled [] ∷ comes ∷ spoiled [] ∷ comes
    ∷ []
