-- How often a block goes out, and how a message is cut. 000, I-5.2.4.4.1 and I-5.2.5.1.
-- Assumes nothing.
use Rattle.std.specs.Prelude.{Bool, ℕ, ◌+◌, ◌-◌, min, eqb, leb, ltb}
use Rattle.slices.specs.Choice.{pick}
use Rattle.apdu.specs.Answers.{answer_most}
use Rattle.t1_block.specs.Blocks.{inf_most}
use Rattle.t1_block.specs.declared.What.{What}
use Rattle.t1_block.specs.declared.What.TheVariants.{Resynch, Ifs, Abort, Wtx}
use Rattle.t1_state.specs.declared.Role.{Role}
use Rattle.t1_state.specs.declared.Role.TheVariants.{Terminal, Card}
use Rattle.t1_state.specs.declared.Last.{Last}
use Rattle.t1_state.specs.declared.Last.TheVariants.{Nothing, Information, Ready, Request, Response}
use Rattle.t1_state.specs.declared.Message.{Message}

-- the most bytes of a message either way
abbrev pub message_most : ℕ
message_most = answer_most

-- the longest field that goes to an end that takes so many bytes: 1 to 254, whatever a state says
unfoldable pub room : ℕ → ℕ
room theirs = pick (eqb theirs 0) 1 (pick (leb theirs inf_most) theirs inf_most)

-- every block of a chain but the last has a full field (000, I-5.2.4.4.1)
abbrev pub piece_at : ℕ → ℕ → Message → Message
piece_at theirs at m = record { bytes = m.bytes; length = m.length; at = at; size = min (room theirs) (m.length - at) }

-- whether something follows the piece that is out
unfoldable pub more_of : Message → Bool
more_of m = ltb (m.at + m.size) m.length

-- the terminal sends a block three times in all, a card twice (000, I-5.2.5.1), its S(IFS request) three times
abbrev pub information_limit : Role → ℕ
information_limit Terminal = 3
information_limit Card = 2

abbrev pub asking_limit : What → ℕ
asking_limit Resynch = 2
asking_limit Ifs = 3
asking_limit Abort = 2
asking_limit Wtx = 2

abbrev pub card_limit : Last → ℕ
card_limit Nothing = 2
card_limit Information = 2
card_limit (Ready pcb) = 2
card_limit (Request w v) = asking_limit w
card_limit (Response w v) = 2

abbrev pub same_limit : Role → Last → ℕ
same_limit Terminal last = 3
same_limit Card last = card_limit last
