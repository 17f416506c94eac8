-- What a session is given from outside, entry by entry: each word byte for byte, and each answer of the card as it is seen. 02, R-13. That
-- phases, commands, decision and the fourth number are functions of it is proved (`phases`, `entries`, `zeros` of Theorem). What is said of
-- any rules in Under has its names here for the rules of 01.
-- Assumes nothing.
use Rattle.std.specs.Prelude.{List}
use Rattle.tape_read.specs.Entries.{Entry}
use Rattle.answer_common.specs.Content.{names_for}
use Rattle.rulebook.specs.Situation.{Situation}
use Rattle.rulebook.specs.Phase.{Asked, selecting, optioning, reading as reading_record, first, second, Heard, Phase, tvr_of, tsi_of}
use Rattle.rulebook.specs.Session.{rules, Plays}
use Rattle.rulebook_zeros.specs.Zeros.{unsupplied_in}
use Rattle.card_seen.specs.Seen.{Place, selection, options, reading, generation}
use Rattle.card_seen.specs.Under as Under
use Rattle.card_seen.specs.Under.{View}
pub use Rattle.card_seen.specs.Under.{Given, said, showed, but_answers}

-- the place of an answer, by what was asked
unfoldable pub place_of : Asked → Place
place_of (selecting s) = selection
place_of (optioning s list) = options
place_of (reading_record s number file rest) = reading (names_for s.terminal)
place_of (first s request) = generation
place_of (second s request code) = generation

abbrev pub view : View Asked Heard Situation
view = record { place_of = place_of; tvr_of = tvr_of; tsi_of = tsi_of; unsupplied_in = unsupplied_in }

abbrev pub given_to : {p : Phase} {es : List Entry} → Plays p es → List Given
given_to play = Under.given_to rules view play

-- two sessions that are the same but for the bytes of the card's answers
abbrev pub Same : {p : Phase} {es fs : List Entry} → Plays p es → Plays p fs → Type 0
Same one other = Under.Same rules view one other
