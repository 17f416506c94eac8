-- Where a session stands: what is due next, and what was asked for. 01, "What the kernel plays and who decides"; 02, R-7.
-- Assumes nothing.
use Rattle.std.specs.Prelude.{List, ◌∷◌, ◌++◌, ℕ}
use Rattle.std.proofs.Math.Option.{none, some}
use Rattle.slices.specs.Writing.{zeros}
use Rattle.numbers.specs.Tables.{terminated, start}
use Rattle.dol_fill.specs.Filled.{filling}
use Rattle.words.specs.Words.{word_kind}
use Rattle.words.specs.declared.Word.{Word}
use Rattle.commands.specs.Commands.{select_command, options_command, record_command, cryptogram_command}
use Rattle.decide_cryptogram.specs.Cryptograms.{p1_of}
use Rattle.decide_cryptogram.specs.declared.Cryptogram.{Cryptogram}
use Rattle.sessions.specs.Rules as Under
pub use Rattle.sessions.specs.Rules.{asks, hears, decides}
use Rattle.rulebook.specs.Situation.{Situation, known_in, list_in}

-- what the card was asked
pub data Asked : Type 0 where
  -- SELECT
  selecting : Situation → Asked
  -- GPO, with the list 9F38
  optioning : Situation → List ℕ → Asked
  -- READ RECORD: this record of this file, and those that follow
  reading : Situation → ℕ → ℕ → List (ℕ × ℕ) → Asked
  -- the first GENERATE AC
  first : Situation → Cryptogram → Asked
  -- the second, beside its response code
  second : Situation → Cryptogram → List ℕ → Asked

-- what somebody other than the card is to say
pub data Heard : Type 0 where
  -- START
  terminal : Heard
  -- a word that is due in a situation: the issuer's reply, or the results of cardholder verification (02, R-7)
  says : Word → Situation → Heard

-- where a session stands (Phase of sessions): a command is due (`asks`), a word of somebody else (`hears`), or the decision (`decides`)
abbrev pub Phase : Type 0
Phase = Under.Phase Asked Heard Situation

-- a session opens with START
abbrev pub opens : Phase
opens = hears terminal

-- the situation in which something was asked
unfoldable pub situation_of : Asked → Situation
situation_of (selecting s) = s
situation_of (optioning s list) = s
situation_of (reading s number file rest) = s
situation_of (first s request) = s
situation_of (second s request code) = s

-- the command that asks it (01, "The commands")
unfoldable pub command_of : Asked → List ℕ
command_of (selecting s) = select_command s.terminal.aid
command_of (optioning s list) = options_command (filling s.terminal (known_in s none) list)
command_of (reading s number file rest) = record_command number file
command_of (first s request) = cryptogram_command (p1_of request) (filling s.terminal (known_in s none) (list_in s 0x8C))
command_of (second s request code) = cryptogram_command (p1_of request) (filling s.terminal (known_in s (some code)) (list_in s 0x8D))

-- the kind of the entry that says it (01, "The tape")
unfoldable pub due_kind : Heard → ℕ
due_kind terminal = start
due_kind (says word s) = word_kind word

-- DECISION's nine bytes: outcome, reason or 0, TVR and TSI as they stand at that moment
unfoldable pub decision_of : ℕ → ℕ → Situation → List ℕ
decision_of outcome reason s = outcome ∷ reason ∷ (s.tvr ++ s.tsi)

unfoldable pub decided : ℕ → Situation → Phase
decided outcome s = decides outcome 0 s

unfoldable pub ended : ℕ → Situation → Phase
ended reason s = decides terminated reason s

-- TVR and TSI as they stand in a phase; both are zeros before START
unfoldable pub tvr_of : Phase → List ℕ
tvr_of (asks w) = (situation_of w).tvr
tvr_of (hears terminal) = zeros 5
tvr_of (hears (says word s)) = s.tvr
tvr_of (decides outcome reason s) = s.tvr

unfoldable pub tsi_of : Phase → List ℕ
tsi_of (asks w) = (situation_of w).tsi
tsi_of (hears terminal) = zeros 2
tsi_of (hears (says word s)) = s.tsi
tsi_of (decides outcome reason s) = s.tsi
