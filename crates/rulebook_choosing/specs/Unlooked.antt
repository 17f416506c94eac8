-- From GET PROCESSING OPTIONS on neither the AID nor the list of START is looked at. The list is no part of a phase from there on (`following`
-- of Choosing); that the AID has no part in one is said here: with another in its place a session has the same commands and decision, passes
-- the same phases but for it, and counts the same. 02, R-12.
-- Assumes nothing.
use Rattle.std.specs.Prelude.{◌≡◌, List, map, ℕ}
use Rattle.tape_read.specs.Entries.{Entry}
use Rattle.start_fields.specs.Bare.{terminal_with}
use Rattle.sessions.specs.Rules.{asks, hears, decides}
use Rattle.sessions.specs.Session.{phases_of}
use Rattle.rulebook.specs.Situation.{Situation}
use Rattle.rulebook.specs.Phase.{Asked, selecting, optioning, reading, first, second, Heard, terminal, says, Phase}
use Rattle.rulebook.specs.Session.{rules, Plays}
use Rattle.rulebook_zeros.specs.Zeros.{added_by}

-- the same with another AID
unfoldable pub situation_with : List ℕ → Situation → Situation
situation_with aid s =
    record { terminal = terminal_with aid s.terminal; profile = s.profile; facts = s.facts; tvr = s.tvr; tsi = s.tsi }

unfoldable pub asked_with : List ℕ → Asked → Asked
asked_with aid (selecting s) = selecting (situation_with aid s)
asked_with aid (optioning s list) = optioning (situation_with aid s) list
asked_with aid (reading s number file rest) = reading (situation_with aid s) number file rest
asked_with aid (first s request) = first (situation_with aid s) request
asked_with aid (second s request code) = second (situation_with aid s) request code

unfoldable pub heard_with : List ℕ → Heard → Heard
heard_with aid terminal = terminal
heard_with aid (says word s) = says word (situation_with aid s)

unfoldable pub phase_with : List ℕ → Phase → Phase
phase_with aid (asks w) = asks (asked_with aid w)
phase_with aid (hears h) = hears (heard_with aid h)
phase_with aid (decides outcome reason s) = decides outcome reason (situation_with aid s)

-- a phase from GPO on
abbrev pub FromOptions : Phase → Type 0
FromOptions (asks (selecting s)) = ⊥
FromOptions (asks (optioning s list)) = Unit {0}
FromOptions (asks (reading s number file rest)) = Unit {0}
FromOptions (asks (first s request)) = Unit {0}
FromOptions (asks (second s request code)) = Unit {0}
FromOptions (hears terminal) = ⊥
FromOptions (hears (says word s)) = Unit {0}
FromOptions (decides outcome reason s) = Unit {0}

-- what is played from such a phase is played with another AID: the same entries, through the same phases but for the AID, and each entry adds
-- the same to the fourth number
pub record Unlooked (aid : List ℕ) {p : Phase} {es : List Entry} (play : Plays p es) : Type 0 where
  pub other : Plays (phase_with aid p) es
  pub phases : phases_of rules other ≡ map (phase_with aid) (phases_of rules play)
  pub counts : added_by other ≡ added_by play
