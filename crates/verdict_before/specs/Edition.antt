-- The rules before cardholder verification (02, R-7) as one value. What a session, an open one, a broken one and the verdict of a tape are
-- under them is said where it is said of today's (Session of sessions, Judged of verdict_judged). A tape is read as today: an entry of the
-- kind that the request brought is readable.
-- Assumes nothing.
use Rattle.std.specs.Prelude.{Bool, ◌&&◌, List, ℕ, ◌≤◌, eqb, length}
use Rattle.start_fields.specs.Layout.{start_length}
use Rattle.numbers.specs.Tables.{host}
use Rattle.words.specs.Words.{word_kind}
use Rattle.sessions.specs.Rules.{Rules}
use Rattle.rulebook.specs.Situation.{Situation}
use Rattle.rulebook.specs.Phase.{Asked, Heard, terminal, says, opens, due_kind, decision_of}
use Rattle.rulebook.specs.Turn.{allowed, after}
use Rattle.verdict_before.specs.Before.{turn_before, valid_before}
use Rattle.verdict_before.specs.Filled.{command_before}

-- beside the card only the terminal had a word, with START, and the issuer, with HOST
unfoldable pub allowed_before : Heard → List ℕ → Bool
allowed_before terminal p = valid_before p
allowed_before (says word s) p = eqb (word_kind word) host && allowed (says word s) p

abbrev pub rules_before : Rules Asked Heard Situation
rules_before =
    record {
      opens = opens;
      command_of = command_before;
      turn = turn_before;
      due_kind = due_kind;
      allowed = allowed_before;
      after = after;
      decision_of = decision_of;
    }

-- a payload of at most 74 bytes
abbrev pub Short : List ℕ → Type 0
Short p = length p ≤ start_length
