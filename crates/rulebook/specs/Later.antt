-- An edition that adds questions and words to today's rules, as a request does that comes with a START of its own length (02, R-12): such a
-- START leads to what is new, and every other one to what was. Today's rules stay the value that they are.
-- Assumes nothing.
use Rattle.std.specs.Prelude.{◌≡◌, Bool, false, List, ℕ}
use Rattle.slices.specs.Choice.{pick}
use Rattle.sessions.specs.Rules.{Phase, asks, hears, decides, Rules}
use Rattle.rulebook.specs.Situation.{Situation}
use Rattle.rulebook.specs.Phase.{Asked, Heard, terminal, says}
use Rattle.rulebook.specs.Session.{rules}

-- the questions and the words of the edition: those that were, and new ones
pub data AskedLater (A : Type 0) : Type 0 where
  was : Asked → AskedLater A
  new : A → AskedLater A

pub data HeardLater (H : Type 0) : Type 0 where
  was : Heard → HeardLater H
  new : H → HeardLater H

abbrev pub PhaseLater : Type 0 → Type 0 → Type 0
PhaseLater A H = Phase (AskedLater A) (HeardLater H) Situation

-- what the edition adds
pub record Added (A H : Type 0) : Type 0 where
  -- the new questions: their commands, and how it goes on after the card's answer
  pub command_of : A → List ℕ
  pub turn : A → List ℕ → PhaseLater A H
  -- the new words: their kinds, what may be said, and how it goes on after it
  pub due_kind : H → ℕ
  pub allowed : H → List ℕ → Bool
  pub after : H → List ℕ → PhaseLater A H
  -- START: which are the edition's own, which of these are valid, and where they lead
  pub own_start : List ℕ → Bool
  pub valid_start : List ℕ → Bool
  pub started : List ℕ → PhaseLater A H

-- a phase of today's rules, in the edition
unfoldable pub as_was : {A H : Type 0} → Phase Asked Heard Situation → PhaseLater A H
as_was (asks w) = asks (AskedLater.was w)
as_was (hears h) = hears (HeardLater.was h)
as_was (decides outcome reason s) = decides outcome reason s

module _ {A H : Type 0} (added : Added A H) where
  unfoldable pub command_later : AskedLater A → List ℕ
  command_later (was w) = rules.command_of w
  command_later (new x) = added.command_of x

  unfoldable pub turn_later : AskedLater A → List ℕ → PhaseLater A H
  turn_later (was w) a = as_was (rules.turn w a)
  turn_later (new x) a = added.turn x a

  unfoldable pub kind_later : HeardLater H → ℕ
  kind_later (was h) = rules.due_kind h
  kind_later (new x) = added.due_kind x

  unfoldable pub allowed_later : HeardLater H → List ℕ → Bool
  allowed_later (was terminal) p = pick (added.own_start p) (added.valid_start p) (rules.allowed terminal p)
  allowed_later (was (says word s)) p = rules.allowed (says word s) p
  allowed_later (new x) p = added.allowed x p

  unfoldable pub after_later : HeardLater H → List ℕ → PhaseLater A H
  after_later (was terminal) p = pick (added.own_start p) (added.started p) (as_was (rules.after terminal p))
  after_later (was (says word s)) p = as_was (rules.after (says word s) p)
  after_later (new x) p = added.after x p

  abbrev pub later : Rules (AskedLater A) (HeardLater H) Situation
  later =
      record {
        opens = hears (HeardLater.was terminal);
        command_of = command_later;
        turn = turn_later;
        due_kind = kind_later;
        allowed = allowed_later;
        after = after_later;
        decision_of = rules.decision_of;
      }

  -- a START of an earlier edition
  abbrev pub Earlier : List ℕ → Type 0
  Earlier p = added.own_start p ≡ false
