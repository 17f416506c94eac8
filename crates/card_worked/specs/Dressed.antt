-- Two whole sessions that are given the same, and of which no answer has the bytes of the other's. 02, R-13.
-- Assumes nothing.
use Rattle.std.specs.Prelude.{◌≡◌, Bool, true, not, ◌&&◌, ◌||◌, List, [], ◌∷◌, eqb}
use Rattle.slices.specs.Tests.{alike}
use Rattle.numbers.specs.Tables.{answer}
use Rattle.tape_read.specs.Entries.{Entry}
use Rattle.sessions.specs.Rules.{Rules}
use Rattle.sessions.specs.Session.{Session}
use Rattle.sessions.specs.Machine.{at}
use Rattle.rulebook.specs.Session as today
use Rattle.card_seen.specs.Given as today_given
use Rattle.card_seen.specs.Under.{View, Alongside}

-- whether every answer in two lists of entries has other bytes
unfoldable pub answers_differ : List Entry → List Entry → Bool
answers_differ [] fs = true
answers_differ (e ∷ es) [] = true
answers_differ (e ∷ es) (f ∷ fs) = (not (eqb e.kind answer) || not (alike e.payload f.payload)) && answers_differ es fs

-- under any rules
module _ {A H S : Type 0} (rules : Rules A H S) (view : View A H S) where
  pub record DressedUnder : Type 0 where
    pub plain : List Entry
    pub dressed : List Entry
    pub plain_session_lem : Session rules plain
    pub dressed_session_lem : Session rules dressed
    pub same_given : Alongside rules view (at rules.opens) plain dressed
    pub other_bytes : answers_differ plain dressed ≡ true

-- by the rules of 01
abbrev pub Dressed : Type 0
Dressed = DressedUnder today.rules today_given.view
