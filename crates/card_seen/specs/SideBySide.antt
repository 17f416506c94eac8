-- Two sessions side by side. First as 02, R-13, has it: the same words, and answers that are alike, none of which ends a session. Then two
-- beginnings, finished or not, that are given the same. What is said of any rules in Under has its names here for the rules of 01.
-- Assumes nothing.
use Rattle.std.specs.Prelude.{◌≡◌, true, List, ℕ}
use Rattle.tlv_list.specs.Objects.{is_list}
use Rattle.tlv_list.specs.Place.{data_field}
use Rattle.tape_read.specs.Entries.{Entry}
use Rattle.rulebook.specs.Phase.{Asked, Phase}
use Rattle.rulebook.specs.Session.{rules, Plays}
use Rattle.rulebook.specs.Machine.{Machine}
use Rattle.card_seen.specs.Seen.{Place, named_at, status_of}
use Rattle.card_seen.specs.Given.{place_of, view}
use Rattle.card_seen.specs.Under as Under
unfoldable pub use Rattle.card_seen.specs.Under.{reason_in}
pub use Rattle.card_seen.specs.Under.{none, asked, answered, said_both, decided_both}

-- two answers at a place: the same status bytes, both well-formed lists, the same named objects with equal values in the same order
pub record Alike (p : Place) (a b : List ℕ) : Type 0 where
  pub status : status_of a ≡ status_of b
  pub first_list_lem : is_list (data_field a) ≡ true
  pub second_list_lem : is_list (data_field b) ≡ true
  pub objects : named_at p a ≡ named_at p b

-- and to a question
abbrev pub AlikeTo : Asked → List ℕ → List ℕ → Type 0
AlikeTo w = Alike (place_of w)

-- two sessions with the same words, whose answers are alike and lead to no reason. Commands and decision are not compared
abbrev pub SideBySide : {p q : Phase} {es fs : List Entry} → Plays p es → Plays q fs → Type 0
SideBySide one other = Under.SideBySide rules view AlikeTo one other

-- two beginnings from a state of the rulebook's machine on: the same words, and answers of which the same is seen, whatever they lead to.
-- Commands and decision are not compared
abbrev pub Alongside : Machine → List Entry → List Entry → Type 0
Alongside = Under.Alongside rules view
