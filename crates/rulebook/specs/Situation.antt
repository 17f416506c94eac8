-- What a session has come to know: from START, from the card's answers, and what the terminal made of it.
-- Assumes nothing.
use Rattle.std.specs.Prelude.{List, [], ◌∷◌, ℕ}
use Rattle.std.proofs.Math.Option.{Option, none, some, get_or}
use Rattle.slices.specs.Choice.{unless_empty}
use Rattle.slices.specs.Writing.{zeros}
use Rattle.start_fields.specs.Reading.{Terminal}
use Rattle.slices.specs.Tables.{beside}
use Rattle.facts.specs.Facts.{Facts}

pub record Situation : Type 0 where
  pub terminal : Terminal
  -- 82; empty before the answer to GPO
  pub profile : List ℕ
  -- what the records have told: for each named tag its value, once it was told
  pub facts : Facts
  pub tvr : List ℕ
  pub tsi : List ℕ

-- after START: nothing is told, and both start as zeros (01, "From facts to a decision")
unfoldable pub begun : Terminal → Situation
begun t = record { terminal = t; profile = []; facts = λ tag. none; tvr = zeros 5; tsi = zeros 2 }

-- what an object list is filled from beside START (01, "The commands"): TVR and TSI, the response code from the second request on,
-- the profile once it was read, and what the records told; which of these lists know, the table of formats says
unfoldable pub known_in : Situation → Option (List ℕ) → Facts
known_in s response tag =
    beside (s.facts tag) tag
    ((0x95, some s.tvr) ∷ (0x9B, some s.tsi) ∷ (0x8A, response) ∷ (0x82, unless_empty s.profile) ∷ [])

-- an object list that a record told; empty where none did
unfoldable pub list_in : Situation → ℕ → List ℕ
list_in s tag = get_or (s.facts tag) []
