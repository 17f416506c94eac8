-- A card whose directory has no end: its environment is good, and so is every record that is asked for. 001, 12.3.2; 02, R-12.
-- Assumes nothing.
use Rattle.std.specs.Prelude.{◌≡◌, true, false, List, [], ◌∷◌, ℕ, ◌+◌, ◌*◌, eqb, length}
use Rattle.numbers.specs.Tables.{start, answer, decision, terminated, for_exchanges}
use Rattle.tape_read.specs.Entries.{Entry, entry}
use Rattle.answer_common.specs.Answer.{size_bad}
use Rattle.select_answers.specs.Files.{directory_file}
use Rattle.select_search.specs.Search.{has_status, most_exchanges}
use Rattle.select_laws.specs.Endless.{GoodRecord}
use Rattle.rulebook.specs.Phase.{decision_of}
use Rattle.rulebook_choosing.specs.Choosing.{listed}
use Rattle.rulebook_choosing.specs.Nobody.{EndsWith}

-- an answer that names the directory's file
pub record GoodEnvironment (a : List ℕ) : Type 0 where
  pub size : size_bad a ≡ false
  pub status : has_status 0x9000 a ≡ true
  pub file : eqb (directory_file a) 0 ≡ false

-- every answer among some entries is a good record
abbrev pub RecordsAll : List Entry → Type 0
RecordsAll [] = Unit {0}
RecordsAll (e ∷ es) = (e.kind ≡ answer → GoodRecord e.payload) × RecordsAll es

-- the first exchange has the environment, all others records
abbrev pub Endless : List Entry → Type 0
Endless [] = ⊥
Endless (c ∷ []) = ⊥
Endless (c ∷ a ∷ es) = GoodEnvironment a.payload × RecordsAll es

-- START, a hundred exchanges, and DECISION with outcome 3 and reason 11, whatever matched
pub record Exhausted (p : List ℕ) (es : List Entry) : Type 0 where
  pub entries : length (entry start p ∷ es) ≡ 2 * most_exchanges + 2
  pub decided : EndsWith (entry decision (decision_of terminated for_exchanges (listed p).situation)) es
