-- A card that has none of the terminal's applications, and says so each time: '6A82' to every command. 02, R-12.
-- Assumes nothing.
use Rattle.std.specs.Prelude.{◌≡◌, List, [], ◌∷◌, ℕ, ◌+◌, ◌*◌, length}
use Rattle.numbers.specs.Tables.{start, answer, decision, terminated, for_nobody}
use Rattle.tape_read.specs.Entries.{Entry, entry}
use Rattle.start_list.specs.Listing.{applications_in}
use Rattle.rulebook.specs.Phase.{decision_of}
use Rattle.rulebook_choosing.specs.Choosing.{listed}

-- every answer among some entries is this one
abbrev pub AnswersAll : List ℕ → List Entry → Type 0
AnswersAll a [] = Unit {0}
AnswersAll a (e ∷ es) = (e.kind ≡ answer → e.payload ≡ a) × AnswersAll a es

-- they end with this one
abbrev pub EndsWith : Entry → List Entry → Type 0
EndsWith e [] = ⊥
EndsWith e (f ∷ []) = f ≡ e
EndsWith e (f ∷ g ∷ es) = EndsWith e (g ∷ es)

-- with n AIDs in START: START, n + 1 exchanges, and DECISION with outcome 3 and reason 12
pub record NobodyFound (p : List ℕ) (es : List Entry) : Type 0 where
  pub entries : length (entry start p ∷ es) ≡ 2 * length (applications_in p).list + 4
  pub decided : EndsWith (entry decision (decision_of terminated for_nobody (listed p).situation)) es
