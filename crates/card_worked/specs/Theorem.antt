-- That what is seen of an answer is not too much, nor what is left out too little (02, R-13), in one record; that it holds is `theorem` of
-- proofs/Theorem. A name that is added to the rules' lists needs a pair more there.
-- Assumes nothing.
use Rattle.std.specs.Prelude.{◌≡◌, true, List, [], ◌∷◌, ◌++◌, ℕ}
use Rattle.answer_common.specs.Content.{record_names}
use Rattle.answer_common.specs.Named.{listed}
use Rattle.answer_select.specs.Select.{select_names, inner_names}
use Rattle.answer_gpo.specs.Options.{option_names}
use Rattle.answer_cryptogram.specs.Cryptogram.{cryptogram_names}
use Rattle.card_worked.specs.Matters.{Matters}
use Rattle.card_worked.specs.Dressed.{Dressed}

-- all that is named at some place: twenty names
abbrev pub every_name : List ℕ
every_name = select_names ++ (inner_names ++ (option_names ++ (record_names ++ cryptogram_names)))

-- those that count by their value. Of the five others (84, A5, 9F36, 9F26, 9F10) it counts that they are there and right, and no more
-- (`good` of `card_seen`)
abbrev pub by_value : List ℕ
by_value = inner_names ++ (option_names ++ (record_names ++ (0x9F27 ∷ [])))

pub record Worked : Type 0 where
  -- for every name two sessions that differ in that object alone, and then in a command or in the decision
  pub every : (name : ℕ) → listed name every_name ≡ true → (reason : ℕ) × Matters name reason
  -- both answers good, where the value counts
  pub by_value_lem : (name : ℕ) → listed name by_value ≡ true → Matters name 0
  -- and two whole sessions that are given the same, no answer of which has the bytes of the other's
  pub dressed : Dressed
