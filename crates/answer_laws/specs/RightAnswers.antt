-- A right answer to SELECT or READ RECORD, said of what stands in it: that just these have no reason is proved
-- (proofs/RightAnswers). 01, "What the card must answer".
-- Assumes nothing.
use Rattle.std.specs.Prelude.{◌≡◌, Bool, true, false, List, [], ◌∷◌, ℕ}
use Rattle.dol_wanted.specs.Wanted.{fillable}
use Rattle.answer_common.specs.Content.{list_most, record_tag, mandatory}
use Rattle.answer_common.specs.Named.{listed, direct}
use Rattle.answer_common.specs.Right.{Framed, There, MayBe, Right, Sized}
use Rattle.answer_select.specs.Select.{select_tag, inner, begins}

-- SELECT: 6F with 84, which begins with the AID, and A5; in A5 there may be 9F38, which can be filled
pub record RightSelect (aid a : List ℕ) : Type 0 where
  pub framed : Framed (select_tag ∷ []) a
  pub name : There (λ v. Sized 5 16 v × (begins aid v ≡ true)) (direct select_tag a 0x84)
  pub proprietary : There (λ v. Unit {0}) (direct select_tag a 0xA5)
  pub list : MayBe (λ v. Sized 0 list_most v × (fillable v ≡ true)) (inner a 0x9F38)

-- Record: 70, in which each object that is named there stands once, rightly, and was not told before
pub record RightRecord (names : List ℕ) (before : ℕ → Bool) (a : List ℕ) : Type 0 where
  pub framed : Framed (record_tag ∷ []) a
  pub told : (name : ℕ) → listed name names ≡ true → MayBe (λ v. Right name v × (before name ≡ false)) (direct record_tag a name)

-- After the last record: all that is mandatory was told, and the first object list can be filled
pub record RightRecords (there : ℕ → Bool) (list : List ℕ) : Type 0 where
  pub told : (name : ℕ) → listed name mandatory ≡ true → there name ≡ true
  pub list_right : fillable list ≡ true
