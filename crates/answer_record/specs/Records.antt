-- The answer to READ RECORD, and what all records together must tell. 01, "What the card must answer".
-- Assumes nothing.
use Rattle.std.specs.Prelude.{Bool, not, ◌&&◌, ◌||◌, List, [], ◌∷◌, ◌++◌, map, ℕ, eqb}
use Rattle.std.proofs.Math.Option.{Option, none, get_or}
use Rattle.slices.specs.Choice.{pick, first_of}
use Rattle.slices.specs.Tests.{is_some}
use Rattle.numbers.specs.Tables.{for_twice, for_content, for_missing, for_list}
use Rattle.tlv_list.specs.Lookup.{Lookup}
use Rattle.dol_wanted.specs.Wanted.{fillable}
use Rattle.slices.specs.Tables.{any_of}
use Rattle.answer_common.specs.Answer.{frame}
use Rattle.answer_common.specs.Content.{record_tag, mandatory}
use Rattle.answer_common.specs.Named.{listed, direct, times, told, any_twice, any_wrong}

-- a name is there, and earlier records told it
unfoldable pub again : Bool → Lookup → Bool
again before l = before && not (eqb (times l) 0)

unfoldable pub any_again : (ℕ → Bool) → List ℕ → (ℕ → Lookup) → Bool
any_again before names look = any_of (map (λ name. again (before name) (look name)) names)

-- twice in this record, or in this one and an earlier one
unfoldable pub record_twice : List ℕ → (ℕ → Bool) → List ℕ → Bool
record_twice names before a = any_twice names (direct record_tag a) || any_again before names (direct record_tag a)

unfoldable pub record_lines : List ℕ → (ℕ → Bool) → List ℕ → List (Bool × ℕ)
record_lines names before a = (record_twice names before a, for_twice) ∷ (any_wrong names (direct record_tag a), for_content) ∷ []

-- `names` are those that count in a record, and `before` tells which of them earlier records told
unfoldable pub record_reason : List ℕ → (ℕ → Bool) → List ℕ → ℕ
record_reason names before a = first_of (frame (record_tag ∷ []) a ++ record_lines names before a)

-- what a record tells of a name
unfoldable pub value_in : ℕ → List ℕ → Option (List ℕ)
value_in name a = told (direct record_tag a name)

-- the same of a name that counts; objects not named for a record are ignored there
unfoldable pub named_in : List ℕ → ℕ → List ℕ → Option (List ℕ)
named_in names name a = pick (listed name names) (value_in name a) none

unfoldable pub incomplete : (ℕ → Bool) → Bool
incomplete there = any_of (map (λ name. not (there name)) mandatory)

-- after the last record, given which names were told and the object list for the first GENERATE AC
unfoldable pub complete_reason : (ℕ → Bool) → List ℕ → ℕ
complete_reason there list = first_of ((incomplete there, for_missing) ∷ (not (fillable list), for_list) ∷ [])

-- the same over all that the records told
unfoldable pub after_records : (ℕ → Option (List ℕ)) → ℕ
after_records facts = complete_reason (λ name. is_some (facts name)) (get_or (facts 0x8C) [])
