-- The answer to SELECT: the application's name (84), and the list of what GPO wants to be told (9F38), which may stand in A5.
-- 01, "What the card must answer".
-- Assumes nothing.
use Rattle.std.specs.Prelude.{Bool, true, false, not, ◌&&◌, ◌||◌, List, [], ◌∷◌, ◌++◌, ℕ, eqb}
use Rattle.slices.specs.Choice.{first_of}
use Rattle.numbers.specs.Tables.{for_twice, for_content, for_missing, for_list}
use Rattle.tlv_list.specs.Place.{data_field}
use Rattle.tlv_list.specs.Lookup.{Lookup, absent, once, twice}
use Rattle.start_fields.specs.Reading.{Terminal}
use Rattle.dol_wanted.specs.Wanted.{fillable}
use Rattle.answer_common.specs.Answer.{frame}
use Rattle.answer_common.specs.Named.{among, direct, standing, value_of, any_twice, any_missing, any_wrong}
use Rattle.answer_common.specs.Single.{single_of, read_by}

abbrev pub select_tag : ℕ
select_tag = 0x6F

-- named directly in 6F, both mandatory, and directly in A5
abbrev pub select_names : List ℕ
select_names = 0x84 ∷ 0xA5 ∷ []

abbrev pub inner_names : List ℕ
inner_names = 0x9F38 ∷ []

-- what stands under a name directly in A5
unfoldable pub inner : List ℕ → ℕ → Lookup
inner a = among (value_of (direct select_tag a 0xA5))

-- the value of 9F38; an empty list where there is none
unfoldable pub pdol_of : List ℕ → List ℕ
pdol_of a = value_of (inner a 0x9F38)

-- whether one list begins with another
unfoldable pub begins : List ℕ → List ℕ → Bool
begins [] v = true
begins (x ∷ xs) [] = false
begins (x ∷ xs) (y ∷ ys) = eqb x y && begins xs ys

-- the name is there, and does not begin with the AID
unfoldable pub name_wrong : List ℕ → Lookup → Bool
name_wrong aid absent = false
name_wrong aid (once v) = not (begins aid v)
name_wrong aid twice = false

unfoldable pub select_twice : List ℕ → Bool
select_twice a = any_twice select_names (direct select_tag a) || any_twice inner_names (inner a)

unfoldable pub select_wrong : List ℕ → List ℕ → Bool
select_wrong aid a =
    any_wrong select_names (direct select_tag a)
    || (any_wrong inner_names (inner a) || name_wrong aid (direct select_tag a 0x84))

unfoldable pub select_lines : List ℕ → List ℕ → List (Bool × ℕ)
select_lines aid a =
    (select_twice a, for_twice)
    ∷ (select_wrong aid a, for_content)
    ∷ (any_missing select_names (direct select_tag a), for_missing)
    ∷ (not (fillable (pdol_of a)), for_list)
    ∷ []

unfoldable pub select_reason : Terminal → List ℕ → ℕ
select_reason t a = first_of (frame (select_tag ∷ []) a ++ select_lines t.aid a)

-- the list by place, for an answer that has no reason: proofs/Good
unfoldable pub pdol_in : ℕ → List ℕ → List ℕ
pdol_in tag v = value_of (standing (value_of (standing v 0xA5)) 0x9F38)

unfoldable pub pdol_read : List ℕ → List ℕ
pdol_read a = read_by pdol_in (data_field a) (single_of a)
