-- The answer to GET PROCESSING OPTIONS: AIP (82) and AFL (94). 01, "What the card must answer".
-- Assumes nothing.
use Rattle.std.specs.Prelude.{Bool, not, ◌&&◌, ◌||◌, List, [], ◌∷◌, ◌++◌, ℕ, take, drop}
use Rattle.slices.specs.Choice.{pick, first_of}
use Rattle.numbers.specs.Tables.{for_twice, for_content, for_locator, for_records, for_missing}
use Rattle.answer_common.specs.Answer.{is_one, inside, frame, most}
use Rattle.answer_afl.specs.Entries.{whole_entries, entries_right, too_many}
use Rattle.answer_common.specs.Named.{direct, value_of, any_twice, any_wrong}
use Rattle.answer_common.specs.Forms.{template, joined, both_forms, lacks, read_form}

abbrev pub option_names : List ℕ
option_names = 0x82 ∷ 0x94 ∷ []

-- the AIP's bytes: the first two of the joined values
unfoldable pub profile_of : List ℕ → List ℕ
profile_of a = pick (is_one joined a) (take 2 (inside joined a)) (value_of (direct template a 0x82))

-- the AFL's bytes: all that follow
unfoldable pub locator_of : List ℕ → List ℕ
locator_of a = pick (is_one joined a) (drop 2 (inside joined a)) (value_of (direct template a 0x94))

-- joined values of 2+4n bytes, n from 1
unfoldable pub options_wrong : List ℕ → Bool
options_wrong a =
    any_wrong option_names (direct template a) || (is_one joined a && not (whole_entries (locator_of a)))

-- an AFL that is not there names nothing, so it is neither wrong nor too long
unfoldable pub options_lines : List ℕ → List (Bool × ℕ)
options_lines a =
    (any_twice option_names (direct template a), for_twice)
    ∷ (options_wrong a, for_content)
    ∷ (not (entries_right (locator_of a)), for_locator)
    ∷ (too_many (locator_of a), for_records)
    ∷ (lacks option_names a, for_missing)
    ∷ []

unfoldable pub options_reason : List ℕ → ℕ
options_reason a = first_of (frame both_forms a ++ options_lines a)

-- both by place, for an answer that has no reason: proofs/Good
abbrev pub profile_read : List ℕ → List ℕ
profile_read a = read_form 0 2 0x82 a

abbrev pub locator_read : List ℕ → List ℕ
locator_read a = read_form 2 most 0x94 a
