-- The answer to GENERATE AC: cryptogram information (9F27), transaction counter (9F36), cryptogram (9F26) and, where the
-- card has any, issuer data (9F10). 01, "What the card must answer".
-- Assumes nothing.
use Rattle.std.specs.Prelude.{Bool, not, ◌&&◌, ◌||◌, List, [], ◌∷◌, ◌++◌, ℕ, length, get_or}
use Rattle.slices.specs.Choice.{pick, first_of}
use Rattle.slices.specs.Tests.{between}
use Rattle.numbers.specs.Tables.{for_twice, for_content, for_missing, for_cryptogram}
use Rattle.answer_common.specs.Answer.{is_one, inside, frame}
use Rattle.answer_common.specs.Named.{direct, value_of, any_twice, any_wrong}
use Rattle.answer_common.specs.Forms.{template, joined, both_forms, lacks, read_form}
use Rattle.decide_cryptogram.specs.Cryptograms.{given_by}
use Rattle.decide_cryptogram.specs.Cryptograms.{Given}

-- those that must be there, and all that are named
abbrev pub mandatory_names : List ℕ
mandatory_names = 0x9F27 ∷ 0x9F36 ∷ 0x9F26 ∷ []

abbrev pub cryptogram_names : List ℕ
cryptogram_names = mandatory_names ++ (0x9F10 ∷ [])

-- the bytes that begin with 9F27's one byte: its own value, or all of the joined ones
unfoldable pub information_of : List ℕ → List ℕ
information_of a = pick (is_one joined a) (inside joined a) (value_of (direct template a 0x9F27))

-- the cryptogram that the answer gives, by that byte
unfoldable pub cryptogram_of : List ℕ → Given
cryptogram_of a = given_by (get_or (information_of a) 0 0)

-- joined values of 11-43 bytes: 1, 2, 8 and 0-32
unfoldable pub cryptogram_wrong : List ℕ → Bool
cryptogram_wrong a =
    any_wrong cryptogram_names (direct template a) || (is_one joined a && not (between 11 43 (length (inside joined a))))

unfoldable pub cryptogram_lines : (Given → Bool) → List ℕ → List (Bool × ℕ)
cryptogram_lines allowed a =
    (any_twice cryptogram_names (direct template a), for_twice)
    ∷ (cryptogram_wrong a, for_content)
    ∷ (lacks mandatory_names a, for_missing)
    ∷ (not (allowed (cryptogram_of a)), for_cryptogram)
    ∷ []

-- `allowed` are the answers that the request allows
unfoldable pub cryptogram_reason : (Given → Bool) → List ℕ → ℕ
cryptogram_reason allowed a = first_of (frame both_forms a ++ cryptogram_lines allowed a)

-- by place, for an answer that has no reason: proofs/Good
unfoldable pub cryptogram_read : List ℕ → Given
cryptogram_read a = given_by (get_or (read_form 0 1 0x9F27 a) 0 0)
