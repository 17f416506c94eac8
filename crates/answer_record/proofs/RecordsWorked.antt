-- Worked records that hold the definitions to document 01, each by computation.
-- Assumes nothing.
use mathlib.Core.Path.{◌≡◌, refl}
use mathlib.Core.Bool.{Bool, false}
use mathlib.Core.List.{List, [], ◌∷◌, ◌++◌, map}
use mathlib.Core.Option.{Option, none, some}
use Prim.Native.Nat.{ℕ}
use lib.Dec.{eqb}
use lib.ListN.{take, replicate}
use Rattle.decimal_dates.specs.Decimal.{digits_only, decimal_byte}
use Rattle.decimal_dates.specs.Dates.{month_and_day, valid_card_date}
use Rattle.dol_wanted.specs.Wanted.{and_then, size_at, first_wanted, asks, wanted_step, entries_of, total, fits, fillable}
use Rattle.answer_common.specs.CardNumber.{halves, digits, only_f, card_number}
use Rattle.slices.specs.Tables.{beside}
use Rattle.answer_record.specs.Records.{again, any_again, record_twice, record_lines, record_reason}
use Rattle.answer_record.specs.Records.{value_in, incomplete, complete_reason, after_records}
use Rattle.answer_common.specs.Content.{record_names}
use Rattle.answer_common.proofs.Opened.{one, two, good, joined_all, opened}

-- with all the names; and with those of a terminal without Terminal Capabilities, the first nine
judge : (ℕ → Bool) → List ℕ → ℕ
unfolding opened halves digits only_f card_number digits_only decimal_byte month_and_day valid_card_date again any_again record_twice
    record_lines
    record_reason
judge before a = record_reason record_names before a

judge_base : (ℕ → Bool) → List ℕ → ℕ
unfolding opened halves digits only_f card_number digits_only decimal_byte month_and_day valid_card_date again any_again record_twice
    record_lines
    record_reason
judge_base before a = record_reason (take 9 record_names) before a

-- nothing was told before
nothing : ℕ → Bool
nothing name = false

abbrev number : List ℕ
number = one 0x5A (0x12 ∷ 0x3F ∷ [])

abbrev expiry : List ℕ
expiry = two 0x5F 0x24 (0x26 ∷ 0x12 ∷ 0x31 ∷ [])

-- what stands in 70, and the reason
abbrev rows : List (List (List ℕ) × ℕ)
rows = (
  number ∷ expiry ∷ two 0x5F 0x25 (0x20 ∷ 0x01 ∷ 0x01 ∷ []) ∷ two 0x9F 0x08 (0x00 ∷ 0x02 ∷ []) ∷ one 0x8C [] ∷ one 0x8D
      (0x00 ∷ []) ∷ two 0x9F 0x0D (replicate 5 0) ∷ two 0x9F 0x0E (replicate 5 0) ∷ two 0x9F 0x0F (replicate 5 0) ∷ [],
  0,
)
    ∷ ([], 0)
    ∷ (one 0x57 [] ∷ one 0x57 [] ∷ one 0x72 (number ++ number) ∷ [], 0)
    -- twice in one record
    ∷ (number ∷ number ∷ [], 4)
    ∷ (one 0x8D [] ∷ number ∷ one 0x8D [] ∷ [], 4)
    ∷ (two 0x9F 0x0F (replicate 5 0) ∷ two 0x9F 0x0F (replicate 5 0) ∷ [], 4)
    -- content
    ∷ (one 0x5A (0xF1 ∷ []) ∷ [], 5)
    ∷ (two 0x5F 0x24 (0x26 ∷ 0x13 ∷ 0x01 ∷ []) ∷ [], 5)
    ∷ (two 0x5F 0x25 (0x26 ∷ 0x12 ∷ []) ∷ [], 5)
    ∷ (two 0x9F 0x08 (0x02 ∷ []) ∷ [], 5)
    ∷ (two 0x9F 0x0D (replicate 4 0) ∷ [], 5)
    ∷ (two 0x9F 0x0E (replicate 6 0) ∷ [], 5)
    ∷ (number ∷ two 0x9F 0x0F [] ∷ [], 5)
    -- the lowest counts
    ∷ (one 0x5A [] ∷ one 0x8C [] ∷ one 0x8C [] ∷ [], 4)
    ∷ []

judged : map (λ row. judge nothing (good (one 0x70 (joined_all row.0)))) rows ≡ map (λ row. row.1) rows
unfolding judge nothing
judged = refl

-- a record with eleven names
abbrev full_names : List ℕ
full_names = 0x5A ∷ 0x5F24 ∷ 0x5F25 ∷ 0x9F08 ∷ 0x8C ∷ 0x8D ∷ 0x9F0D ∷ 0x9F0E ∷ 0x9F0F ∷ 0x8E ∷ 0x9F42 ∷ []

abbrev full : List ℕ
full = number ++ expiry ++ two 0x5F 0x25 (0x20 ∷ 0x01 ∷ 0x01 ∷ []) ++ two 0x9F 0x08
    (0x00 ∷ 0x02 ∷ []) ++ one 0x8C [] ++ one 0x8D [] ++ two 0x9F 0x0D (replicate 5 0) ++ two 0x9F 0x0E (replicate 5 0) ++ two 0x9F 0x0F
    (replicate 5 0) ++ one 0x8E (replicate 8 0) ++ two 0x9F 0x42 (0x08 ∷ 0x26 ∷ [])

-- each of them told by an earlier record; nothing told, or another name; a name told, and not there again
told_again : (map (λ name. judge (eqb name) (good (one 0x70 full))) full_names ≡ replicate 11 4)
    × (judge nothing (good (one 0x70 full)) ≡ 0) × (judge (eqb 0x57) (good (one 0x70 full)) ≡ 0)
    × (judge (eqb 0x5A) (good (one 0x70 expiry)) ≡ 0)
unfolding judge nothing
told_again = (refl, refl, refl, refl)

-- the verification list, 8 bytes or more and an even number, and the application's currency of two: named for a terminal with Terminal
-- Capabilities, and nothing to another
abbrev verification : List (List (List ℕ) × (ℕ × ℕ))
verification =
    (one 0x8E (replicate 8 0) ∷ two 0x9F 0x42 (0x08 ∷ 0x26 ∷ []) ∷ [], (0, 0))
    ∷ (one 0x8E (replicate 10 0) ∷ [], (0, 0))
    ∷ (one 0x8E (replicate 9 0) ∷ [], (5, 0))
    ∷ (one 0x8E (replicate 6 0) ∷ [], (5, 0))
    ∷ (one 0x8E [] ∷ [], (5, 0))
    ∷ (two 0x9F 0x42 (0x08 ∷ []) ∷ [], (5, 0))
    ∷ (two 0x9F 0x42 (replicate 3 0) ∷ [], (5, 0))
    ∷ (one 0x8E (replicate 8 0) ∷ one 0x8E (replicate 8 0) ∷ [], (4, 0))
    ∷ (two 0x9F 0x42 [] ∷ two 0x9F 0x42 [] ∷ [], (4, 0))
    ∷ []

verification_judged :
    (map (λ row. judge nothing (good (one 0x70 (joined_all row.0)))) verification ≡ map (λ row. row.1.0) verification)
    × (map (λ row. judge_base nothing (good (one 0x70 (joined_all row.0)))) verification ≡ map (λ row. row.1.1) verification)
unfolding judge judge_base nothing
verification_judged = (refl, refl)

-- another object; told before and wrong
others : (judge nothing (good (one 0x77 number)) ≡ 3) × (judge (eqb 0x5A) (good (one 0x70 (one 0x5A []))) ≡ 4)
    × (judge (eqb 0x5A) (one 0x70 number ++ (0x90 ∷ 0x01 ∷ [])) ≡ 2)
unfolding judge
others = (refl, refl, refl)

read : ℕ → List ℕ → Option (List ℕ)
unfolding judge value_in
read name a = value_in name a

values : (read 0x5A (good (one 0x70 (expiry ++ number))) ≡ some (0x12 ∷ 0x3F ∷ [])) × (read 0x8C (good (one 0x70 number)) ≡ none)
    × (read 0x8C (good (one 0x70 (one 0x8C []))) ≡ some [])
unfolding read
values = (refl, refl, refl)

-- what the records told in all, and the reason
facts : List (ℕ × Option (List ℕ)) → ℕ → Option (List ℕ)
facts rows' name = beside none name rows'

ended : List (ℕ × Option (List ℕ)) → ℕ
unfolding opened and_then size_at first_wanted asks wanted_step entries_of total fits fillable incomplete complete_reason
    after_records facts
ended rows' = after_records (facts rows')

abbrev told : ℕ → ℕ × Option (List ℕ)
told name = (name, some [])

ends :
    (ended (told 0x5A ∷ told 0x5F24 ∷ told 0x8C ∷ told 0x8D ∷ []) ≡ 0)
    × (ended (told 0x5F24 ∷ told 0x8C ∷ told 0x8D ∷ []) ≡ 8)
    × (ended (told 0x5A ∷ told 0x8C ∷ told 0x8D ∷ []) ≡ 8)
    × (ended (told 0x5A ∷ told 0x5F24 ∷ told 0x8D ∷ []) ≡ 8)
    × (ended (told 0x5A ∷ told 0x5F24 ∷ told 0x8C ∷ []) ≡ 8)
    × (ended (told 0x5A ∷ told 0x5F24 ∷ (0x8C, some (0x95 ∷ [])) ∷ told 0x8D ∷ []) ≡ 9)
    × (ended (told 0x5A ∷ told 0x5F24 ∷ (0x8C, some (0x95 ∷ 252 ∷ [])) ∷ told 0x8D ∷ []) ≡ 0)
    × (ended (told 0x5A ∷ told 0x5F24 ∷ (0x8C, some (0x95 ∷ 253 ∷ [])) ∷ told 0x8D ∷ []) ≡ 9)
    × (ended (told 0x5A ∷ told 0x5F24 ∷ told 0x8C ∷ (0x8D, some (0x95 ∷ [])) ∷ []) ≡ 0)
    × (ended (told 0x5A ∷ (0x8C, some (0x95 ∷ [])) ∷ told 0x8D ∷ []) ≡ 8)
unfolding ended
ends = (refl, refl, refl, refl, refl, refl, refl, refl, refl, refl)
