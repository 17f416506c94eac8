-- Worked answers to SELECT that hold the definitions to document 01, each by computation.
-- Assumes nothing.
use mathlib.Core.Path.{◌≡◌, refl}
use mathlib.Core.List.{List, [], ◌∷◌, ◌++◌, map}
use Prim.Native.Nat.{ℕ}
use lib.ListN.{replicate}
use Rattle.start_fields.specs.Reading.{reading_of}
use Rattle.dol_wanted.specs.Wanted.{and_then, size_at, first_wanted, asks, wanted_step, entries_of, total, fits, fillable}
use Rattle.answer_select.specs.Select.{inner, begins, name_wrong, select_twice, select_wrong, select_lines, select_reason, pdol_of}
use Rattle.answer_common.proofs.Opened.{one, two, good, joined_all, opened}

-- terminal data with an AID of 5 bytes
abbrev aid : List ℕ
aid = 0xA0 ∷ 0x00 ∷ 0x00 ∷ 0x00 ∷ 0x03 ∷ []

judge : List ℕ → ℕ
unfolding opened reading_of and_then size_at first_wanted asks wanted_step entries_of total fits fillable inner begins name_wrong
    select_twice
    select_wrong select_lines select_reason pdol_of
judge a = select_reason (reading_of (replicate 57 0 ++ (5 ∷ aid))) a

abbrev name : List ℕ → List ℕ
name more = one 0x84 (aid ++ more)

abbrev a5 : List ℕ
a5 = one 0xA5 []

abbrev pdol : List ℕ → List ℕ
pdol list = two 0x9F 0x38 list

-- what stands in 6F, and the reason
abbrev rows : List (List (List ℕ) × ℕ)
rows =
    (name [] ∷ a5 ∷ [], 0)
    ∷ (a5 ∷ name [] ∷ [], 0)
    -- 84 may be longer than the AID, up to 16 bytes, and begins with it
    ∷ (name (0xFF ∷ []) ∷ a5 ∷ [], 0)
    ∷ (name (replicate 11 0) ∷ a5 ∷ [], 0)
    ∷ (name (replicate 12 0) ∷ a5 ∷ [], 5)
    ∷ (one 0x84 (0xA0 ∷ 0x00 ∷ 0x00 ∷ 0x00 ∷ []) ∷ a5 ∷ [], 5)
    ∷ (one 0x84 (0xA0 ∷ 0x00 ∷ 0x00 ∷ 0x00 ∷ 0x04 ∷ []) ∷ a5 ∷ [], 5)
    ∷ (one 0x84 (0x00 ∷ aid) ∷ a5 ∷ [], 5)
    -- both are mandatory
    ∷ (a5 ∷ [], 8)
    ∷ (name [] ∷ [], 8)
    ∷ ([], 8)
    -- and 84 in A5 is none of 6F's own
    ∷ (one 0xA5 (name []) ∷ [], 8)
    -- twice
    ∷ (name [] ∷ name [] ∷ a5 ∷ [], 4)
    ∷ (name [] ∷ a5 ∷ a5 ∷ [], 4)
    ∷ (name [] ∷ one 0xA5 (pdol [] ++ pdol []) ∷ [], 4)
    -- the list in A5: filled or not
    ∷ (name [] ∷ one 0xA5 (pdol []) ∷ [], 0)
    ∷ (name [] ∷ one 0xA5 (pdol (0x9F ∷ 0x02 ∷ 0x06 ∷ [])) ∷ [], 0)
    ∷ (name [] ∷ one 0xA5 (pdol (0x95 ∷ 252 ∷ [])) ∷ [], 0)
    ∷ (name [] ∷ one 0xA5 (pdol (0x95 ∷ 253 ∷ [])) ∷ [], 9)
    ∷ (name [] ∷ one 0xA5 (pdol (0x00 ∷ 0x01 ∷ [])) ∷ [], 9)
    ∷ (name [] ∷ one 0xA5 (pdol (0x95 ∷ [])) ∷ [], 9)
    -- elsewhere 9F38 means nothing, and other objects mean nothing anywhere
    ∷ (name [] ∷ a5 ∷ pdol (0x95 ∷ []) ∷ pdol [] ∷ [], 0)
    ∷ (name [] ∷ one 0xA5 (one 0x61 (pdol (0x95 ∷ []))) ∷ [], 0)
    ∷ (one 0x87 (0x01 ∷ []) ∷ name [] ∷ one 0xA5 (one 0x50 (0x31 ∷ []) ++ one 0x50 []) ∷ one 0x87 [] ∷ [], 0)
    -- the lowest counts
    ∷ (name [] ∷ name [] ∷ [], 4)
    ∷ (one 0x84 [] ∷ one 0x84 [] ∷ a5 ∷ [], 4)
    ∷ (one 0x84 [] ∷ [], 5)
    ∷ (one 0xA5 (pdol (0x95 ∷ [])) ∷ [], 8)
    ∷ []

judged : map (λ row. judge (good (one 0x6F (joined_all row.0)))) rows ≡ map (λ row. row.1) rows
unfolding judge
judged = refl

-- another object, and another status
elsewhere : (judge (good (one 0x70 (name [] ++ a5))) ≡ 3) × (judge (one 0x6F (name [] ++ a5) ++ (0x62 ∷ 0x83 ∷ [])) ≡ 2)
    × (judge (0x90 ∷ []) ≡ 1)
unfolding judge
elsewhere = (refl, refl, refl)

told : List ℕ → List ℕ
unfolding judge
told a = pdol_of a

lists : (told (good (one 0x6F (name [] ++ one 0xA5 (one 0x50 [] ++ pdol (0x9F ∷ 0x02 ∷ 0x06 ∷ []))))) ≡ 0x9F ∷ 0x02 ∷ 0x06 ∷ [])
    × (told (good (one 0x6F (name [] ++ a5))) ≡ [])
unfolding told
lists = (refl, refl)
