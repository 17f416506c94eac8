-- Worked answers to GET PROCESSING OPTIONS that hold the definitions to document 01, each by computation; case I of its bench
-- and its run of `08 00 01 00` are among them.
-- Assumes nothing.
use mathlib.Core.Path.{◌≡◌, refl}
use mathlib.Core.List.{List, [], ◌∷◌, ◌++◌, map}
use Prim.Native.Nat.{ℕ}
use Rattle.answer_afl.specs.Entries.{first_entry, entries, sfi, records, file_right, entry_right}
use Rattle.answer_afl.specs.Entries.{entries_right, records_of, record_count, too_many}
use Rattle.answer_common.specs.Forms.{lacks}
use Rattle.answer_gpo.specs.Options.{profile_of, locator_of, options_wrong, options_lines, options_reason}
use Rattle.answer_common.proofs.Opened.{one, good, joined_all, opened}

judge : List ℕ → ℕ
unfolding opened first_entry entries sfi records file_right entry_right entries_right records_of record_count too_many lacks profile_of
    locator_of options_wrong options_lines options_reason
judge a = options_reason a

abbrev aip : List ℕ
aip = one 0x82 (0x08 ∷ 0x00 ∷ [])

abbrev afl : List ℕ → List ℕ
afl v = one 0x94 v

abbrev entry : List ℕ
entry = 0x08 ∷ 0x01 ∷ 0x03 ∷ 0x01 ∷ []

-- 250 records of one file and so many of the next
abbrev many : ℕ → List ℕ
many last = 0x08 ∷ 0x01 ∷ 0xFA ∷ 0x00 ∷ 0x10 ∷ 0x01 ∷ last ∷ 0x00 ∷ []

-- what stands in 77, and the reason
abbrev rows : List (List (List ℕ) × ℕ)
rows =
    (aip ∷ afl entry ∷ [], 0)
    ∷ (afl entry ∷ aip ∷ [], 0)
    ∷ (one 0x57 [] ∷ aip ∷ one 0x57 [] ∷ afl (entry ++ entry) ∷ [], 0)
    -- twice
    ∷ (aip ∷ aip ∷ afl entry ∷ [], 4)
    ∷ (aip ∷ afl entry ∷ afl entry ∷ [], 4)
    -- lengths
    ∷ (one 0x82 (0x08 ∷ []) ∷ afl entry ∷ [], 5)
    ∷ (one 0x82 (0x08 ∷ 0x00 ∷ 0x00 ∷ []) ∷ afl entry ∷ [], 5)
    ∷ (aip ∷ afl [] ∷ [], 5)
    ∷ (aip ∷ afl (0x08 ∷ entry) ∷ [], 5)
    -- entries, also where 82 is missing
    ∷ (aip ∷ afl (0x08 ∷ 0x00 ∷ 0x01 ∷ 0x00 ∷ []) ∷ [], 6)
    ∷ (afl (0x08 ∷ 0x00 ∷ 0x01 ∷ 0x00 ∷ []) ∷ [], 6)
    ∷ (aip ∷ afl (entry ++ (0x58 ∷ 0x01 ∷ 0x01 ∷ 0x00 ∷ [])) ∷ [], 6)
    -- records in all
    ∷ (aip ∷ afl (0x08 ∷ 0x01 ∷ 0x3B ∷ 0x00 ∷ []) ∷ [], 0)
    ∷ (aip ∷ afl (many 0xFA) ∷ [], 0)
    ∷ (aip ∷ afl (many 0xFB) ∷ [], 7)
    ∷ (afl (many 0xFB) ∷ [], 7)
    ∷ (afl (many 0xFA) ∷ [], 8)
    -- mandatory
    ∷ (afl entry ∷ [], 8)
    ∷ (aip ∷ [], 8)
    ∷ ([], 8)
    -- the lowest counts
    ∷ (aip ∷ one 0x82 [] ∷ [], 4)
    ∷ (one 0x82 [] ∷ afl (0x08 ∷ 0x00 ∷ 0x01 ∷ 0x00 ∷ []) ∷ [], 5)
    ∷ (aip ∷ afl (many 0xFB ++ (0x00 ∷ 0x01 ∷ 0x01 ∷ 0x00 ∷ [])) ∷ [], 6)
    ∷ []

judged : map (λ row. judge (good (one 0x77 (joined_all row.0)))) rows ≡ map (λ row. row.1) rows
unfolding judge
judged = refl

-- the values joined, and the reason
abbrev joined_rows : List (List ℕ × ℕ)
joined_rows =
    (0x08 ∷ 0x00 ∷ entry, 0)
    ∷ (0x08 ∷ 0x00 ∷ (entry ++ entry), 0)
    ∷ ([], 5)
    ∷ (0x08 ∷ [], 5)
    ∷ (0x08 ∷ 0x00 ∷ [], 5)
    ∷ (0x08 ∷ entry, 5)
    ∷ (0x08 ∷ 0x00 ∷ 0x00 ∷ entry, 5)
    ∷ (0x08 ∷ 0x00 ∷ 0x08 ∷ 0x00 ∷ 0x01 ∷ 0x00 ∷ [], 6)
    ∷ (0x08 ∷ 0x00 ∷ many 0xFA, 0)
    ∷ (0x08 ∷ 0x00 ∷ many 0xFB, 7)
    ∷ []

joined_judged : map (λ row. judge (good (one 0x80 row.0))) joined_rows ≡ map (λ row. row.1) joined_rows
unfolding judge
joined_judged = refl

-- both forms at once are not the one object
both : judge (good (one 0x77 (aip ++ afl entry) ++ one 0x80 (0x08 ∷ 0x00 ∷ entry))) ≡ 3
unfolding judge
both = refl

facts : List ℕ → List ℕ × List ℕ
unfolding judge
facts a = (profile_of a, locator_of a)

told : (facts (good (one 0x77 (afl entry ++ aip))) ≡ (0x08 ∷ 0x00 ∷ [], entry))
    × (facts (good (one 0x80 (0x08 ∷ 0x00 ∷ entry))) ≡ (0x08 ∷ 0x00 ∷ [], entry))
unfolding facts
told = (refl, refl)
