-- Worked answers of a selection that hold the definitions to 001, each by computation.
-- Assumes nothing.
use mathlib.Core.Path.{◌≡◌, refl}
use mathlib.Core.Bool.{Bool, true, false}
use mathlib.Core.List.{List, [], ◌∷◌, ◌++◌, map}
use Prim.Native.Nat.{ℕ}
use lib.ListN.{replicate}
use Rattle.slices.specs.Tests.{between, alike}
use Rattle.answer_common.proofs.Opened.{one, two, good, joined_all, opened}
use Rattle.answer_select.specs.Select.{inner}
use Rattle.select_names.specs.Names.{begins_with}
use Rattle.select_answers.specs.Objects.{name_right, indicator_right, indicator_of, file_right}
use Rattle.select_answers.specs.Files.{environment, environment_right, directory_file, application_right, is_application}
use Rattle.select_answers.specs.Directory.{Met, is_named, entry_right, entries, entries_in, record_right, entry_name}
use Rattle.select_answers.specs.Directory.{entry_indicator, applications, applications_of}

abbrev aid : List ℕ
aid = 0xA0 ∷ 0x00 ∷ 0x00 ∷ 0x00 ∷ 0x03 ∷ []

abbrev fci : List (List ℕ) → List ℕ
fci members = good (one 0x6F (joined_all members))

abbrev file : ℕ → List ℕ
file n = one 0x88 (n ∷ [])

file_of : List ℕ → ℕ
unfolding opened directory_file environment_right name_right file_right begins_with alike between inner
file_of a = directory_file a

-- what stands in 6F, and the file; 0 is none
abbrev environments : List (List (List ℕ) × ℕ)
environments =
    (one 0x84 environment ∷ one 0xA5 (file 1) ∷ [], 1)
    ∷ (one 0xA5 (file 10) ∷ one 0x84 (environment ++ (0x00 ∷ 0x00 ∷ [])) ∷ [], 10)
    -- 1 to 10, one byte, once, directly in A5
    ∷ (one 0x84 environment ∷ one 0xA5 (file 0) ∷ [], 0)
    ∷ (one 0x84 environment ∷ one 0xA5 (file 11) ∷ [], 0)
    ∷ (one 0x84 environment ∷ one 0xA5 (one 0x88 (0x00 ∷ 0x01 ∷ [])) ∷ [], 0)
    ∷ (one 0x84 environment ∷ one 0xA5 (file 1 ++ file 1) ∷ [], 0)
    ∷ (one 0x84 environment ∷ one 0xA5 [] ∷ file 1 ∷ [], 0)
    ∷ (one 0x84 environment ∷ one 0xA5 (one 0x61 (file 1)) ∷ [], 0)
    -- A5 once; 84 once, with the name sent
    ∷ (one 0x84 environment ∷ one 0xA5 (file 1) ∷ one 0xA5 (file 1) ∷ [], 0)
    ∷ (one 0x84 environment ∷ one 0x84 environment ∷ one 0xA5 (file 1) ∷ [], 0)
    ∷ (one 0x84 aid ∷ one 0xA5 (file 1) ∷ [], 0)
    ∷ (one 0xA5 (file 1) ∷ [], 0)
    -- others are ignored, 87 and 9F38 too
    ∷ (one 0x84 environment ∷ one 0xA5 (one 0x87 [] ++ (two 0x9F 0x38 (0x00 ∷ []) ++ file 3)) ∷ one 0x50 [] ∷ [], 3)
    ∷ []

files_told : map (λ row. file_of (fci row.0)) environments ≡ map (λ row. row.1) environments
unfolding file_of
files_told = refl

is_good : List ℕ → Bool
unfolding opened is_application application_right name_right indicator_right between inner
is_good a = is_application a

abbrev applied : List (List (List ℕ) × Bool)
applied =
    (one 0x84 aid ∷ one 0xA5 [] ∷ [], true)
    ∷ (one 0x84 (aid ++ replicate 11 0) ∷ one 0xA5 (one 0x87 (0x81 ∷ [])) ∷ [], true)
    ∷ (one 0x84 (aid ++ replicate 12 0) ∷ one 0xA5 [] ∷ [], false)
    ∷ (one 0x84 (0xA0 ∷ 0x00 ∷ 0x00 ∷ 0x00 ∷ []) ∷ one 0xA5 [] ∷ [], false)
    ∷ (one 0x84 aid ∷ [], false)
    ∷ (one 0x84 aid ∷ one 0xA5 (one 0x87 []) ∷ [], false)
    ∷ (one 0x84 aid ∷ one 0xA5 (one 0x87 (0x01 ∷ 0x01 ∷ [])) ∷ [], false)
    ∷ (one 0x84 aid ∷ one 0xA5 (one 0x87 (0x01 ∷ []) ++ one 0x87 (0x01 ∷ [])) ∷ [], false)
    -- 9F38 twice; what it asks for is not looked at
    ∷ (one 0x84 aid ∷ one 0xA5 (two 0x9F 0x38 [] ++ two 0x9F 0x38 []) ∷ [], false)
    ∷ (one 0x84 aid ∷ one 0xA5 (two 0x9F 0x38 (0x00 ∷ [])) ∷ [], true)
    -- the label is looked at by nothing
    ∷ (one 0x84 aid ∷ one 0xA5 (one 0x50 [] ++ one 0x50 (replicate 17 0)) ∷ [], true)
    ∷ []

applications_told : map (λ row. is_good (fci row.0)) applied ≡ map (λ row. row.1) applied
unfolding is_good
applications_told = refl

recorded : List ℕ → Bool × List Met
unfolding opened record_right applications_of applications entries_in entries entry_right is_named entry_name entry_indicator indicator_of
    name_right
    indicator_right between
recorded a = (record_right a, applications_of a)

-- an application's entry, a DDF's that is passed over, and what is no entry
two_entries : recorded
    (good
    (one 0x70
    (one 0x61 (one 0x4F aid ++ one 0x87 (0x02 ∷ []))
    ++ (one 0x61 (one 0x9D [] ++ one 0x87 []) ++ (one 0x73 (one 0x61 []) ++ (one 0x4F [] ++ one 0x61 (one 0x4F aid)))))))
    ≡ (true, record { name = aid; indicator = 2 } ∷ record { name = aid; indicator = 0 } ∷ [])
unfolding recorded
two_entries = refl

rightness : List ℕ → Bool
unfolding recorded
rightness a = record_right a

-- what stands in 70
abbrev records : List (List (List ℕ) × Bool)
records =
    ([], true)
    ∷ (one 0x61 [] ∷ [], false)
    ∷ (one 0x61 (one 0x4F (0xA0 ∷ [])) ∷ [], false)
    ∷ (one 0x61 (one 0x4F aid ++ one 0x4F aid) ∷ [], false)
    -- with 9D and a name it is an application's
    ∷ (one 0x61 (one 0x9D [] ++ one 0x4F (0xA0 ∷ [])) ∷ [], false)
    ∷ (one 0x61 (one 0x4F aid ++ one 0x87 []) ∷ [], false)
    -- also behind a good one
    ∷ (one 0x61 (one 0x4F aid) ∷ one 0x61 (one 0x50 []) ∷ [], false)
    ∷ []

records_told : map (λ row. rightness (good (one 0x70 (joined_all row.0)))) records ≡ map (λ row. row.1) records
unfolding rightness
records_told = refl

-- no data, two records, another object
elsewhere : map rightness (good [] ∷ good (one 0x70 [] ++ one 0x70 []) ∷ good (one 0x6F []) ∷ []) ≡ false ∷ false ∷ false ∷ []
unfolding rightness
elsewhere = refl
