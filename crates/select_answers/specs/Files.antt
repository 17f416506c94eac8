-- The file control information (FCI) that answers a SELECT: of the payment system environment, and of an application. Its names stand
-- directly in 6F, and directly in 6F's A5; in an answer that is not one 6F nothing stands under them. 001, 11.3.4.
-- Assumes nothing.
use Rattle.std.specs.Prelude.{Bool, not, List, [], ◌∷◌, ℕ, eqb, get_or}
use Rattle.slices.specs.Choice.{pick}
use Rattle.slices.specs.Tests.{every}
use Rattle.tlv_list.specs.Lookup.{Lookup}
use Rattle.answer_common.specs.Named.{direct, times, value_of}
use Rattle.answer_select.specs.Select.{select_tag, inner}
use Rattle.select_names.specs.Names.{begins_with}
use Rattle.select_answers.specs.Objects.{name_right, indicator_right, indicator_of, file_right}

-- the environment's name, '1PAY.SYS.DDF01': 001, 12.2.2
abbrev pub environment : List ℕ
environment =
    0x31 ∷ 0x50 ∷ 0x41 ∷ 0x59 ∷ 0x2E ∷ 0x53 ∷ 0x59 ∷ 0x53 ∷ 0x2E ∷ 0x44 ∷ 0x44 ∷ 0x46 ∷ 0x30 ∷ 0x31 ∷ []

-- the environment's FCI, by what stands in 6F and in A5: 84, which begins with the name sent (01), and A5; in A5 the directory's file.
-- 001, Table 8
unfoldable pub environment_right : (ℕ → Lookup) → (ℕ → Lookup) → Bool
environment_right outer in' =
    every
    (name_right (outer 0x84)
    ∷ begins_with environment (value_of (outer 0x84))
    ∷ eqb (times (outer 0xA5)) 1
    ∷ file_right (in' 0x88)
    ∷ [])

-- the file of the payment system directory that an answer tells; 0 where it is no good FCI of the environment
unfoldable pub directory_file : List ℕ → ℕ
directory_file a = pick (environment_right (direct select_tag a) (inner a)) (get_or (value_of (inner a 0x88)) 0 0) 0

-- an application's FCI: 84 and A5, which may be empty; in A5 its priority indicator, and 9F38 at most once. What 9F38 asks for matters at
-- the final SELECT alone. 001, Table 10
unfoldable pub application_right : (ℕ → Lookup) → (ℕ → Lookup) → Bool
application_right outer in' =
    every
    (name_right (outer 0x84)
    ∷ eqb (times (outer 0xA5)) 1
    ∷ indicator_right (in' 0x87)
    ∷ not (eqb (times (in' 0x9F38)) 2)
    ∷ [])

unfoldable pub is_application : List ℕ → Bool
is_application a = application_right (direct select_tag a) (inner a)

-- its name, and what its priority indicator says
unfoldable pub application_name : List ℕ → List ℕ
application_name a = value_of (direct select_tag a 0x84)

unfoldable pub application_indicator : List ℕ → ℕ
application_indicator a = indicator_of (inner a 0x87)
