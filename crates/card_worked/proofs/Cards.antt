-- What the pairs of sessions are made of: a card that tells every named object once, each answer with its objects as parameters.
-- Assumes nothing.
use mathlib.Core.Path.{◌≡◌, ap}
use mathlib.Core.Bool.{false}
use mathlib.Core.List.{List, [], ◌∷◌, ◌++◌}
use Prim.Native.Nat.{ℕ}
use lib.Dec.{eqb}
use lib.ListN.{get_or}
use borrow.Author.Tests.{eqb-false}
use Rattle.numbers.specs.Tables.{start, command, answer, decision, results}
use Rattle.tape_read.specs.Entries.{Entry, entry}
use Rattle.rulebook.proofs.Made.{start_of, select, with_list, with_number, read_one}

-- entries that differ in a byte
pub differ : (i : ℕ) (e f : Entry) → eqb (get_or e.payload i 0) (get_or f.payload i 0) ≡ false → e ≡ f → ⊥
differ i e f h same = eqb-false (get_or e.payload i 0) (get_or f.payload i 0) h (ap (λ (x : Entry). get_or x.payload i 0) same)

-- ---- the answers

abbrev pub five : ℕ → List ℕ
five b = 0 ∷ 0 ∷ 0 ∷ 0 ∷ b ∷ []

-- SELECT: 84 and A5, each as it stands
abbrev pub chosen : ℕ → List ℕ → List ℕ → List ℕ
chosen size name inner = 0x6F ∷ size ∷ (name ++ (inner ++ (0x90 ∷ 0x00 ∷ [])))

-- 84 with an AID that ends with a byte, and A5 with a 9F38 that asks for some bytes of the unpredictable number
abbrev pub name_ending : ℕ → List ℕ
name_ending last = 0x84 ∷ 0x05 ∷ 0xA0 ∷ 0 ∷ 0 ∷ 0 ∷ last ∷ []

abbrev pub list_asking : ℕ → List ℕ
list_asking size = 0xA5 ∷ 0x06 ∷ 0x9F ∷ 0x38 ∷ 0x03 ∷ 0x9F ∷ 0x37 ∷ size ∷ []

-- GPO: the AIP, and the one record that the AFL names
abbrev pub offering : List ℕ → ℕ → List ℕ
offering profile number =
    0x77 ∷ 0x0A ∷ 0x82 ∷ 0x02 ∷ (profile ++ (0x94 ∷ 0x04 ∷ 0x08 ∷ number ∷ number ∷ 0x00 ∷ 0x90 ∷ 0x00 ∷ []))

abbrev pub profile : List ℕ
profile = 0x10 ∷ 0x00 ∷ []

-- GENERATE AC: 9F27, and the three others as they stand
abbrev pub giving : ℕ → ℕ → List ℕ → List ℕ
giving size cid others = 0x77 ∷ size ∷ 0x9F ∷ 0x27 ∷ 0x01 ∷ cid ∷ (others ++ (0x90 ∷ 0x00 ∷ []))

abbrev pub counter : List ℕ
counter = 0x9F ∷ 0x36 ∷ 0x02 ∷ 0x00 ∷ 0x01 ∷ []

abbrev pub cryptogram : List ℕ
cryptogram = 0x9F ∷ 0x26 ∷ 0x08 ∷ 1 ∷ 2 ∷ 3 ∷ 4 ∷ 5 ∷ 6 ∷ 7 ∷ 8 ∷ []

abbrev pub issuer : List ℕ
issuer = 0x9F ∷ 0x10 ∷ 0x01 ∷ 0xAA ∷ []

-- ---- the sessions

-- up to the answer to SELECT, to GPO, to READ RECORD
abbrev pub begins : List Entry
begins = entry start (start_of 2) ∷ entry command select ∷ []

abbrev pub chose : List Entry
chose = begins ++ (entry answer with_list ∷ entry command with_number ∷ [])

abbrev pub reads : List Entry
reads = chose ++ (entry answer (offering profile 1) ∷ entry command read_one ∷ [])

-- the results of cardholder verification: one rule
abbrev pub verified : Entry
verified = entry results (1 ∷ [])

-- the TVR by its second and third byte
abbrev pub tvr : ℕ → ℕ → List ℕ
tvr second third = 0x80 ∷ second ∷ third ∷ 0 ∷ 0 ∷ []

abbrev pub decides : ℕ → ℕ → List ℕ → ℕ → Entry
decides outcome reason tvr' tsi = entry decision (outcome ∷ reason ∷ (tvr' ++ (tsi ∷ 0 ∷ [])))

-- an answer without bytes ends it: reason 1
abbrev pub ending : List ℕ → ℕ → List Entry
ending tvr' tsi = entry answer [] ∷ decides 3 1 tvr' tsi ∷ []
