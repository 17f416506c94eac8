-- Worked answers to GENERATE AC that hold the definitions to document 01, each by computation.
-- Assumes nothing.
use mathlib.Core.Path.{◌≡◌, refl}
use mathlib.Core.List.{List, [], ◌∷◌, ◌++◌, map}
use Prim.Native.Nat.{ℕ}
use lib.ListN.{replicate}
use Rattle.slices.specs.Choice.{pick}
use Rattle.decide_cryptogram.specs.Cryptograms.{given_by, allowed_by}
use Rattle.decide_cryptogram.specs.declared.Cryptogram.TheVariants.{Aac, Tc, Arqc}
use Rattle.decide_cryptogram.specs.Cryptograms.{Given}
use Rattle.std.specs.Prelude.{Some, None}
use Rattle.decide_cryptogram.specs.declared.Request.{Request}
use Rattle.decide_cryptogram.specs.declared.Request.TheVariants.{First, Second}
use Rattle.answer_common.specs.Forms.{lacks}
use Rattle.answer_cryptogram.specs.Cryptogram.{information_of, cryptogram_of, cryptogram_wrong, cryptogram_lines, cryptogram_reason}
use Rattle.answer_common.proofs.Opened.{one, two, good, joined_all, opened}

judge : Request → List ℕ → ℕ
unfolding opened lacks pick given_by allowed_by information_of cryptogram_of cryptogram_wrong cryptogram_lines cryptogram_reason
judge request a = cryptogram_reason (allowed_by request) a

-- a request that allows all three types
abbrev all : Request
all = First Tc

abbrev information : ℕ → List ℕ
information b = two 0x9F 0x27 (b ∷ [])

abbrev counter : List ℕ
counter = two 0x9F 0x36 (0x00 ∷ 0x01 ∷ [])

abbrev cryptogram : List ℕ
cryptogram = two 0x9F 0x26 (replicate 8 0xC1)

abbrev issuer : ℕ → List ℕ
issuer n = two 0x9F 0x10 (replicate n 0xD1)

-- what stands in 77, and the reason
abbrev rows : List (List (List ℕ) × ℕ)
rows =
    (information 0x80 ∷ counter ∷ cryptogram ∷ [], 0)
    ∷ (cryptogram ∷ one 0x57 [] ∷ information 0x40 ∷ one 0x57 [] ∷ counter ∷ [], 0)
    -- issuer data
    ∷ (information 0 ∷ counter ∷ cryptogram ∷ issuer 0 ∷ [], 0)
    ∷ (information 0 ∷ counter ∷ cryptogram ∷ issuer 32 ∷ [], 0)
    ∷ (information 0 ∷ counter ∷ cryptogram ∷ issuer 33 ∷ [], 5)
    -- twice
    ∷ (information 0 ∷ information 0 ∷ counter ∷ cryptogram ∷ [], 4)
    ∷ (information 0 ∷ counter ∷ counter ∷ cryptogram ∷ [], 4)
    ∷ (information 0 ∷ counter ∷ cryptogram ∷ cryptogram ∷ [], 4)
    ∷ (information 0 ∷ counter ∷ cryptogram ∷ issuer 0 ∷ issuer 0 ∷ [], 4)
    -- lengths
    ∷ (two 0x9F 0x27 [] ∷ counter ∷ cryptogram ∷ [], 5)
    ∷ (two 0x9F 0x27 (0 ∷ 0 ∷ []) ∷ counter ∷ cryptogram ∷ [], 5)
    ∷ (information 0 ∷ two 0x9F 0x36 (0 ∷ []) ∷ cryptogram ∷ [], 5)
    ∷ (information 0 ∷ counter ∷ two 0x9F 0x26 (replicate 7 0) ∷ [], 5)
    -- mandatory
    ∷ (counter ∷ cryptogram ∷ [], 8)
    ∷ (information 0 ∷ cryptogram ∷ [], 8)
    ∷ (information 0 ∷ counter ∷ issuer 8 ∷ [], 8)
    ∷ ([], 8)
    -- the fourth type, whatever the other bits
    ∷ (information 0xC0 ∷ counter ∷ cryptogram ∷ [], 10)
    ∷ (information 0xBF ∷ counter ∷ cryptogram ∷ [], 0)
    ∷ (information 0xFF ∷ counter ∷ cryptogram ∷ [], 10)
    -- the lowest counts
    ∷ (information 0xC0 ∷ two 0x9F 0x36 [] ∷ [], 5)
    ∷ (information 0xC0 ∷ counter ∷ [], 8)
    ∷ (issuer 33 ∷ issuer 0 ∷ [], 4)
    ∷ []

judged : map (λ row. judge all (good (one 0x77 (joined_all row.0)))) rows ≡ map (λ row. row.1) rows
unfolding judge
judged = refl

-- joined values: their number, the first of them, and the reason
abbrev joined_rows : List (ℕ × ℕ × ℕ)
joined_rows =
    (9, 0x80, 5) ∷ (10, 0x80, 0) ∷ (10, 0x40, 0) ∷ (10, 0x00, 0) ∷ (10, 0xC0, 10) ∷ (42, 0x80, 0) ∷ (43, 0x80, 5) ∷ (9, 0xC0, 5) ∷ []

joined_judged : map (λ row. judge all (good (one 0x80 (row.1 ∷ replicate row.0 0)))) joined_rows ≡ map (λ row. row.2) joined_rows
unfolding judge
joined_judged = refl

none_joined : judge all (good (one 0x80 [])) ≡ 5
unfolding judge
none_joined = refl

-- AAC, TC, ARQC and the fourth type, as answers to each request
abbrev kinds : List ℕ
kinds = 0x00 ∷ 0x40 ∷ 0x80 ∷ 0xC0 ∷ []

abbrev asked : List Request
asked = First Tc ∷ First Arqc ∷ First Aac ∷ Second Tc ∷ Second Aac ∷ []

allowed : map (λ request. map (λ b. judge request (good (one 0x77 (information b ++ counter ++ cryptogram)))) kinds) asked
    ≡ (0 ∷ 0 ∷ 0 ∷ 10 ∷ [])
    ∷ (0 ∷ 10 ∷ 0 ∷ 10 ∷ [])
    ∷ (0 ∷ 10 ∷ 10 ∷ 10 ∷ [])
    ∷ (0 ∷ 0 ∷ 10 ∷ 10 ∷ [])
    ∷ (0 ∷ 10 ∷ 10 ∷ 10 ∷ [])
    ∷ []
unfolding judge
allowed = refl

read : List ℕ → Given
unfolding judge
read a = cryptogram_of a

types : map (λ b. read (good (one 0x77 (counter ++ information b ++ cryptogram)))) (0x3F ∷ 0x40 ∷ 0x8A ∷ 0xFF ∷ [])
    ≡ Some Aac ∷ Some Tc ∷ Some Arqc ∷ None ∷ []
unfolding read
types = refl
