-- Every case of the small tables: P1, the cryptogram that a byte gives, the answers that a request allows. Everything here is
-- computed. Assumes nothing.
use mathlib.Core.Path.{◌≡◌, refl}
use mathlib.Core.Bool.{Bool, true, false}
use mathlib.Core.List.{List, [], ◌∷◌, map}
use Rattle.slices.specs.Choice.{pick}
use Rattle.decide_cryptogram.specs.declared.Cryptogram.TheVariants.{Aac, Tc, Arqc}
use Rattle.std.specs.Prelude.{Some, None}
use Rattle.decide_cryptogram.specs.declared.Request.{Request}
use Rattle.decide_cryptogram.specs.declared.Request.TheVariants.{First, Second}
use Rattle.decide_cryptogram.specs.Cryptograms.{p1_of, given_by, allowed_by}

p1s : map p1_of (Aac ∷ Tc ∷ Arqc ∷ []) ≡ 0x00 ∷ 0x40 ∷ 0x80 ∷ []
p1s = refl

-- the top two bits count, and the other six are free
givens : map given_by (0x00 ∷ 0x3F ∷ 0x40 ∷ 0x7F ∷ 0x80 ∷ 0xBF ∷ 0xC0 ∷ 0xFF ∷ [])
    ≡ Some Aac ∷ Some Aac ∷ Some Tc ∷ Some Tc ∷ Some Arqc ∷ Some Arqc ∷ None ∷ None ∷ []
unfolding given_by pick
givens = refl

-- what each of TC, ARQC, AAC and the reserved type is as an answer
abbrev answers : Request → List Bool
answers request = map (allowed_by request) (Some Tc ∷ Some Arqc ∷ Some Aac ∷ None ∷ [])

first_answers : map (λ asked. answers (First asked)) (Tc ∷ Arqc ∷ Aac ∷ [])
    ≡ (true ∷ true ∷ true ∷ false ∷ [])
    ∷ (false ∷ true ∷ true ∷ false ∷ [])
    ∷ (false ∷ false ∷ true ∷ false ∷ [])
    ∷ []
unfolding allowed_by
first_answers = refl

second_answers : map (λ asked. answers (Second asked)) (Tc ∷ Aac ∷ [])
    ≡ (true ∷ false ∷ true ∷ false ∷ []) ∷ (false ∷ false ∷ true ∷ false ∷ []) ∷ []
unfolding allowed_by
second_answers = refl
