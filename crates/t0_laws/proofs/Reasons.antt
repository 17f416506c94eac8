-- What a session is handed of an answer is judged as the answer itself by size and status: the whole of it, or, of one that is too
-- long to be taken, as many bytes as are still too many. Assumes nothing.
use mathlib.Core.Path.{◌≡◌, refl, sym, ap, ◌∙◌}
use mathlib.Core.Bool.{true, false, false≢true}
use mathlib.Core.List.{List, [], ◌∷◌}
use Prim.Native.Nat.{ℕ, ◌≤◌, ◌<◌}
use native.Mathlib.Omega.{arith}
use lib.Dec.{leb}
use lib.ListN.{length, take}
use lib.Seq.{length-take-le}
use borrow.Author.Tests.{lt-ltb, le-ltb, leb-true, leb-false}
use Rattle.slices.specs.Choice.{first_of}
use Rattle.slices.proofs.Choice.{pick_yes, picked, either}
use Rattle.apdu.specs.Answers.{handed_most, handed_of_longer, handed}
use Rattle.answer_common.specs.Answer.{fewest, most, size_bad, status_bad}

-- all of it, or it is too long and so is what is handed on
handed_cases : (P : List ℕ → Type 0) (a : List ℕ) → (length a ≤ handed_most → P a) → (handed_most < length a → P (take handed_of_longer a))
    → P (handed a)
unfolding handed
handed_cases P a whole' long = picked P (leb (length a) handed_most) _ _ (λ e. whole' (leb-true _ _ e)) (λ e. long (leb-false _ _ e))

-- the session takes it (01, refusal 5)
pub handed_taken : (a : List ℕ) → length (handed a) ≤ handed_most
handed_taken a = handed_cases (λ (x : List ℕ). length x ≤ handed_most) a (λ h. h)
    (λ h. omega (arith, length-take-le handed_of_longer a (omega arith)))

too_long : (a : List ℕ) → most < length a → size_bad a ≡ true
unfolding size_bad
too_long a h = rw (le-ltb (length a) fewest (omega arith), lt-ltb most (length a) h)

-- reason 1
pub handed_size : (a : List ℕ) → size_bad (handed a) ≡ size_bad a
handed_size a =
    handed_cases (λ (x : List ℕ). size_bad x ≡ size_bad a) a (λ h. refl)
    (λ h. too_long (take handed_of_longer a) (omega (arith, length-take-le handed_of_longer a (omega arith)))
    ∙ sym (too_long a (omega arith)))

-- an answer of a good size is handed on as it is
pub handed_whole : (a : List ℕ) → size_bad a ≡ false → handed a ≡ a
handed_whole a good = handed_cases (λ (x : List ℕ). x ≡ a) a (λ h. refl) (λ h. absurd (false≢true (sym good ∙ too_long a (omega arith))))

-- reasons 1 and 2 say of what is handed on what they say of the answer
pub handed_reason : (a : List ℕ)
    → first_of ((size_bad (handed a), 1) ∷ (status_bad (handed a), 2) ∷ []) ≡ first_of ((size_bad a, 1) ∷ (status_bad a, 2) ∷ [])
unfolding first_of
handed_reason a =
    either (size_bad a)
    (λ bad. pick_yes _ _ _ (handed_size a ∙ bad) ∙ sym (pick_yes _ _ _ bad))
    (λ good. ap (λ (x : List ℕ). first_of ((size_bad x, 1) ∷ (status_bad x, 2) ∷ [])) (handed_whole a good))
