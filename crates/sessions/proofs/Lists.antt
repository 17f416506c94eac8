-- Lists of entries taken apart: equal lists have equal parts, and a list is empty or has a last entry.
-- Assumes nothing.
use mathlib.Core.Path.{◌≡◌, refl, ap}
use mathlib.Core.List.{List, [], ◌∷◌, ◌++◌}
use Prim.Native.Nat.{ℕ}
use native.Mathlib.Omega.{arith}
use Rattle.tape_read.specs.Entries.{Entry}

-- the parts of two lists that are equal
pub head_same : (e f : Entry) (es fs : List Entry) → e ∷ es ≡ f ∷ fs → e ≡ f
head_same e f es fs h = cc

pub tail_same : (e f : Entry) (es fs : List Entry) → e ∷ es ≡ f ∷ fs → es ≡ fs
tail_same e f es fs h = cc

-- two lists with one entry after each
pub snoc_same : {A : Type 0} (a b : List A) (x y : A) → a ++ (x ∷ []) ≡ b ++ (y ∷ []) → (a ≡ b) × (x ≡ y)
snoc_same [] [] x y h = (refl, cc)
snoc_same {A} [] (c ∷ b) x y h = too_short b h
  where
    too_short : (l : List A) → x ∷ [] ≡ c ∷ (l ++ (y ∷ [])) → ([] ≡ c ∷ b) × (x ≡ y)
    too_short [] e = absurd (let z : ◌≡◌ {A = ℕ} 0 1 = cc in omega arith)
    too_short (d ∷ l) e = absurd (let z : ◌≡◌ {A = ℕ} 0 1 = cc in omega arith)
snoc_same {A} (c ∷ a) [] x y h = too_long a h
  where
    too_long : (l : List A) → c ∷ (l ++ (x ∷ [])) ≡ y ∷ [] → (c ∷ a ≡ []) × (x ≡ y)
    too_long [] e = absurd (let z : ◌≡◌ {A = ℕ} 0 1 = cc in omega arith)
    too_long (d ∷ l) e = absurd (let z : ◌≡◌ {A = ℕ} 0 1 = cc in omega arith)
snoc_same (c ∷ a) (d ∷ b) x y h =
    let rest = snoc_same a b x y (cc) in
    let first : c ≡ d = cc in
    (cc rest.0, rest.1)

-- the entry that a list ends with
pub data Last (es : List Entry) : Type 0 where
  no_entry : es ≡ [] → Last es
  last : (before : List Entry) (e : Entry) → es ≡ before ++ (e ∷ []) → Last es

one_more_lem : (x : Entry) (es : List Entry) → Last es → Last (x ∷ es)
one_more_lem x es (no_entry e) = last [] x (ap (λ (l : List Entry). x ∷ l) e)
one_more_lem x es (last before y e) = last (x ∷ before) y (ap (λ (l : List Entry). x ∷ l) e)

pub last_of : (es : List Entry) → Last es
last_of [] = no_entry refl
last_of (x ∷ es) = one_more_lem x es (last_of es)
