-- The reading of START by the fields' names: each field is the run of bytes, or the byte, at its place in the layout.
-- Assumes nothing.
use mathlib.Core.Path.{◌≡◌, refl, sym, subst}
use mathlib.Core.Bool.{Bool, true, false, ◌||◌}
use mathlib.Core.List.{List, [], ◌∷◌, map}
use mathlib.Core.Logic.{◌⊎◌, inl, inr}
use mathlib.Core.Option.{none}
use Prim.Native.Nat.{ℕ, ◌+◌, ◌≤◌}
use native.Mathlib.Omega.{arith}
use lib.Dec.{eqb}
use lib.ListN.{length, length-take, length-drop}
use borrow.Author.Tests.{eqb-true}
use Rattle.slices.proofs.Choice.{there_or_empty, not_there}
use Rattle.start_fields.specs.declared.fields.Field.{Field}
use Rattle.start_fields.specs.declared.fields.Field.TheVariants.{Amount, OtherAmount, Country, Currency, Date}
use Rattle.start_fields.specs.declared.fields.Field.TheVariants.{TransactionType, Unpredictable, FloorLimit, Threshold}
use Rattle.start_fields.specs.declared.fields.Field.TheVariants.{Version, Denial, Online, Default, Capabilities}
use Rattle.start_fields.specs.declared.fields.Octet.{Octet}
use Rattle.start_fields.specs.declared.fields.Octet.TheVariants.{Kind, Random, Target, Maximum}
use Rattle.start_fields.specs.Layout.{begin_of, size_of, start_length, full_length, is_length}
use Rattle.start_fields.specs.Bare.{terminal_with}
use Rattle.start_fields.specs.Reading.{Terminal, reading_of, bytes_of, octet_of, run_in, octet_in}

pub bytes_read : (f : Field) (s : List ℕ) → bytes_of f (reading_of s) ≡ run_in f s
unfolding reading_of
bytes_read Amount s = refl
bytes_read OtherAmount s = refl
bytes_read Country s = refl
bytes_read Currency s = refl
bytes_read Date s = refl
bytes_read TransactionType s = refl
bytes_read Unpredictable s = refl
bytes_read FloorLimit s = refl
bytes_read Threshold s = refl
bytes_read Version s = refl
bytes_read Denial s = refl
bytes_read Online s = refl
bytes_read Default s = refl
bytes_read Capabilities s = there_or_empty (run_in Capabilities s)

pub octet_read : (o : Octet) (s : List ℕ) → octet_of o (reading_of s) ≡ octet_in o s
unfolding reading_of
octet_read Kind s = refl
octet_read Random s = refl
octet_read Target s = refl
octet_read Maximum s = refl

-- with another AID all other fields are what they were
pub other_aid_read : (aid : List ℕ) (t : Terminal) (f : Field) → bytes_of f (terminal_with aid t) ≡ bytes_of f t
unfolding terminal_with
other_aid_read aid t Amount = refl
other_aid_read aid t OtherAmount = refl
other_aid_read aid t Country = refl
other_aid_read aid t Currency = refl
other_aid_read aid t Date = refl
other_aid_read aid t TransactionType = refl
other_aid_read aid t Unpredictable = refl
other_aid_read aid t FloorLimit = refl
other_aid_read aid t Threshold = refl
other_aid_read aid t Version = refl
other_aid_read aid t Denial = refl
other_aid_read aid t Online = refl
other_aid_read aid t Default = refl
other_aid_read aid t Capabilities = refl

-- every run of bytes has at most six bytes
few : (f : Field) → size_of f ≤ 6
few Amount = omega arith
few OtherAmount = omega arith
few Country = omega arith
few Currency = omega arith
few Date = omega arith
few TransactionType = omega arith
few Unpredictable = omega arith
few FloorLimit = omega arith
few Threshold = omega arith
few Version = omega arith
few Denial = omega arith
few Online = omega arith
few Default = omega arith
few Capabilities = omega arith

pub short_read : (f : Field) (s : List ℕ) → length (bytes_of f (reading_of s)) ≤ 6
short_read f s = rw bytes_read (simp length-take (omega (arith, few f)))

-- a field that lies within START has all its bytes
pub all_read : (f : Field) (s : List ℕ) → begin_of f + size_of f ≤ length s → length (bytes_of f (reading_of s)) ≡ size_of f
all_read f s h = rw bytes_read (simp (length-take, length-drop) (omega arith))

-- ---- the lengths

-- 74 bytes and 77, and none beside them
lengths_worked : map is_length (0 ∷ 73 ∷ 74 ∷ 75 ∷ 76 ∷ 77 ∷ 78 ∷ []) ≡ false ∷ false ∷ true ∷ false ∷ false ∷ true ∷ false ∷ []
unfolding is_length
lengths_worked = refl

one_length : (P : ℕ → Type 0) → P start_length → P full_length → (n : ℕ) → is_length n ≡ true → P n
unfolding is_length
one_length P short full n valid = by (eqb n start_length) refl valid
  where
    by : (t : Bool) → eqb n start_length ≡ t → (t || eqb n full_length) ≡ true → P n
    by true e h = subst P (sym (eqb-true _ _ e)) short
    by false e h = subst P (sym (eqb-true _ _ h)) full

pub between_lengths : (n : ℕ) → is_length n ≡ true → (start_length ≤ n) × (n ≤ full_length)
between_lengths = one_length (λ n. (start_length ≤ n) × (n ≤ full_length)) (omega arith, omega arith) (omega arith, omega arith)

-- Terminal Capabilities are there where START goes on behind its 74 bytes
pub no_capabilities : (s : List ℕ) → length s ≤ begin_of Capabilities → (reading_of s).capabilities ≡ none
unfolding reading_of
no_capabilities s h = not_there (run_in Capabilities s) (simp (length-take, length-drop) (omega arith))

-- so they are there whole, or not at all
pub all_or_none : (s : List ℕ) → is_length (length s) ≡ true
    → ((reading_of s).capabilities ≡ none) ⊎ (length (bytes_of Capabilities (reading_of s)) ≡ size_of Capabilities)
all_or_none s valid =
    one_length
    (λ n. length s ≡ n → ((reading_of s).capabilities ≡ none) ⊎ (length (bytes_of Capabilities (reading_of s)) ≡ size_of Capabilities))
    (λ e. inl (no_capabilities s (omega arith))) (λ e. inr (all_read Capabilities s (omega arith))) (length s) valid refl
