-- The entries of an AFL from the front on: the first four bytes are one, the others follow; fewer than four are none. Whole
-- entries are 4n bytes, n from 1.
-- Assumes nothing.
use mathlib.Core.Path.{◌≡◌, refl, ap, ◌∙◌}
use mathlib.Core.Bool.{true}
use mathlib.Core.List.{List, [], ◌∷◌, ◌++◌}
use mathlib.Core.Logic.{◌↔◌}
use Prim.Native.Nat.{ℕ, zero, suc, ◌+◌, ◌/◌, ◌%◌, ◌≤◌, ◌<◌}
use native.Mathlib.Omega.{arith}
use lib.ListN.{length, drop, length-append}
use borrow.Author.Tests.{leb-true, le-leb, eqb-true, eq-eqb}
use Rattle.slices.proofs.Tests.{held, last, first_held}
use Rattle.answer_afl.specs.Entries.{Entry, first_entry, entries, whole_entries, sfi, records, records_of}
use Rattle.answer_afl.specs.Entries.{record_count, run, read_entry, read_all, to_read, AndEntries}

pub entries_more : (s : List ℕ) → 4 ≤ length s → entries s ≡ first_entry s ∷ entries (drop 4 s)
unfolding entries first_entry
entries_more [] h = absurd (omega arith)
entries_more (a ∷ []) h = absurd (omega arith)
entries_more (a ∷ b ∷ []) h = absurd (omega arith)
entries_more (a ∷ b ∷ c ∷ []) h = absurd (omega arith)
entries_more (a ∷ b ∷ c ∷ d ∷ s) h = refl

pub entries_end : (s : List ℕ) → length s < 4 → entries s ≡ []
unfolding entries
entries_end [] h = refl
entries_end (a ∷ []) h = refl
entries_end (a ∷ b ∷ []) h = refl
entries_end (a ∷ b ∷ c ∷ []) h = refl
entries_end (a ∷ b ∷ c ∷ d ∷ s) h = absurd (omega arith)

module _ (s : List ℕ) where
  pub count_more : 4 ≤ length s → record_count s ≡ records (first_entry s) + record_count (drop 4 s)
  unfolding record_count records_of
  count_more h = ap records_of (entries_more s h)

  pub count_end : length s < 4 → record_count s ≡ 0
  unfolding record_count records_of
  count_end h = ap records_of (entries_end s h)

  pub read_more : 4 ≤ length s → to_read s ≡ read_entry (first_entry s) ++ to_read (drop 4 s)
  unfolding to_read read_all
  read_more h = ap read_all (entries_more s h)

  pub read_end : length s < 4 → to_read s ≡ []
  unfolding to_read read_all
  read_end h = ap read_all (entries_end s h)

run_length : (f a n : ℕ) → length (run f a n) ≡ n
unfolding run
run_length f a zero = refl
run_length f a (suc n) = ap suc (run_length f (suc a) n)

all_length : (es : List Entry) → length (read_all es) ≡ records_of es
unfolding read_all records_of read_entry
all_length [] = refl
all_length (e ∷ es) =
    let first = run_length (sfi e) e.first (records e) in
    let others = all_length es in
    length-append (read_entry e) (read_all es) ∙ omega arith

-- as many are read as are counted
pub read_length : (s : List ℕ) → length (to_read s) ≡ record_count s
unfolding to_read record_count
read_length s = all_length (entries s)

pub whole_exactly : (v : List ℕ) → (whole_entries v ≡ true) ↔ AndEntries 0 v
unfolding whole_entries
whole_exactly v = (
  λ e.
      let f = first_held _ _ e in
      let size = leb-true 4 (length v) f.0 in
      let rest = eqb-true (length v % 4) 0 (first_held _ _ f.1).0 in
      (length v / 4, omega arith, omega arith),
  λ h.
      let size : 4 ≤ length v = let k = h.1 in let e = h.2 in omega arith in
      let rest : length v % 4 ≡ 0 = let e = h.2 in omega arith in
      held refl _ (le-leb 4 (length v) size) ∙ (last refl ∙ eq-eqb (length v % 4) 0 rest),
)
