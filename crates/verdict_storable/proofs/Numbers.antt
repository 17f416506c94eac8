-- The records to be read have numbers that are bytes: each lies between the first and the last one of an AFL entry, or is the first.
-- Assumes nothing.
use mathlib.Core.Path.{◌≡◌, refl, ap, ◌∙◌}
use mathlib.Core.Bool.{true}
use mathlib.Core.List.{List, [], ◌∷◌, map, map-append}
use Prim.Native.Nat.{ℕ, zero, suc, ◌+◌, ◌≤◌, ◌<◌}
use native.Mathlib.Omega.{arith}
use lib.Pow.{are_bytes}
use Rattle.tape_crc.proofs.Bytes.{bytes_head, bytes_rest, bytes_cons, bytes_append}
use Rattle.answer_afl.specs.Entries.{Entry, first_entry, entries, sfi, records, run, read_entry, read_all, to_read}

-- the numbers of some records
abbrev pub numbers_of : List (ℕ × ℕ) → List ℕ
numbers_of rs = map (λ r. r.0) rs

run_bytes : (file n k : ℕ) → n + k ≤ 256 → are_bytes (numbers_of (run file n k)) ≡ true
unfolding run
run_bytes file n zero h = refl
run_bytes file n (suc k) h = bytes_cons n (numbers_of (run file (suc n) k)) (omega arith) (run_bytes file (suc n) k (omega arith))

entry_numbers : (e : Entry) → e.first < 256 → e.last < 256 → are_bytes (numbers_of (read_entry e)) ≡ true
unfolding read_entry records
entry_numbers e f l = run_bytes (sfi e) e.first (records e) (omega arith)

all_numbers : (v : List ℕ) → are_bytes v ≡ true → are_bytes (numbers_of (read_all (entries v))) ≡ true
unfolding read_all entries first_entry
all_numbers [] h = refl
all_numbers (a ∷ []) h = refl
all_numbers (a ∷ b ∷ []) h = refl
all_numbers (a ∷ b ∷ c ∷ []) h = refl
all_numbers (a ∷ b ∷ c ∷ d ∷ rest) h =
    let e = first_entry (a ∷ b ∷ c ∷ d ∷ []) in
    let h₁ = bytes_rest a (b ∷ c ∷ d ∷ rest) h in
    let h₂ = bytes_rest b (c ∷ d ∷ rest) h₁ in
    let h₃ = bytes_rest c (d ∷ rest) h₂ in
    ap are_bytes (map-append (λ (r : ℕ × ℕ). r.0) (read_entry e) (read_all (entries rest)))
    ∙ bytes_append (numbers_of (read_entry e)) (numbers_of (read_all (entries rest)))
    (entry_numbers e (bytes_head b (c ∷ d ∷ rest) h₁) (bytes_head c (d ∷ rest) h₂))
    (all_numbers rest (bytes_rest d rest h₃))

pub read_numbers : (v : List ℕ) → are_bytes v ≡ true → are_bytes (numbers_of (to_read v)) ≡ true
unfolding to_read
read_numbers v h = all_numbers v h
