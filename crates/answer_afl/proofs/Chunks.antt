-- The entries of an AFL as its chunks of four bytes give them. Assumes nothing.
use mathlib.Core.Path.{◌≡◌, refl, ap, ◌∙◌}
use mathlib.Core.Bool.{Bool, true, false, ◌&&◌}
use mathlib.Core.List.{List, [], ◌∷◌, ◌++◌, map}
use Prim.Native.Nat.{ℕ, ◌+◌}
use native.Mathlib.Omega.{arith}
use lib.ListN.{length}
use Rattle.std.specs.List.{list_all}
use Rattle.std.specs.Slice.Iter.{chunks_exact_rest, chunks_exact_size, chunks_exact_steps}
use Rattle.std.specs.Iterator.{AlwaysYields}
use Rattle.std.proofs.lemmas.Iterator.{YieldsList}
use Rattle.slices.specs.Choice.{pick}
use Rattle.slices.specs.Tests.{every}
use Rattle.answer_afl.specs.Entries.{Entry, first_entry, entries, entry_right, records, records_of, record_count}
use Rattle.answer_afl.proofs.Counting.{entries_end}

pub entries_front : (x r : List ℕ) → length x ≡ 4 → entries (x ++ r) ≡ first_entry x ∷ entries r
unfolding entries first_entry
entries_front [] r e = absurd (omega arith)
entries_front (a ∷ []) r e = absurd (omega arith)
entries_front (a ∷ b ∷ []) r e = absurd (omega arith)
entries_front (a ∷ b ∷ c ∷ []) r e = absurd (omega arith)
entries_front (a ∷ b ∷ c ∷ d ∷ []) r e = refl
entries_front (a ∷ b ∷ c ∷ d ∷ x ∷ y) r e = absurd (omega arith)

pub count_front : (x r : List ℕ) → length x ≡ 4 → record_count (x ++ r) ≡ records (first_entry x) + record_count r
unfolding record_count records_of
count_front x r e = ap records_of (entries_front x r e)

gives : (es : List Entry) (s : _) → chunks_exact_size {T = ℕ} s ≡ 4 → entries (chunks_exact_rest s) ≡ es
    → AlwaysYields (chunks_exact_steps {A = ℕ}) (λ x. first_entry x.now) s es
gives [] s n e = λ x j p.
    let front = entries_front x.now (chunks_exact_rest j) (p.1.1 ∙ n) in
    let all = ap entries p.1.0 in
    cc
gives (y ∷ es) s n e = (
  λ j p.
      let none' = entries_end (chunks_exact_rest s) (omega arith) in
      cc,
  λ x j p.
      let front = entries_front x.now (chunks_exact_rest j) (p.1.1 ∙ n) in
      let all = ap entries p.1.0 in
      (cc, gives es j (p.0 ∙ n) cc),
)

pub chunks_give : (v : List ℕ) (s : _) → chunks_exact_size {T = ℕ} s ≡ 4 → chunks_exact_rest s ≡ v
    → YieldsList (chunks_exact_steps {A = ℕ}) (λ x. first_entry x.now) s (entries v)
chunks_give v s n e = record { runs = gives (entries v) s n (ap entries e) }

pub every_all : (es : List Entry) → every (map entry_right es) ≡ list_all entry_right es
unfolding every pick
every_all [] = refl
every_all (e ∷ es) = one (entry_right e) ∙ ap (λ (t : Bool). entry_right e && t) (every_all es)
  where
    one : (t : Bool) → pick t (every (map entry_right es)) false ≡ (t && every (map entry_right es))
    one true = refl
    one false = refl
