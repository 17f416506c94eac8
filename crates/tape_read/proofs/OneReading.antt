-- No tape has two readings, and no reading two tapes: reading is a function of the bytes, and bytes that read as entries are
-- those entries written with the tape's session number. Assumes nothing.
use mathlib.Core.Path.{◌≡◌, refl, sym, ap, ap₂, ◌∙◌}
use mathlib.Core.Bool.{true}
use mathlib.Core.List.{List, [], ◌∷◌, ◌++◌}
use Prim.Native.Nat.{ℕ, ◌+◌, ◌%◌, ◌≤◌, ◌<◌}
use native.Mathlib.Decide.{dec_lt, dec_le, ℕ_discrete}
use native.Mathlib.Omega.{arith}
use lib.ListN.{length, take, drop, length-drop, take-append-drop}
use lib.Pow.{are_bytes}
use lib.Seq.{length-take-le}
use Rattle.slices.proofs.Cutting.{none_left}
use Rattle.tape_crc.proofs.Bytes.{bytes_take, bytes_drop}
use Rattle.tape_read.specs.Entries.{Entry, block_size, tape_most}
use Rattle.tape_read.specs.Blocks.{block, code_of, entry_in}
use Rattle.tape_read.specs.Tapes.{Reading, entries, unreadable, preceded, read_from, session_of, read_tape, written}
use Rattle.tape_read.proofs.Codes.{code_good}
use Rattle.tape_read.proofs.Steps.{read_end, read_bad, read_good, tape_long, tape_ragged, tape_blocks}
use Rattle.tape_read.proofs.Unique.{block_is}

-- a reading cannot be entries and unreadable
pub apart : (r : Reading) (es : List Entry) (place code : ℕ) → r ≡ entries es → r ≡ unreadable place code → ⊥
apart r es place code p q =
    let z : ◌≡◌ {A = ℕ} 0 1 = cc in
    omega arith

-- entries with one in front
unpreceded : (e : Entry) (r : Reading) (es : List Entry) → preceded e r ≡ entries es → (fs : List Entry) × (r ≡ entries fs) × (es ≡ e ∷ fs)
unfolding preceded
unpreceded e (entries fs) es p = (fs, refl, cc)
unpreceded e (unreadable place code) es p = absurd (apart (unreadable place code) es place code p refl)

-- the first block of bytes that read as entries, and what comes after it
pub record First (n s : ℕ) (t : List ℕ) (es : List Entry) : Type 0 where
  pub others : List Entry
  pub good : code_of n s (take block_size t) ≡ 0
  pub reads : read_from (n + 1) s (drop block_size t) ≡ entries others
  pub split : es ≡ entry_in (take block_size t) ∷ others

pub first : (n s : ℕ) (t : List ℕ) (es : List Entry) → block_size ≤ length t → read_from n s t ≡ entries es → First n s t es
first n s t es more r = go (ℕ_discrete (code_of n s (take block_size t)) 0)
  where
    go : Dec (code_of n s (take block_size t) ≡ 0) → First n s t es
    go (yes good) =
        let un = unpreceded _ _ es (sym (read_good n s t more good) ∙ r) in
        record { others = un.0; good = good; reads = un.1; split = un.2 }
    go (no bad) = absurd (apart _ es _ _ r (read_bad n s t more bad))

nil_cons : (e : Entry) (es : List Entry) → [] ≡ e ∷ es → ⊥
nil_cons e es p =
    let z : ◌≡◌ {A = ℕ} 0 1 = cc in
    omega arith

-- a tape that reads as no entries
none_is : (n s : ℕ) (t : List ℕ) → length t % block_size ≡ 0 → read_from n s t ≡ entries [] → t ≡ []
none_is n s t whole r = go (dec_lt (length t) block_size)
  where
    go : Dec (length t < block_size) → t ≡ []
    go (yes short) = none_left t (omega arith)
    go (no long) = absurd (nil_cons _ _ (first n s t [] (omega (arith, long)) r).split)

-- a tape that reads as one entry and more, where the rest of it is known to be what it reads as
some_is : (n s : ℕ) (t : List ℕ) (e : Entry) (es : List Entry) → are_bytes t ≡ true → read_from n s t ≡ entries (e ∷ es)
    → (read_from (n + 1) s (drop block_size t) ≡ entries es → block_size ≤ length t → drop block_size t ≡ written (n + 1) s es)
    → t ≡ block n s e ++ written (n + 1) s es
some_is n s t e es bytes r rest = go (dec_lt (length t) block_size)
  where
    go : Dec (length t < block_size) → t ≡ block n s e ++ written (n + 1) s es
    go (yes short) =
        let nothing : entries [] ≡ entries (e ∷ es) = sym (read_end n s t short) ∙ r in
        absurd (nil_cons e es (cc))
    go (no long) =
        let more : block_size ≤ length t = omega (arith, long) in
        let f = first n s t (e ∷ es) more r in
        let b = take block_size t in
        let split = f.split in
        let same : entry_in b ≡ e = cc in
        let others : f.others ≡ es = cc in
        sym (take-append-drop block_size t)
        ∙ ap₂ ◌++◌
        (block_is n s b (bytes_take block_size t bytes) (length-take-le block_size t more) (code_good n s b f.good) ∙ ap (block n s) same)
        (rest (f.reads ∙ ap entries others) more)

-- bytes in whole blocks that read as entries are those entries written
pub read_is : (n s : ℕ) (es : List Entry) (t : List ℕ) → are_bytes t ≡ true → length t % block_size ≡ 0 → read_from n s t ≡ entries es
    → t ≡ written n s es
unfolding written
read_is n s [] t bytes whole r = none_is n s t whole r
read_is n s (e ∷ es) t bytes whole r =
    some_is n s t e es bytes r
    (λ later more. read_is (n + 1) s es (drop block_size t) (bytes_drop block_size t bytes) (omega (arith, length-drop block_size t)) later)

-- a tape of bytes that reads as entries is those entries written with its session number
pub tape_is : (t : List ℕ) (es : List Entry) → are_bytes t ≡ true → read_tape t ≡ entries es → t ≡ written 0 (session_of t) es
tape_is t es bytes r = size (dec_le (length t) tape_most)
  where
    whole : (length t ≤ tape_most) → Dec (length t % block_size ≡ 0) → t ≡ written 0 (session_of t) es
    whole fits (yes even) = read_is 0 (session_of t) es t bytes even (sym (tape_blocks t fits even) ∙ r)
    whole fits (no odd) = absurd (apart (read_tape t) es _ _ r (tape_ragged t fits odd))

    size : Dec (length t ≤ tape_most) → t ≡ written 0 (session_of t) es
    size (yes fits) = whole fits (ℕ_discrete (length t % block_size) 0)
    size (no long) = absurd (apart (read_tape t) es _ _ r (tape_long t (omega (arith, long))))

-- two tapes of bytes that read as the same entries with the same session number are the same bytes
pub tape_same : (t u : List ℕ) (es : List Entry) → are_bytes t ≡ true → are_bytes u ≡ true → read_tape t ≡ entries es → read_tape u
    ≡ entries es
    → session_of t ≡ session_of u → t ≡ u
tape_same t u es bt bu rt ru session =
    tape_is t es bt rt ∙ (ap (λ (s : ℕ). written 0 s es) session ∙ sym (tape_is u es bu ru))
