-- Of a readable tape the list is its blocks, all of them and in order: a block that passes where its number and session number are due is
-- good, and says just these.
-- Assumes nothing.
use mathlib.Core.Path.{◌≡◌, sym, ap, ap₂, ◌∙◌}
use mathlib.Core.Bool.{true}
use mathlib.Core.List.{List, [], ◌∷◌}
use Prim.Native.Nat.{ℕ, ◌+◌, ◌^◌, ◌/◌, ◌%◌, ◌≤◌, ◌<◌}
use native.Mathlib.Decide.{dec_lt, dec_le, ℕ_discrete}
use native.Mathlib.Omega.{arith}
use lib.ListN.{length, take, drop, length-drop}
use borrow.Author.Tests.{eqb-true, not-false}
use Rattle.slices.proofs.Choice.{pick_yes}
use Rattle.tape_read.specs.Entries.{Entry, block_size, tape_most, all_storable}
use Rattle.tape_read.specs.Blocks.{number_in, session_in, kind_in, payload_in, number_bad, session_bad, code_of, entry_in}
use Rattle.tape_read.specs.Tapes.{entries, blocks_of, read_from, session_of, read_tape, written}
use Rattle.tape_read.proofs.Codes.{Good, code_good}
use Rattle.tape_read.proofs.Steps.{read_end, blocks_end, blocks_more, tape_long, tape_ragged, tape_blocks}
use Rattle.tape_read.proofs.Roundtrip.{written_reads}
use Rattle.tape_read.proofs.OneReading.{apart, First, first}
use Rattle.recover.specs.Salvage.{salvage, standing, good_of, salvaged}
use Rattle.recover.proofs.Own.{passes_good}
use Rattle.recover_laws.specs.Damage.{listed}

-- what a block says that passes where these numbers are due
module _ (n s : ℕ) (b : List ℕ) (good : code_of n s b ≡ 0) where
  passed : Good n s b
  passed = code_good n s b good

  number_due : number_in b ≡ n
  unfolding number_bad
  number_due = eqb-true _ _ (not-false _ passed.number)

  session_due_lem : session_in b ≡ s
  unfolding session_bad
  session_due_lem = eqb-true _ _ (not-false _ passed.session)

  standing_due : standing n b ≡ salvage n n s (kind_in b) (payload_in b)
  standing_due = ap₂ (λ (number session : ℕ). salvage n number session (kind_in b) (payload_in b)) number_due session_due_lem

-- bytes that read as no entries have no whole block
none_listed : (n s : ℕ) (t : List ℕ) → read_from n s t ≡ entries [] → length t < block_size
none_listed n s t r = go (dec_lt (length t) block_size)
  where
    go : Dec (length t < block_size) → length t < block_size
    go (yes short) = short
    go (no long) =
        let some = (first n s t [] (omega (arith, long)) r).split in
        let z : ◌≡◌ {A = ℕ} 0 1 = cc in
        absurd (omega arith)

-- bytes that read as one entry and more have a whole block, and it passes
some_listed : (n s : ℕ) (t : List ℕ) (e : Entry) (es : List Entry) → read_from n s t ≡ entries (e ∷ es)
    → (block_size ≤ length t) × First n s t (e ∷ es)
some_listed n s t e es r = go (dec_lt (length t) block_size)
  where
    go : Dec (length t < block_size) → (block_size ≤ length t) × First n s t (e ∷ es)
    go (yes short) =
        let nothing : entries [] ≡ entries (e ∷ es) = sym (read_end n s t short) ∙ r in
        let z : ◌≡◌ {A = ℕ} 0 1 = cc in
        absurd (omega arith)
    go (no long) = let more : block_size ≤ length t = omega (arith, long) in (more, first n s t (e ∷ es) more r)

-- bytes that read as entries, the first with the number n
pub read_listed : (n s : ℕ) (es : List Entry) (t : List ℕ) → read_from n s t ≡ entries es → good_of n (blocks_of t) ≡ listed n s es
unfolding good_of listed entry_in
read_listed n s [] t r = ap (good_of n) (blocks_end t (none_listed n s t r))
read_listed n s (e ∷ es) t r =
    let some = some_listed n s t e es r in
    let f = some.1 in
    let b = take block_size t in
    let split = f.split in
    let same : entry_in b ≡ e = cc in
    let others : f.others ≡ es = cc in
    ap (good_of n) (blocks_more t some.0)
    ∙ (pick_yes _ _ _ (passes_good b n s f.good)
    ∙ ap₂ ◌∷◌
    (standing_due n s b f.good ∙ ap (λ (x : Entry). salvage n n s x.kind x.payload) same)
    (read_listed (n + 1) s es (drop block_size t) (f.reads ∙ ap entries others)))

-- as many whole blocks as entries
pub read_count : (n s : ℕ) (es : List Entry) (t : List ℕ) → read_from n s t ≡ entries es → length t / block_size ≡ length es
read_count n s [] t r = omega (arith, none_listed n s t r)
read_count n s (e ∷ es) t r =
    let some = some_listed n s t e es r in
    let f = some.1 in
    let split = f.split in
    let others : f.others ≡ es = cc in
    omega (arith, length-drop block_size t, read_count (n + 1) s es (drop block_size t) (f.reads ∙ ap entries others))

-- ---- a whole tape

-- a tape that reads as entries is in whole blocks, not too many, and each of them passes in its turn
pub record Readable (t : List ℕ) (es : List Entry) : Type 0 where
  pub fits : length t ≤ tape_most
  pub whole : length t % block_size ≡ 0
  pub reads : read_from 0 (session_of t) t ≡ entries es

pub is_readable : (t : List ℕ) (es : List Entry) → read_tape t ≡ entries es → Readable t es
is_readable t es r = size (dec_le (length t) tape_most)
  where
    even : length t ≤ tape_most → Dec (length t % block_size ≡ 0) → Readable t es
    even fits (yes whole) = record { fits = fits; whole = whole; reads = sym (tape_blocks t fits whole) ∙ r }
    even fits (no odd) = absurd (apart (read_tape t) es _ _ r (tape_ragged t fits odd))

    size : Dec (length t ≤ tape_most) → Readable t es
    size (yes fits) = even fits (ℕ_discrete (length t % block_size) 0)
    size (no long) = absurd (apart (read_tape t) es _ _ r (tape_long t (omega (arith, long))))

pub readable_listed : (t : List ℕ) (es : List Entry) → read_tape t ≡ entries es → salvaged t ≡ listed 0 (session_of t) es
unfolding salvaged
readable_listed t es r = read_listed 0 (session_of t) es t (is_readable t es r).reads

-- and of entries that were written one after the other, also of more than a tape holds
pub written_listed : (s : ℕ) (es : List Entry) → all_storable es ≡ true → length es ≤ 2 ^ 32 → s < 2 ^ 32
    → salvaged (written 0 s es) ≡ listed 0 s es
unfolding salvaged
written_listed s es h most known = read_listed 0 s es (written 0 s es) (written_reads 0 s es h (omega arith) known)
