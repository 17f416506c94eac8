-- Piece by piece a tape reads as it does whole. From any block on: blocks and tail are counted, the first bad block is kept, and before
-- one the entries are those of the rest of the tape.
-- Assumes nothing.
use mathlib.Core.Path.{◌≡◌, refl, sym, ap, ◌∙◌, subst}
use mathlib.Core.Bool.{true, false}
use mathlib.Core.List.{List, [], ◌∷◌}
use Prim.Native.Nat.{ℕ, zero, suc, ◌+◌, ◌/◌, ◌%◌, ◌≤◌, ◌<◌}
use native.Mathlib.Omega.{arith}
use lib.Dec.{eqb, ltb}
use lib.ListN.{length, take, drop, length-take, length-drop}
use borrow.Author.Tests.{lt-ltb, le-ltb, eq-eqb, ne_eqb, eqb-true, eqb-false, ltb-true, ltb-false}
use Rattle.slices.specs.Choice.{pick}
use Rattle.slices.proofs.Choice.{pick_yes, pick_no, either}
use Rattle.tape_read.specs.Entries.{Entry, block_size, blocks_most, tape_most}
use Rattle.tape_read.specs.Blocks.{code_of, entry_in}
use Rattle.tape_read.specs.Tapes.{entries, unreadable, preceded, block_at, cut, read_from, session_of, read_tape}
use Rattle.tape_read.proofs.Steps.{read_end, read_bad, read_good, tape_long, tape_ragged, tape_blocks}
use Rattle.tape_feed.specs.declared.Reader.{Reader}
use Rattle.tape_feed.specs.declared.Taken.{Taken}
use Rattle.tape_feed.specs.declared.Damage.{Damage}
use Rattle.tape_feed.specs.Feeding.{begun, session_due, looked, passed, ended, unread, read, next}
use Rattle.tape_feed.specs.Feeding.{damaged, damage_of, reader_after, entries_read, reading_of, pieces_of}
use Rattle.tape_feed.proofs.Turns.{next_full, next_ended, next_passed, next_looked, long_blocks}
use Rattle.tape_feed.proofs.Turns.{short_blocks, most_blocks, damage_long, damage_torn, damage_first}

-- ---- readings

reading_entries : (place code : ℕ) (es : List Entry) → code ≡ 0 → reading_of (damaged place code) es ≡ entries es
unfolding reading_of
reading_entries place code es h = pick_yes _ _ _ (eq-eqb code 0 h)

reading_damage : (place code : ℕ) (es : List Entry) → (code ≡ 0 → ⊥) → reading_of (damaged place code) es ≡ unreadable place code
unfolding reading_of
reading_damage place code es h = pick_no _ _ _ (ne_eqb code 0 h)

reading_more : (d : Damage) (e : Entry) (es : List Entry) → reading_of d (e ∷ es) ≡ preceded e (reading_of d es)
unfolding reading_of preceded
reading_more d e es =
    either (eqb d.code 0)
    (λ y. pick_yes _ _ _ y ∙ sym (ap (preceded e) (pick_yes _ _ _ y)))
    (λ n. pick_no _ _ _ n ∙ sym (ap (preceded e) (pick_no _ _ _ n)))

-- ---- a piece in front

module _ (r : Reader) (p : List ℕ) (ps : List (List ℕ)) (t : Taken) (e : next r p ≡ t) where
  after_one : reader_after r (p ∷ ps) ≡ reader_after t.reader ps
  unfolding reader_after
  after_one = ap (λ (x : Taken). reader_after x.reader ps) e

  read_one : t.good ≡ true → entries_read r (p ∷ ps) ≡ entry_in p ∷ entries_read t.reader ps
  unfolding entries_read
  read_one g =
      ap (λ (x : Taken). pick x.good (entry_in p ∷ entries_read x.reader ps) (entries_read x.reader ps)) e ∙ pick_yes _ _ _ g

  read_none : t.good ≡ false → entries_read r (p ∷ ps) ≡ entries_read t.reader ps
  unfolding entries_read
  read_none g =
      ap (λ (x : Taken). pick x.good (entry_in p ∷ entries_read x.reader ps) (entries_read x.reader ps)) e ∙ pick_no _ _ _ g

-- ---- blocks and tail

abbrev pieces : ℕ → List ℕ → List (List ℕ)
pieces m u = cut (suc m) u

-- so many blocks are left, n being read, and no more than the most in all: they are counted, and the tail is seen
pub record Counted (f : Reader) (n m : ℕ) (u : List ℕ) : Type 0 where
  pub blocks : f.blocks ≡ n + m
  pub torn : f.torn ≡ ltb 0 (length u % block_size)

pub record Kept (r f : Reader) : Type 0 where
  pub place : f.place ≡ r.place
  pub code : f.code ≡ r.code

module _ (u : List ℕ) where
  -- the last piece is what is left
  module _ (none : length u / block_size ≡ 0) where
    short : length u < block_size
    short = omega arith

    last_length : length (take block_size u) ≡ length u
    last_length = omega (arith, length-take block_size u)

    last_torn : ltb 0 (length (take block_size u)) ≡ ltb 0 (length u % block_size)
    last_torn =
        let n = last_length in
        let same : length (take block_size u) ≡ length u % block_size = omega arith in
        ap (ltb 0) same

    no_block : length (take block_size u) ≡ block_size → ⊥
    no_block h = let n = last_length in omega arith

  module _ (m : ℕ) (more : length u / block_size ≡ suc m) where
    there : block_size ≤ length u
    there = omega arith

    one_block : length (take block_size u) ≡ block_size
    one_block = omega (arith, length-take block_size u)

    less : length (drop block_size u) / block_size ≡ m
    less = omega (arith, length-drop block_size u)

    same_tail : length (drop block_size u) % block_size ≡ length u % block_size
    same_tail = omega (arith, length-drop block_size u)

-- more than the most: one more is counted, and then nothing
long_after : (m : ℕ) (u : List ℕ) (r : Reader) → r.torn ≡ false → blocks_most < r.blocks → reader_after r (cut m u) ≡ r
unfolding cut reader_after
long_after zero u r on full = refl
long_after (suc m) u r on full =
    after_one r (take block_size u) (cut m (drop block_size u)) (unread r) (next_full r (take block_size u) on full)
    ∙ long_after m (drop block_size u) r on full

pub too_long : (m : ℕ) (u : List ℕ) (r : Reader) → length u / block_size ≡ m → r.torn ≡ false → r.blocks ≤ blocks_most
    → blocks_most < r.blocks + m → blocks_most < (reader_after r (pieces m u)).blocks
unfolding cut
too_long zero u r e on few many = absurd (omega arith)
too_long (suc m) u r e on few many =
    let p = take block_size u in
    let rest = drop block_size u in
    let goes : (q : Reader) → q.torn ≡ false → q.blocks ≡ r.blocks + 1 → blocks_most < (reader_after q (pieces m rest)).blocks =
    λ q t b.
    either (ltb blocks_most q.blocks)
    (λ y.
    let full = ltb-true blocks_most q.blocks y in
    let same = ap (λ (x : Reader). x.blocks) (long_after (suc m) rest q t full) in
    omega arith)
    (λ n. too_long m rest q (less u m e) t (ltb-false blocks_most q.blocks n) (omega arith))
    in
    either (eqb r.code 0)
    (λ y.
    let x = after_one r p (pieces m rest) (read (looked r p)) (next_looked r p on few (one_block u m e) (eqb-true r.code 0 y)) in
    subst (λ (f : Reader). blocks_most < f.blocks) (sym x) (goes (looked r p) on refl))
    (λ n.
    let x = after_one r p (pieces m rest) (unread (passed r)) (next_passed r p on few (one_block u m e) (eqb-false r.code 0 n)) in
    subst (λ (f : Reader). blocks_most < f.blocks) (sym x) (goes (passed r) on refl))

-- after a bad block: it stays the first
kept_after : (m n : ℕ) (u : List ℕ) (r : Reader) → length u / block_size ≡ m → r.torn ≡ false → r.blocks ≡ n → n + m ≤ blocks_most
    → (r.code ≡ 0 → ⊥)
    → Counted (reader_after r (pieces m u)) n m u × Kept r (reader_after r (pieces m u))
unfolding cut reader_after
kept_after zero n u r e on b few bad =
    let p = take block_size u in
    let x = after_one r p [] (unread (ended r p)) (next_ended r p on (omega arith) (no_block u e)) in
    subst (λ (f : Reader). Counted f n 0 u × Kept r f) (sym x)
    (record { blocks = omega arith; torn = last_torn u e }, record { place = refl; code = refl })
kept_after (suc m) n u r e on b few bad =
    let p = take block_size u in
    let rest = drop block_size u in
    let x = after_one r p (pieces m rest) (unread (passed r)) (next_passed r p on (omega arith) (one_block u m e) bad) in
    let on_it = kept_after m (n + 1) rest (passed r) (less u m e) on (ap (λ (k : ℕ). k + 1) b) (omega arith) bad in
    subst (λ (f : Reader). Counted f n (suc m) u × Kept r f) (sym x) (
      record { blocks = on_it.0.blocks ∙ omega arith; torn = on_it.0.torn ∙ ap (ltb 0) (same_tail u m e) },
      record { place = on_it.1.place; code = on_it.1.code },
    )

session_next : (r : Reader) (p q : List ℕ) → session_due (looked r p) q ≡ session_due r p
unfolding session_due
session_next r p q = pick_no _ _ _ (ne_eqb (r.blocks + 1) 0 (λ e. omega arith))

-- before one: the rest reads as it does whole, but for its length
abbrev Says : Reader → List (List ℕ) → ℕ → ℕ → List ℕ → Type 0
Says r ps n s u = reading_of (damaged (reader_after r ps).place (reader_after r ps).code) (entries_read r ps) ≡ read_from n s u

read_after : (m n s : ℕ) (u : List ℕ) (r : Reader) → length u / block_size ≡ m → r.torn ≡ false → r.blocks ≡ n → n + m ≤ blocks_most
    → r.code ≡ 0
    → session_due r (take block_size u) ≡ s → Counted (reader_after r (pieces m u)) n m u × Says r (pieces m u) n s u
unfolding cut reader_after entries_read
read_after zero n s u r e on b few clear due =
    let p = take block_size u in
    let step = next_ended r p on (omega arith) (no_block u e) in
    let x = after_one r p [] (unread (ended r p)) step in (
      subst (λ (f : Reader). Counted f n 0 u) (sym x) (record { blocks = omega arith; torn = last_torn u e }),
      (λ i. reading_of (damaged (x i).place (x i).code) (read_none r p [] (unread (ended r p)) step refl i))
          ∙ (reading_entries r.place r.code [] clear ∙ sym (read_end n s u (short u e))),
    )
read_after (suc m) n s u r e on b few clear due =
    let p = take block_size u in
    let rest = drop block_size u in
    let f = looked r p in
    let step = next_looked r p on (omega arith) (one_block u m e) clear in
    let x = after_one r p (pieces m rest) (read f) step in
    let code : f.code ≡ code_of n s p = λ i. code_of (b i) (due i) p in
    let counts : Counted (reader_after f (pieces m rest)) (n + 1) m rest → Counted (reader_after r (pieces (suc m) u)) n (suc m) u = λ c.
    subst (λ (g : Reader). Counted g n (suc m) u) (sym x)
    (record { blocks = c.blocks ∙ omega arith; torn = c.torn ∙ ap (ltb 0) (same_tail u m e) })
    in
    either (eqb f.code 0)
    (λ y.
    let good = eqb-true f.code 0 y in
    let due_next : session_due f (take block_size rest) ≡ s = session_next r p (take block_size rest) ∙ due in
    let on_it = read_after m (n + 1) s rest f (less u m e) on (ap (λ (k : ℕ). k + 1) b) (omega arith) good due_next in (
      counts on_it.0,
      (λ i. reading_of (damaged (x i).place (x i).code) (read_one r p (pieces m rest) (read f) step y i))
          ∙ (reading_more _ (entry_in p) _
          ∙ (ap (preceded (entry_in p)) on_it.1 ∙ sym (read_good n s u (there u m e) (sym code ∙ good)))),
    ))
    (λ o.
    let bad = eqb-false f.code 0 o in
    let on_it = kept_after m (n + 1) rest f (less u m e) on (ap (λ (k : ℕ). k + 1) b) (omega arith) bad in (
      counts on_it.0,
      (λ i. reading_of (damaged (x i).place (x i).code) (entries_read r (pieces (suc m) u)))
          ∙ ((λ i. reading_of (damaged (on_it.1.place i) (on_it.1.code i)) (entries_read r (pieces (suc m) u)))
          ∙ (reading_damage r.blocks f.code _ bad
          ∙ ((λ i. unreadable (b i) (code i)) ∙ sym (read_bad n s u (there u m e) (λ z. bad (code ∙ z)))))),
    ))

-- ---- the tape

module _ (t : List ℕ) where
  abbrev m : ℕ
  m = length t / block_size

  abbrev f : Reader
  f = reader_after begun (pieces m t)

  abbrev es : List Entry
  es = entries_read begun (pieces m t)

  by_damage : (place code : ℕ) → damage_of f ≡ damaged place code → (code ≡ 0 → ⊥) → read_tape t ≡ unreadable place code
      → reading_of (damage_of f) es ≡ read_tape t
  by_damage place code d some-code h = ap (λ (x : Damage). reading_of x es) d ∙ (reading_damage place code es some-code ∙ sym h)

  long : tape_most < length t → damage_of f ≡ damaged 0 1 → reading_of (damage_of f) es ≡ read_tape t
  long h d = by_damage 0 1 d (λ e. omega arith) (tape_long t h)

  due : session_due begun (take block_size t) ≡ session_of t
  unfolding session_due session_of block_at
  due = pick_yes _ _ _ refl

  fed_pieces : reading_of (damage_of f) es ≡ read_tape t
  fed_pieces =
      either (ltb blocks_most m)
      (λ y.
      let many = ltb-true blocks_most m y in
      long (omega arith) (damage_long f (long_blocks f (too_long m t begun refl refl (omega arith) (omega arith)))))
      (λ n.
      let few = ltb-false blocks_most m n in
      let all = read_after m 0 (session_of t) t begun refl refl refl (omega arith) refl due in
      let blocks : f.blocks ≡ m = all.0.blocks ∙ omega arith in
      either (eqb (length t % block_size) 0)
      (λ w.
      let whole = eqb-true (length t % block_size) 0 w in
      let on : f.torn ≡ false = all.0.torn ∙ le-ltb 0 (length t % block_size) (omega arith) in
      let fits : damage_of f ≡ damaged f.place f.code =
      damage_first f
      (either (ltb f.blocks blocks_most)
      (λ s. short_blocks f (ltb-true f.blocks blocks_most s))
      (λ s. most_blocks f (omega arith) (ltb-false f.blocks blocks_most s) ∙ on))
      on
      in
      ap (λ (x : Damage). reading_of x es) fits ∙ (all.1 ∙ sym (tape_blocks t (omega arith) whole)))
      (λ w.
      let ragged = eqb-false (length t % block_size) 0 w in
      let torn : f.torn ≡ true = all.0.torn ∙ lt-ltb 0 (length t % block_size) (omega arith) in
      either (ltb m blocks_most)
      (λ s.
      let fewer = ltb-true m blocks_most s in
      by_damage m 2 (damage_torn f (short_blocks f (omega arith)) torn ∙ ap (λ (k : ℕ). damaged k 2) blocks) (λ e. omega arith)
      (tape_ragged t (omega arith) ragged))
      (λ s.
      let most = ltb-false m blocks_most s in
      long (omega arith) (damage_long f (most_blocks f (omega arith) (omega arith) ∙ torn)))))

-- the pieces of a tape, handed in one after the other, read as the tape does
pub fed_reading : (t : List ℕ) → reading_of (damage_of (reader_after begun (pieces_of t))) (entries_read begun (pieces_of t)) ≡ read_tape t
unfolding pieces_of
fed_reading t =
    let one_more : suc (length t / block_size) ≡ length t / block_size + 1 = omega arith in
    subst (λ (n : ℕ). reading_of (damage_of (reader_after begun (cut n t))) (entries_read begun (cut n t)) ≡ read_tape t) one_more
    (fed_pieces t)
