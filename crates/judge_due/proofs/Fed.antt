-- Piece by piece a judgement keeps up with the entries that are read (judge), so what it finds due is what the rulebook has due after them;
-- and of a readable tape those are its first entries, since no block of it is bad.
-- Assumes nothing.
use mathlib.Core.Path.{◌≡◌, refl, sym, ap, ap₂, ◌∙◌, subst}
use mathlib.Core.Bool.{true}
use mathlib.Core.List.{List, [], ◌∷◌, ◌++◌}
use Prim.Native.Nat.{ℕ, ◌+◌, ◌/◌}
use native.Mathlib.Omega.{arith}
use lib.Dec.{eqb, ltb}
use lib.ListN.{length, take}
use lib.Pow.{are_bytes}
use lib.Seq.{take-length, take-append-le}
use borrow.Author.Tests.{eqb-true}
use Rattle.slices.proofs.Choice.{pick_yes, pick_no, picked, either}
use Rattle.tape_read.specs.Entries.{Entry, block_size, blocks_most}
use Rattle.tape_read.specs.Blocks.{entry_in}
use Rattle.tape_read.specs.Tapes.{entries, unreadable, read_tape}
use Rattle.tape_feed.specs.declared.Reader.{Reader}
use Rattle.tape_feed.specs.declared.Taken.{Taken}
use Rattle.tape_feed.specs.Feeding.{next, damage_of, reader_after, entries_read, reading_of, pieces_of, begun as unread}
use Rattle.tape_feed.proofs.Turns.{none_bad}
use Rattle.tape_feed.proofs.Whole.{fed_reading}
use Rattle.rulebook_due.specs.After.{due_after}
use Rattle.judge.specs.Feeding.{begun}
use Rattle.judge.proofs.Fed.{Along, Bytes, cut_bytes, reader_after_lem, along_all, along_begun}
use Rattle.judge_due.specs.Telling.{told}
use Rattle.judge_due.specs.Standing.{due_of}
use Rattle.judge_due.specs.Theorem.{AllBytes, after, ToldOfTapes}
use Rattle.judge_due.proofs.Tracked.{tracks_due}

-- ---- any pieces

all_bytes_lem : (ps : List (List ℕ)) → AllBytes ps → Bytes ps
all_bytes_lem [] b = b
all_bytes_lem (p ∷ ps) b = (b.0, all_bytes_lem ps b.1)

module _ (ps : List (List ℕ)) (b : Bytes ps) where
  keeps_up : Along (after ps) (entries_read unread ps)
  keeps_up = along_all ps begun [] b along_begun

  fed_due : (out : List ℕ) → due_of (after ps) out ≡ told (due_after (entries_read unread ps)) out
  unfolding due_of
  fed_due out = tracks_due (after ps).dialogue (entries_read unread ps) out keeps_up.tracks

-- ---- pieces, and more behind them

bytes_first : (ps qs : List (List ℕ)) → Bytes (ps ++ qs) → Bytes ps
bytes_first [] qs b = tt
bytes_first (p ∷ ps) qs b = (b.0, bytes_first ps qs b.1)

reader_append : (ps qs : List (List ℕ)) (r : Reader) → reader_after r (ps ++ qs) ≡ reader_after (reader_after r ps) qs
unfolding reader_after
reader_append [] qs r = refl
reader_append (p ∷ ps) qs r = reader_append ps qs (next r p).reader

entries_append : (ps qs : List (List ℕ)) (r : Reader) → entries_read r (ps ++ qs) ≡ entries_read r ps ++ entries_read (reader_after r ps) qs
unfolding entries_read reader_after
entries_append [] qs r = refl
entries_append (p ∷ ps) qs r =
    let t = next r p in
    let rest = entries_append ps qs t.reader in
    let behind = entries_read (reader_after t.reader ps) qs in
    either t.good
    (λ g.
    pick_yes _ _ _ g
    ∙ (ap (λ (l : List Entry). entry_in p ∷ l) rest ∙ sym (ap (λ (l : List Entry). l ++ behind) (pick_yes _ _ _ g))))
    (λ n. pick_no _ _ _ n ∙ (rest ∙ sym (ap (λ (l : List Entry). l ++ behind) (pick_no _ _ _ n))))

-- a bad block stays on record
abbrev Clear : Reader → Taken → Type 0
Clear r t = t.reader.code ≡ 0 → r.code ≡ 0

next_clear : (r : Reader) (p : List ℕ) → Clear r (next r p)
unfolding next
next_clear r p =
    picked (Clear r) r.torn _ _ (λ y h. h)
    (λ n.
    picked (Clear r) (ltb blocks_most r.blocks) _ _ (λ y h. h)
    (λ m.
    picked (Clear r) (eqb (length p) block_size) _ _
    (λ y. picked (Clear r) (eqb r.code 0) _ _ (λ z h. eqb-true r.code 0 z) (λ z h. h))
    (λ y h. h)))

after_clear : (ps : List (List ℕ)) (r : Reader) → (reader_after r ps).code ≡ 0 → r.code ≡ 0
unfolding reader_after
after_clear [] r h = h
after_clear (p ∷ ps) r h = next_clear r p (after_clear ps (next r p).reader h)

-- ---- a readable tape

-- its entries are those that its pieces hold, and no block of it is bad
abbrev Read : Reader → List Entry → List Entry → Type 0
Read r got es = (r.code ≡ 0) × (got ≡ es)

by_damage : (r : Reader) (got es : List Entry) → reading_of (damage_of r) got ≡ entries es → Read r got es
unfolding reading_of
by_damage r got es h =
    either (eqb (damage_of r).code 0)
    (λ y.
    let same : entries got ≡ entries es = sym (pick_yes _ _ _ y) ∙ h in
    (none_bad r (eqb-true (damage_of r).code 0 y), cc same))
    (λ n.
    let wrong : unreadable (damage_of r).place (damage_of r).code ≡ entries es = sym (pick_no _ _ _ n) ∙ h in
    absurd (let z : ◌≡◌ {A = ℕ} 0 1 = cc wrong in omega arith))

module _ (t : List ℕ) (es : List Entry) (bytes : are_bytes t ≡ true) (h : read_tape t ≡ entries es) (ps qs : List (List ℕ))
    (cut : pieces_of t ≡ ps ++ qs) where
  whole : Read (reader_after unread (ps ++ qs)) (entries_read unread (ps ++ qs)) es
  whole =
      subst (λ (l : List (List ℕ)). Read (reader_after unread l) (entries_read unread l) es) cut
      (by_damage (reader_after unread (pieces_of t)) (entries_read unread (pieces_of t)) es (fed_reading t ∙ h))

  all : Bytes (pieces_of t)
  unfolding pieces_of
  all = cut_bytes (length t / block_size + 1) t bytes

  some_bytes : Bytes ps
  some_bytes = bytes_first ps qs (subst Bytes cut all)

  abbrev got : List Entry
  got = entries_read unread ps

  count : (after ps).reader.blocks ≡ length got
  count =
      let clear = after_clear qs (reader_after unread ps) (ap (λ (r : Reader). r.code) (sym (reader_append ps qs unread)) ∙ whole.0) in
      (keeps_up ps some_bytes).step (ap (λ (r : Reader). r.code) (reader_after_lem ps begun) ∙ clear)

  first_entries : got ≡ take (after ps).reader.blocks es
  first_entries =
      let behind = entries_read (reader_after unread ps) qs in
      sym
      (ap₂ (λ (n : ℕ) (l : List Entry). take n l) count (sym whole.1 ∙ entries_append ps qs unread)
      ∙ (take-append-le (length got) got behind (omega arith) ∙ take-length got))

  read_due : (out : List ℕ) → due_of (after ps) out ≡ told (due_after (take (after ps).reader.blocks es)) out
  read_due out = fed_due ps some_bytes out ∙ ap (λ (l : List Entry). told (due_after l) out) first_entries

pub told_of_tapes : ToldOfTapes
told_of_tapes = record { pieces = λ ps b out. fed_due ps (all_bytes_lem ps b) out; readable = read_due }
