-- The cursor walks exactly the records that an AFL names: from the start all of them are left, each step takes one off, and
-- where none stands at the cursor none is left.
-- Assumes nothing.
use mathlib.Core.Path.{◌≡◌, refl, sym, ap, ap₂, ◌∙◌}
use mathlib.Core.Bool.{true, false}
use mathlib.Core.List.{List, [], ◌∷◌, ◌++◌}
use Prim.Native.Nat.{ℕ, zero, suc, ◌+◌, ◌*◌, ◌≤◌, ◌<◌}
use native.Mathlib.Nat.{add-zero}
use native.Mathlib.Numerals.{add-one}
use native.Mathlib.Omega.{arith}
use lib.Dec.{leb, ltb}
use lib.ListN.{length, drop, length-drop}
use lib.Seq.{drop-drop}
use borrow.Author.Tests.{leb-true, leb-false, ltb-true, ltb-false, le-leb, lt-ltb, le-ltb}
use Rattle.slices.proofs.Choice.{pick_yes, pick_no, either}
use Rattle.slices.proofs.Tests.{held, failed, last, first_held}
use Rattle.answer_afl.specs.Entries.{Entry, first_entry, sfi, records, run, read_entry, to_read}
use Rattle.answer_afl.specs.Cursor.{from_entry, entry_at, start, is_left, record_at, stepped, remaining}
use Rattle.answer_afl.specs.declared.cursor.Cursor.{Cursor}
use Rattle.answer_afl.proofs.Counting.{read_more, read_end}

module _ (v : List ℕ) (c : Cursor) (left : is_left v c ≡ true) where
  pub left_entry : 4 ≤ length (from_entry v c.entry)
  unfolding is_left
  left_entry = leb-true 4 _ (first_held _ _ left).0

  pub left_record : c.done < records (entry_at v c)
  unfolding is_left
  left_record = ltb-true _ _ (first_held _ _ (first_held _ _ left).1).0

  -- the entry lies within the AFL
  pub left_room : 4 * c.entry + 4 ≤ length v
  unfolding from_entry
  left_room = let h = left_entry in let size = length-drop (4 * c.entry) v in omega arith

-- where no record stands at the cursor, none is left
pub none_remain : (v : List ℕ) (c : Cursor) → is_left v c ≡ false → remaining v c ≡ []
unfolding remaining
none_remain v c e = pick_no _ _ _ e

run_drop : (f a n d : ℕ) → d < n → drop d (run f a n) ≡ (a + d, f) ∷ drop (d + 1) (run f a n)
unfolding run
run_drop f a zero d h = absurd (omega arith)
run_drop f a (suc n) zero h = ap (λ (k : ℕ). (k, f) ∷ run f (suc a) n) (sym (add-zero a))
run_drop f a (suc n) (suc d) h =
    let moved : suc a + d ≡ a + suc d = omega arith in
    run_drop f (suc a) n d (omega arith)
    ∙ ap₂ (λ (k : ℕ) (r : List (ℕ × ℕ)). (k, f) ∷ r) moved
    (ap (λ (k : ℕ). drop k (run f (suc a) n)) (add-one d) ∙ sym (ap (λ (k : ℕ). drop k (run f a (suc n))) (add-one (suc d))))

run_end : (f a n : ℕ) → drop n (run f a n) ≡ []
unfolding run
run_end f a zero = refl
run_end f a (suc n) = run_end f (suc a) n

some_records : (e : Entry) → 0 < records e
unfolding records
some_records e = omega arith

next_entry : (v : List ℕ) (k : ℕ) → drop 4 (from_entry v k) ≡ from_entry v (k + 1)
unfolding from_entry
next_entry v k = let n : 4 * k + 4 ≡ 4 * (k + 1) = omega arith in drop-drop 4 (4 * k) v ∙ ap (λ (p : ℕ). drop p v) n

-- at the first record of an entry all from that entry on are left
at_entry : (v : List ℕ) (k : ℕ) → remaining v (record { entry = k; done = 0 }) ≡ to_read (from_entry v k)
unfolding remaining is_left entry_at
at_entry v k =
    let s = from_entry v k in
    either (leb 4 (length s))
    (λ y.
    pick_yes _ _ _ (held refl _ y ∙ (last refl ∙ lt-ltb 0 _ (some_records (first_entry s))))
    ∙ (ap (λ (l : List ℕ). read_entry (first_entry s) ++ to_read l) (sym (next_entry v k)) ∙ sym (read_more s (leb-true 4 (length s) y))))
    (λ n. pick_no _ _ _ (failed refl _ n ∙ n) ∙ sym (read_end s (leb-false 4 (length s) n)))

pub all_remain : (v : List ℕ) → remaining v start ≡ to_read v
unfolding start from_entry
all_remain v = at_entry v 0

-- a step takes off the record at the cursor
module _ (v : List ℕ) (c : Cursor) (left : is_left v c ≡ true) where
  e : Entry
  e = entry_at v c

  later : List (ℕ × ℕ)
  later = to_read (from_entry v (c.entry + 1))

  here : remaining v c ≡ record_at v c ∷ (drop (c.done + 1) (read_entry e) ++ later)
  unfolding remaining record_at read_entry e later
  here =
      pick_yes _ _ _ left
      ∙ (ap (λ (l : List (ℕ × ℕ)). l ++ later) (run_drop (sfi e) e.first (records e) c.done (left_record v c left))
      ∙ ap (λ (p : ℕ × ℕ). p ∷ (drop (c.done + 1) (read_entry e) ++ later)) (sym (pick_yes _ _ _ left)))

  within_entry : c.done + 1 < records e → remaining v (stepped v c) ≡ drop (c.done + 1) (read_entry e) ++ later
  unfolding remaining stepped is_left entry_at e later
  within_entry h =
      ap (remaining v) (pick_yes _ _ _ left ∙ pick_yes _ _ _ (lt-ltb _ _ h))
      ∙ pick_yes _ _ _ (held refl _ (le-leb 4 _ (left_entry v c left)) ∙ (last refl ∙ lt-ltb _ _ h))

  to_next : records e ≤ c.done + 1 → remaining v (stepped v c) ≡ drop (c.done + 1) (read_entry e) ++ later
  unfolding stepped read_entry e later
  to_next h =
      let fewer = left_record v c left in
      let end : records e ≡ c.done + 1 = omega arith in
      let done' : drop (c.done + 1) (run (sfi e) e.first (records e)) ≡ [] =
      ap (λ (n : ℕ). drop n (run (sfi e) e.first (records e))) (sym end) ∙ run_end (sfi e) e.first (records e) in
      ap (remaining v) (pick_yes _ _ _ left ∙ pick_no _ _ _ (le-ltb _ _ h))
      ∙ (at_entry v (c.entry + 1) ∙ ap (λ (l : List (ℕ × ℕ)). l ++ later) (sym done'))

  pub one_less : remaining v c ≡ record_at v c ∷ remaining v (stepped v c)
  unfolding e
  one_less =
      here
      ∙ ap (λ (l : List (ℕ × ℕ)). record_at v c ∷ l)
      (sym (either (ltb (c.done + 1) (records e)) (λ y. within_entry (ltb-true _ _ y)) (λ n. to_next (ltb-false _ _ n))))
