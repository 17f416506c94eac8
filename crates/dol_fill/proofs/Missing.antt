-- The entries that are not supplied, counted: by the entry at the front and the rest, and never more than half of the list's bytes, since
-- an entry has a tag and a length.
-- Assumes nothing.
use Rattle.std.proofs.Common.{◌≡◌, ℕ, zero, suc, ◌+◌, ◌*◌, ◌<◌, ◌≤◌, true, false, ltb, List}
use Rattle.std.proofs.Common.{[], length, get_or, drop, refl, ap, ◌∙◌, arith, length-drop, ltb-false, ltb-true}
use mathlib.Core.Bool.{false≢true}
use mathlib.Core.Option.{Option, none, some}
use Rattle.slices.specs.Tests.{is_some}
use Rattle.slices.proofs.Choice.{pick_yes, pick_no, picked, either}
use Rattle.slices.proofs.Cutting.{none_left}
use Rattle.tlv_head.specs.Head.{two_bytes, tag_of, tag_size}
use Rattle.start_fields.specs.Reading.{Terminal}
use Rattle.facts.specs.Facts.{Facts}
use Rattle.dol_wanted.specs.Wanted.{Wanted, and_then, first_wanted, entries_of, fillable}
use Rattle.dol_wanted.proofs.Entries.{entries_more, entries_empty, asked, turn_some, turn_fits, fillable_some}
use Rattle.dol_values.specs.Known.{supplied}
use Rattle.dol_fill.specs.Filled.{missing, missing_in, missing_by, unsupplied}

tag_some : (s : List ℕ) → 1 ≤ tag_size s
unfolding tag_size
tag_some s = picked (λ (n : ℕ). 1 ≤ n) (two_bytes (get_or s 0 0)) 2 1 (λ y. omega arith) (λ n. omega arith)

module _ (t : Terminal) (k : Facts) where
  pub missing_most : (tag : ℕ) → missing t k tag ≤ 1
  unfolding missing
  missing_most tag = picked (λ (n : ℕ). n ≤ 1) (is_some (supplied t k tag)) 0 1 (λ y. omega arith) (λ n. omega arith)

  missing_then : (w : Wanted) (o : Option (List Wanted)) → is_some o ≡ true
      → missing_by t k (and_then w o) ≡ missing t k w.tag + missing_by t k o
  unfolding is_some and_then missing_by missing_in
  missing_then w none e = absurd (false≢true e)
  missing_then w (some ws) e = refl

  pub turn_missing : (r : List ℕ) → 0 < length r → is_some (entries_of r) ≡ true
      → missing_by t k (entries_of r) ≡ missing t k (tag_of r) + missing_by t k (entries_of (drop (tag_size r + 1) r))
  unfolding first_wanted
  turn_missing r some_bytes right =
      ap (missing_by t k) (entries_more r some_bytes (asked r some_bytes right))
      ∙ missing_then (first_wanted r) (entries_of (drop (tag_size r + 1) r)) (turn_some r some_bytes right)

  pub nothing_missing : missing_by t k (entries_of []) ≡ 0
  unfolding missing_by missing_in
  nothing_missing = ap (missing_by t k) entries_empty

  -- a list that can be filled, and one that cannot
  pub unsupplied_yes : (list : List ℕ) → fillable list ≡ true → unsupplied t k list ≡ missing_by t k (entries_of list)
  unfolding unsupplied
  unsupplied_yes list y = pick_yes _ _ _ y

  pub unsupplied_no : (list : List ℕ) → fillable list ≡ false → unsupplied t k list ≡ 0
  unfolding unsupplied
  unsupplied_no list n = pick_no _ _ _ n

  -- an entry takes two bytes or more
  half : (n : ℕ) (r : List ℕ) → length r ≤ n → is_some (entries_of r) ≡ true → 2 * missing_by t k (entries_of r) ≤ length r
  half zero r h right =
      let none' = ap (λ (l : List ℕ). missing_by t k (entries_of l)) (none_left r (omega arith)) ∙ nothing_missing in omega arith
  half (suc n) r h right =
      either (ltb 0 (length r))
      (λ y.
      let some_bytes = ltb-true 0 (length r) y in
      let fits = turn_fits r some_bytes right in
      let short = length-drop (tag_size r + 1) r in
      let sum = turn_missing r some_bytes right in
      let one = missing_most (tag_of r) in
      let tag = tag_some r in
      let more = half n (drop (tag_size r + 1) r) (omega arith) (turn_some r some_bytes right) in
      omega arith)
      (λ f.
      let none' = ap (λ (l : List ℕ). missing_by t k (entries_of l)) (none_left r (omega (arith, ltb-false 0 (length r) f)))
      ∙ nothing_missing in
      omega arith)

  pub unsupplied_half : (list : List ℕ) → 2 * unsupplied t k list ≤ length list
  unsupplied_half list =
      either (fillable list)
      (λ y. let same = unsupplied_yes list y in let few = half (length list) list (omega arith) (fillable_some list y) in omega arith)
      (λ n. let same = unsupplied_no list n in omega arith)

-- a list that is still to be counted, after n of the entries before it: with the rest's it comes to the sum that is wanted, and no more was
-- counted than there was room for
pub record ToCount (t : Terminal) (k : Facts) (r : List ℕ) (n room wanted : ℕ) : Type 0 where
  pub right : is_some (entries_of r) ≡ true
  pub few : n + length r ≤ room
  pub same : n + missing_by t k (entries_of r) ≡ wanted

module _ (t : Terminal) (k : Facts) (r : List ℕ) (n room wanted : ℕ) (h : ToCount t k r n room wanted) where
  -- the entry at the front is counted, and the rest is still to be
  pub rest_counted : 0 < length r → {left : List ℕ} {one : ℕ} → left ≡ drop (tag_size r + 1) r → one ≡ missing t k (tag_of r)
      → ToCount t k left (n + one) room wanted
  rest_counted more {left} {one} e m =
      let fits = turn_fits r more h.right in
      let short = length-drop (tag_size r + 1) r in
      let most = missing_most t k (tag_of r) in
      let sum = turn_missing t k r more h.right in
      let fewer : n + one + length (drop (tag_size r + 1) r) ≤ room = omega arith in
      let so_far : n + one + missing_by t k (entries_of (drop (tag_size r + 1) r)) ≡ wanted = omega arith in
      record { right = ap (λ (x : List ℕ). is_some (entries_of x)) e ∙ turn_some r more h.right; few = rw e fewer; same = rw e so_far }

  -- nothing is left
  pub all_counted : length r ≡ 0 → n ≡ wanted
  all_counted e =
      let none' : missing_by t k (entries_of r) ≡ 0 = ap (λ (l : List ℕ). missing_by t k (entries_of l)) (none_left r e)
      ∙ nothing_missing t k in
      omega arith
