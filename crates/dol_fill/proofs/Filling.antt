-- An object list, filled: its bytes go by the entry at the front and the rest, and are as many as it asks for.
-- Assumes nothing.
use Rattle.std.proofs.Common.{◌≡◌, ℕ, ◌+◌, ◌-◌, ◌<◌, ◌≤◌, min, true, List, [], ◌∷◌, ◌++◌, length}
use Rattle.std.proofs.Common.{take, drop, replicate, sym, refl, ap, ◌∙◌, ap₂, arith, length-append, length-drop, length-take, le-leb}
use mathlib.Core.Bool.{false≢true}
use mathlib.Core.Option.{Option, none, some}
use lib.ListN.{length-replicate}
use borrow.Author.Tests.{lt-leb}
use Rattle.slices.specs.Writing.{zeros, put}
use Rattle.slices.proofs.Choice.{pick_yes, pick_no}
use Rattle.slices.proofs.Writing.{zeros_length, put_step, put_length, put_nothing}
use Rattle.slices.proofs.Cutting.{none_left}
use Rattle.tlv_head.specs.Head.{tag_of, tag_size}
use Rattle.slices.specs.Tests.{is_some}
use Rattle.start_fields.specs.Reading.{Terminal}
use Rattle.dol_wanted.specs.Wanted.{Wanted, and_then, size_at, first_wanted, entries_of, total, total_by, total_of, most, fillable, tally}
use Rattle.dol_fill.specs.Filled.{entry_bytes, first_bytes, filled, filled_by, filled_list, filling}
use Rattle.dol_values.specs.Known.{with_format, supplied}
use Rattle.dol_values.specs.Shape.{shaped}
use Rattle.facts.specs.Facts.{Facts}
use Rattle.answer_common.specs.declared.content.Format.{Format}
use Rattle.answer_common.specs.declared.content.Format.TheVariants.{Numeric, CardNumber, Other, Unknown}
use Rattle.dol_wanted.proofs.Entries.{entries_more, entries_empty, asked, turn_some, turn_total, tally_fillable}

-- the entry at the front of a well-formed list, and the rest
filled_then : (w : Wanted) (t : Terminal) (k : Facts) (o : Option (List Wanted)) → is_some o ≡ true
    → filled_by t k (and_then w o) ≡ entry_bytes w.size (supplied t k w.tag) ++ filled_by t k o
unfolding is_some and_then filled_by filled
filled_then w t k none e = absurd (false≢true e)
filled_then w t k (some ws) e = refl

turn_filled : (r : List ℕ) (some_bytes : 0 < length r) (right : is_some (entries_of r) ≡ true) (t : Terminal) (k : Facts)
    → filled_by t k (entries_of r) ≡ first_bytes t k r ++ filled_by t k (entries_of (drop (tag_size r + 1) r))
unfolding first_wanted first_bytes
turn_filled r some_bytes right t k =
    ap (filled_by t k) (entries_more r some_bytes (asked r some_bytes right))
    ∙ filled_then (first_wanted r) t k (entries_of (drop (tag_size r + 1) r)) (turn_some r some_bytes right)

-- a value that is there, shaped: all zeros in a format that lists do not know, as where nothing is supplied
pub shaped_entry : (f : Format) (n : ℕ) (v : List ℕ) → entry_bytes n (with_format f (some v)) ≡ shaped f n v
unfolding entry_bytes with_format shaped
shaped_entry Numeric n v = refl
shaped_entry CardNumber n v = refl
shaped_entry Other n v = refl
shaped_entry Unknown n v = refl

pub blank_entry : (f : Format) (n : ℕ) → entry_bytes n (with_format f none) ≡ zeros n
unfolding entry_bytes with_format
blank_entry f n = refl

-- an entry's bytes are as many as it asks for, and the list's as many as all of them do
pub shaped_length : (f : Format) (n : ℕ) (v : List ℕ) → length (shaped f n v) ≡ n
unfolding shaped
shaped_length Numeric n v =
    length-append (zeros (n - length v)) (drop (length v - n) v)
    ∙ (ap₂ ◌+◌ (zeros_length (n - length v)) (length-drop (length v - n) v)
    ∙ (let e : n - length v + (length v - (length v - n)) ≡ n = omega arith in e))
shaped_length CardNumber n v =
    length-append (take n v) (replicate (n - length v) 0xFF)
    ∙ (ap₂ ◌+◌ (length-take n v) (length-replicate (n - length v) 0xFF)
    ∙ (let e : min n (length v) + (n - length v) ≡ n = omega arith in e))
shaped_length Other n v =
    length-append (take n v) (zeros (n - length v))
    ∙ (ap₂ ◌+◌ (length-take n v) (zeros_length (n - length v)) ∙ (let e : min n (length v) + (n - length v) ≡ n = omega arith in e))
shaped_length Unknown n v = zeros_length n

pub entry_length : (n : ℕ) (o : Option (Format × List ℕ)) → length (entry_bytes n o) ≡ n
unfolding entry_bytes
entry_length n none = zeros_length n
entry_length n (some v) = shaped_length v.0 n v.1

pub first_length : (t : Terminal) (k : Facts) (r : List ℕ) → length (first_bytes t k r) ≡ size_at r
unfolding first_bytes
first_length t k r = entry_length (size_at r) (supplied t k (tag_of r))

filled_length : (t : Terminal) (k : Facts) (ws : List Wanted) → length (filled t k ws) ≡ total ws
unfolding filled total
filled_length t k [] = refl
filled_length t k (w ∷ ws) =
    length-append (entry_bytes w.size (supplied t k w.tag)) (filled t k ws)
    ∙ ap₂ ◌+◌ (entry_length w.size (supplied t k w.tag)) (filled_length t k ws)

filled_by_length : (t : Terminal) (k : Facts) (o : Option (List Wanted)) → length (filled_by t k o) ≡ total_by o
unfolding filled_by total_by
filled_by_length t k none = refl
filled_by_length t k (some ws) = filled_length t k ws

pub list_length : (t : Terminal) (k : Facts) (list : List ℕ) → length (filled_list t k list) ≡ total_of list
unfolding filled_list total_of
list_length t k list = filled_by_length t k (entries_of list)

-- the place of an entry in a buffer that has room for it
pub place_length : (buf : List ℕ) (p n : ℕ) → p + n ≤ length buf → length (take (p + n - p) (drop p buf)) ≡ n
place_length buf p n h =
    let there = length-drop p buf in
    length-take (p + n - p) (drop p buf) ∙ (let e : min (p + n - p) (length (drop p buf)) ≡ n = omega arith in e)

-- a list that can be filled, and one that cannot
module _ (t : Terminal) (k : Facts) (list : List ℕ) where
  pub filling_yes : tally list ≤ most → (fillable list ≡ true) × (tally list ≡ total_of list) × (filling t k list ≡ filled_list t k list)
  unfolding filling tally
  filling_yes h =
      let yes' : fillable list ≡ true = sym (tally_fillable list) ∙ le-leb (tally list) most h in
      (yes', pick_yes _ _ _ yes', pick_yes _ _ _ yes')

  pub filling_no : most < tally list → filling t k list ≡ []
  unfolding filling
  filling_no h = pick_no _ _ _ (sym (tally_fillable list) ∙ lt-leb (tally list) most h)

-- writing the entry at the front and then the rest is writing all of it
pub turn_put : (t : Terminal) (k : Facts) (r buf : List ℕ) (p : ℕ) → 0 < length r → is_some (entries_of r) ≡ true → p
    + size_at r ≤ length buf
    → put (filled_by t k (entries_of (drop (tag_size r + 1) r))) (p + size_at r) (put (first_bytes t k r) p buf)
    ≡ put (filled_by t k (entries_of r)) p buf
turn_put t k r buf p h right fits' =
    let x = first_bytes t k r in
    let y = filled_by t k (entries_of (drop (tag_size r + 1) r)) in
    let size : length x ≡ size_at r = first_length t k r in
    ap (λ (n : ℕ). put y (p + n) (put x p buf)) (sym size)
    ∙ (sym (put_step x y p buf (omega arith)) ∙ ap (λ (s : List ℕ). put s p buf) (sym (turn_filled r h right t k)))

-- a list that is still to be filled, from a place where it has room: written there, it gives the buffer that is wanted
pub record ToFill (t : Terminal) (k : Facts) (r : List ℕ) (p : ℕ) (buf : List ℕ) (room : ℕ) (wanted : List ℕ) : Type 0 where
  pub right : is_some (entries_of r) ≡ true
  pub fits : p + total_by (entries_of r) ≤ room
  pub long : length buf ≡ room
  pub same : put (filled_by t k (entries_of r)) p buf ≡ wanted

module _ (t : Terminal) (k : Facts) (r : List ℕ) (p : ℕ) (buf : List ℕ) (room : ℕ) (wanted : List ℕ)
    (h : ToFill t k r p buf room wanted) where
  -- the entry at the front has room, and once it is written the rest is still to be filled
  module _ (more : 0 < length r) where
    pub first_room : p + size_at r ≤ length buf
    first_room = let sum = turn_total r more h.right in omega arith

    pub rest_filled : {left out : List ℕ} {size : ℕ} → left ≡ drop (tag_size r + 1) r → size ≡ size_at r
        → out ≡ put (first_bytes t k r) p buf → ToFill t k left (p + size) out room wanted
    rest_filled {left} {out} {size} e s o =
        let sum = turn_total r more h.right in
        let first = first_length t k r in
        let whole : length out ≡ length buf = ap length o ∙ put_length (first_bytes t k r) p buf (omega (arith, first_room)) in
        let behind : p + size + total_by (entries_of (drop (tag_size r + 1) r)) ≤ room = omega arith in
        record {
          right = ap (λ (x : List ℕ). is_some (entries_of x)) e ∙ turn_some r more h.right;
          fits = rw e behind;
          long = omega arith;
          same = (λ i. put (filled_by t k (entries_of (e i))) (p + s i) (o i)) ∙ (turn_put t k r buf p more h.right first_room ∙ h.same);
        }

  -- nothing is left: the buffer is the one that is wanted
  pub all_filled : length r ≡ 0 → buf ≡ wanted
  unfolding filled_by filled
  all_filled e =
      let written : filled_by t k (entries_of r) ≡ [] = ap (λ (s : List ℕ). filled_by t k (entries_of s)) (none_left r e)
      ∙ ap (filled_by t k) entries_empty in
      sym (put_nothing p buf) ∙ (ap (λ (s : List ℕ). put s p buf) (sym written) ∙ h.same)
