-- An object list, an entry at a time: what it asks for and how much go by the entry at the front and the rest.
-- Assumes nothing.
use mathlib.Core.Path.{◌≡◌, refl, sym, ap, ◌∙◌}
use mathlib.Core.Bool.{Bool, true, false, false≢true}
use mathlib.Core.List.{List, []}
use mathlib.Core.Option.{Option, none, some}
use Prim.Native.Nat.{ℕ, ◌+◌, ◌≤◌, ◌<◌}
use native.Mathlib.Nat.{add_assoc, zero-add, add-zero}
use native.Mathlib.Omega.{arith}
use lib.Dec.{eqb, leb}
use lib.ListN.{length, drop, length-drop}
use borrow.Author.Tests.{eqb-true, eqb-false, ne_eqb, leb-true, le-leb, lt-leb}
use Rattle.slices.specs.Choice.{pick}
use Rattle.slices.specs.Shorter.{Asks}
use Rattle.slices.proofs.Choice.{pick_yes, pick_no, pick_cong, either, and_right}
use Rattle.slices.proofs.Shorter.{equation}
use Rattle.tlv_head.specs.Head.{tag_right, tag_size}
use Rattle.slices.specs.Tests.{is_some}
use Rattle.dol_wanted.specs.Wanted.{Wanted, and_then, size_at, first_wanted, asks, wanted_step}
use Rattle.dol_wanted.specs.Wanted.{entries_of, total, total_by, total_of, most, fits, fillable, tally}

-- where something is left, and where nothing is
pub goes_on : (s : List ℕ) (e : Bool) → e ≡ eqb (length s) 0 → e ≡ false → 0 < length s
goes_on s e same f = let h = eqb-false (length s) 0 (sym same ∙ f) in omega (arith, h)

pub at_end : (s : List ℕ) (e : Bool) → e ≡ eqb (length s) 0 → e ≡ true → length s ≡ 0
at_end s e same t = eqb-true (length s) 0 (sym same ∙ t)

pub entry_fits : (s : List ℕ) → asks s ≡ true → tag_size s + 1 ≤ length s
unfolding asks
entry_fits s e = leb-true _ _ (and_right (tag_right s) _ e)

step_asks : Asks wanted_step
unfolding wanted_step
step_asks f g s same =
    pick_cong _ _ _ _ _ (λ e. refl) (λ n.
    pick_cong _ _ _ _ _ (λ e. ap (and_then (first_wanted s)) (same (drop (tag_size s + 1) s) (shorter_rest e))) (λ e. refl))
  where
    shorter_rest : asks s ≡ true → length (drop (tag_size s + 1) s) < length s
    shorter_rest e = let h = entry_fits s e in rw length-drop (omega arith)

entries_step : (s : List ℕ) → entries_of s ≡ wanted_step entries_of s
unfolding entries_of
entries_step s = equation wanted_step none step_asks s

pub entries_empty : entries_of [] ≡ some []
unfolding wanted_step
entries_empty = entries_step [] ∙ pick_yes _ _ _ refl

module _ (s : List ℕ) (some_bytes : 0 < length s) where
  nonempty : eqb (length s) 0 ≡ false
  nonempty = ne_eqb (length s) 0 (λ (e : length s ≡ 0). omega arith)

  pub entries_more : asks s ≡ true → entries_of s ≡ and_then (first_wanted s) (entries_of (drop (tag_size s + 1) s))
  unfolding wanted_step
  entries_more e = entries_step s ∙ (pick_no _ _ _ nonempty ∙ pick_yes _ _ _ e)

  pub entries_none : asks s ≡ false → entries_of s ≡ none
  unfolding wanted_step
  entries_none e = entries_step s ∙ (pick_no _ _ _ nonempty ∙ pick_no _ _ _ e)

-- a list whose first entry stands before others that are well formed
module _ (w : Wanted) where
  pub some_then : (o : Option (List Wanted)) → is_some (and_then w o) ≡ is_some o
  unfolding is_some and_then
  some_then none = refl
  some_then (some ws) = refl

  pub total_then : (o : Option (List Wanted)) → is_some o ≡ true → total_by (and_then w o) ≡ w.size + total_by o
  unfolding is_some and_then total_by total
  total_then none e = absurd (false≢true e)
  total_then (some ws) e = refl

-- the bytes asked for, counted on from n: one more than may be where there are too many, or the list is malformed
unfoldable pub counted_on : ℕ → Option (List Wanted) → ℕ
counted_on n none = most + 1
counted_on n (some ws) = pick (leb (n + total ws) most) (n + total ws) (most + 1)

counted_fits : (o : Option (List Wanted)) → pick (fits o) (total_by o) (most + 1) ≡ counted_on 0 o
unfolding counted_on fits total_by pick
counted_fits none = refl
counted_fits (some ws) = ap (λ (n : ℕ). pick (leb n most) n (most + 1)) (sym (zero-add (total ws)))

pub tally_counted : (s : List ℕ) → tally s ≡ counted_on 0 (entries_of s)
unfolding tally fillable total_of
tally_counted s = counted_fits (entries_of s)

pub counted_then : (n : ℕ) (w : Wanted) (o : Option (List Wanted)) → counted_on n (and_then w o) ≡ counted_on (n + w.size) o
unfolding counted_on and_then total
counted_then n w none = refl
counted_then n w (some ws) = ap (λ (m : ℕ). pick (leb m most) m (most + 1)) (sym (add_assoc n w.size (total ws)))

pub counted_over : (n : ℕ) (o : Option (List Wanted)) → most < n → counted_on n o ≡ most + 1
unfolding counted_on
counted_over n none h = refl
counted_over n (some ws) h = pick_no _ _ _ (lt-leb (n + total ws) most (omega arith))

pub counted_end : (n : ℕ) → n ≤ most → counted_on n (some []) ≡ n
unfolding counted_on total
counted_end n h = pick_yes _ _ _ (le-leb (n + 0) most (omega arith)) ∙ add-zero n

pub counted_none : (n : ℕ) → counted_on n none ≡ most + 1
unfolding counted_on
counted_none n = refl

-- a list can be filled exactly where its tally is not over the most
fits_tally : (o : Option (List Wanted)) → leb (pick (fits o) (total_by o) (most + 1)) most ≡ fits o
unfolding fits total_by
fits_tally none = ap (λ (n : ℕ). leb n most) (pick_no {A = ℕ} false 0 (most + 1) refl)
fits_tally (some ws) =
    either (leb (total ws) most)
    (λ y. ap (λ (n : ℕ). leb n most) (pick_yes (leb (total ws) most) (total ws) (most + 1) y))
    (λ n. ap (λ (m : ℕ). leb m most) (pick_no (leb (total ws) most) (total ws) (most + 1) n) ∙ sym n)

pub tally_fillable : (s : List ℕ) → leb (tally s) most ≡ fillable s
unfolding tally fillable total_of
tally_fillable s = fits_tally (entries_of s)

fits_some : (o : Option (List Wanted)) → fits o ≡ true → is_some o ≡ true
unfolding fits is_some
fits_some none e = e
fits_some (some ws) e = refl

pub fillable_some : (s : List ℕ) → fillable s ≡ true → is_some (entries_of s) ≡ true
unfolding fillable
fillable_some s e = fits_some (entries_of s) e

-- where a well-formed list goes on, an entry stands
pub some_asks : (s : List ℕ) → 0 < length s → is_some (entries_of s) ≡ true → asks s ≡ true
unfolding is_some
some_asks s h e =
    either (asks s) (λ y. y) (λ n. absurd (false≢true (sym (ap is_some (entries_none s h n)) ∙ e)))

-- one turn: the entry at the front, and the rest
module _ (r : List ℕ) (some_bytes : 0 < length r) (right : is_some (entries_of r) ≡ true) where
  pub asked : asks r ≡ true
  asked = some_asks r some_bytes right

  pub turn_fits : tag_size r + 1 ≤ length r
  turn_fits = entry_fits r asked

  pub turn_some : is_some (entries_of (drop (tag_size r + 1) r)) ≡ true
  turn_some =
      sym (some_then (first_wanted r) (entries_of (drop (tag_size r + 1) r))) ∙ (sym (ap is_some (entries_more r some_bytes asked)) ∙ right)

  pub turn_total : total_by (entries_of r) ≡ size_at r + total_by (entries_of (drop (tag_size r + 1) r))
  unfolding first_wanted
  turn_total = ap total_by (entries_more r some_bytes asked) ∙ total_then (first_wanted r) (entries_of (drop (tag_size r + 1) r)) turn_some

-- and of the count
module _ (r : List ℕ) (some_bytes : 0 < length r) (n : ℕ) where
  pub turn_counted : asks r ≡ true → counted_on n (entries_of r) ≡ counted_on (n + size_at r) (entries_of (drop (tag_size r + 1) r))
  unfolding first_wanted
  turn_counted e = ap (counted_on n) (entries_more r some_bytes e) ∙ counted_then n (first_wanted r) (entries_of (drop (tag_size r + 1) r))

  pub turn_malformed : asks r ≡ false → counted_on n (entries_of r) ≡ most + 1
  turn_malformed e = ap (counted_on n) (entries_none r some_bytes e) ∙ counted_none n
