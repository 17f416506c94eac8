-- Where the parts of a whole object lie: at least two bytes of head, then the value, within the bytes. No object begins with '00'.
-- Assumes nothing.
use mathlib.Core.Path.{◌≡◌}
use mathlib.Core.Bool.{true, false, not}
use mathlib.Core.List.{List}
use Prim.Native.Nat.{ℕ, ◌≤◌}
use native.Mathlib.Nat.{le-add_right}
use native.Mathlib.Omega.{arith}
use lib.Dec.{eqb}
use lib.ListN.{length, get_or}
use borrow.Author.Tests.{leb-true, eqb-false, eq-eqb, not-true}
use Rattle.slices.proofs.Choice.{pick_yes, picked, and_left, and_right}
use Rattle.tlv_head.specs.Head.{two_bytes, tag_size, tag_right, length_size, value_start, value_end, whole}

pub record Within (start end size : ℕ) : Type 0 where
  pub head : 2 ≤ start
  pub order : start ≤ end
  pub fits : end ≤ size

tag_size_least : (s : List ℕ) → 1 ≤ tag_size s
unfolding tag_size
tag_size_least s = picked (λ n. 1 ≤ n) (two_bytes (get_or s 0 0)) 2 1 (λ e. omega arith) (λ e. omega arith)

pub whole_within : (s : List ℕ) → whole s ≡ true → Within (value_start s) (value_end s) (length s)
unfolding whole value_start value_end
whole_within s e =
    let rest = and_right (tag_right s) _ e in
    let some_form : length_size s ≡ 0 → ⊥ = eqb-false _ _ (not-true _ (and_left _ _ rest)) in
    let long = tag_size_least s in
    record {
      head = omega arith;
      order = le-add_right _ _;
      fits = leb-true _ _ (and_right (not (eqb (length_size s) 0)) _ rest);
    }

-- '00' is no tag, so no object stands where such a byte does
pub zero_no_tag : (s : List ℕ) → get_or s 0 0 ≡ 0 → tag_right s ≡ false
unfolding tag_right
zero_no_tag s e = pick_yes _ _ _ (eq-eqb _ _ e)

pub zero_not_whole : (s : List ℕ) → get_or s 0 0 ≡ 0 → whole s ≡ false
unfolding whole
zero_not_whole s e = rw (zero_no_tag s e)
