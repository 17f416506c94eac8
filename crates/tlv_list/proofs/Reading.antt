-- The reader by place and the members of a list: from any place the objects are the one that the reader finds there, and
-- then those from where it goes on. '00' bytes that it passes over mean nothing to the list either.
-- Assumes nothing.
use mathlib.Core.Path.{◌≡◌, refl, ap, ◌∙◌}
use mathlib.Core.Bool.{false}
use mathlib.Core.List.{List, [], ◌∷◌}
use mathlib.Core.Option.{Option, none, some}
use Prim.Native.Nat.{ℕ, suc, ◌+◌, ◌-◌, ◌≤◌, ◌<◌}
use native.Mathlib.Nat.{not-suc-le-zero, le-add_right}
use native.Mathlib.Omega.{arith}
use lib.Dec.{eqb, leb}
use lib.ListN.{length, get_or, drop, length-drop, drop_of_length-le}
use lib.Seq.{drop-drop}
use borrow.Author.Tests.{eqb-true, leb-true, leb-false, le-leb}
use Rattle.slices.specs.Choice.{pick}
use Rattle.slices.proofs.Choice.{pick_yes, picked}
use Rattle.tlv_head.specs.Head.{tag_of, value_start, value_end, whole}
use Rattle.tlv_list.specs.Objects.{Object, between, first_object, before, right_inside, objects}
use Rattle.tlv_list.specs.Place.{fillers, next_at}
use Rattle.tlv_head.specs.Member.{member_at}
use Rattle.tlv_head.specs.declared.Next.{Next}
use Rattle.tlv_head.specs.declared.Next.TheVariants.{Member, End, Broken}
use Rattle.tlv_head.proofs.Parts.{whole_within}
use Rattle.tlv_list.proofs.Objects.{objects_empty, objects_filler, objects_member, objects_broken}

-- '00' bytes at the front change nothing
skipped : (u : List ℕ) → objects u ≡ objects (drop (fillers u) u)
unfolding fillers
skipped [] = refl
skipped (b ∷ u) =
    picked (λ n. objects (b ∷ u) ≡ objects (drop n (b ∷ u))) (eqb b 0) (suc (fillers u)) 0
    (λ e. ap (λ (x : ℕ). objects (x ∷ u)) (eqb-true b 0 e) ∙ (objects_filler u ∙ skipped u))
    (λ e. refl)

-- what stands after them is none
pub stopped : (u : List ℕ) → fillers u < length u → eqb (get_or (drop (fillers u) u) 0 0) 0 ≡ false
unfolding fillers
stopped [] h = absurd (not-suc-le-zero h)
stopped (b ∷ u) h =
    picked (λ n. n < suc (length u) → eqb (get_or (drop n (b ∷ u)) 0 0) 0 ≡ false) (eqb b 0) (suc (fillers u)) 0
    (λ e k. stopped u (omega arith))
    (λ e k. e)
    h

-- a part of a rest is a part of the whole, moved
pub between_drop : (s : List ℕ) (p a e : ℕ) → between (drop p s) a e ≡ between s (p + a) (p + e)
unfolding between
between_drop s p a e =
    let n : e - a ≡ (p + e) - (p + a) = omega arith in
    rw (drop-drop, n)

-- the members from a place on, given what the reader finds there
unfoldable pub following : List ℕ → Next → Option (List Object)
following s (Member tag start end) =
    pick (right_inside objects (record { tag = tag; value = between s start end }))
    (before (record { tag = tag; value = between s start end }) (objects (drop end s)))
    none
following s End = some []
following s Broken = none

module _ (s : List ℕ) (p : ℕ) (h : p < length s) (due : eqb (get_or (drop p s) 0 0) 0 ≡ false) where
  some_bytes : 0 < length (drop p s)
  some_bytes = rw length-drop (omega arith)

  first_moved : first_object (drop p s)
      ≡ record { tag = tag_of (drop p s); value = between s (p + value_start (drop p s)) (p + value_end (drop p s)) }
  unfolding first_object
  first_moved =
      ap (λ (v : List ℕ). record { tag = tag_of (drop p s); value = v }) (between_drop s p (value_start (drop p s)) (value_end (drop p s)))

  at_head : objects (drop p s) ≡ following s (member_at s p)
  unfolding member_at following
  at_head =
      picked (λ n. objects (drop p s) ≡ following s n) (whole (drop p s)) _ Broken
      (λ w.
      objects_member (drop p s) due some_bytes w
      ∙ rw (first_moved, drop-drop))
      (λ w. objects_broken (drop p s) due some_bytes w)

pub objects_next : (s : List ℕ) (at : ℕ) → objects (drop at s) ≡ following s (next_at s at)
unfolding next_at following
objects_next s at =
    let u = drop at s in
    let p = at + fillers u in
    let moved : objects u ≡ objects (drop p s) = skipped u ∙ ap objects (drop-drop (fillers u) at s) in
    moved
    ∙ picked (λ n. objects (drop p s) ≡ following s n) (leb (length s) p) End (member_at s p)
    (λ e. ap objects (drop_of_length-le s (leb-true (length s) p e)) ∙ objects_empty)
    (λ e.
    let h = leb-false (length s) p e in
    let here : fillers u < length u = rw length-drop (omega arith) in
    at_head s p h (rw drop-drop at (stopped u here)))

pub next_end : (s : List ℕ) (at : ℕ) → length s ≤ at → next_at s at ≡ End
unfolding next_at
next_end s at h = pick_yes _ _ _ (le-leb (length s) (at + fillers (drop at s)) (omega arith))

-- what the reader finds lies ahead of its place and within the bytes
pub record Ahead (at start end size : ℕ) : Type 0 where
  pub head : at + 2 ≤ start
  pub order : start ≤ end
  pub fits : end ≤ size

module _ (s : List ℕ) (at tag start end : ℕ) where
  abbrev Found : Next → Type 0
  Found n = n ≡ Member tag start end → Ahead at start end (length s)

  none_at_end : Found End
  none_at_end e = let z : ◌≡◌ {A = ℕ} 0 1 = cc in omega arith

  none_broken : Found Broken
  none_broken e = let z : ◌≡◌ {A = ℕ} 0 1 = cc in omega arith

  member_ahead : (p : ℕ) → at ≤ p → p < length s → Found (member_at s p)
  unfolding member_at
  member_ahead p low high =
      picked Found (whole (drop p s)) _ Broken
      (λ w e.
      let inside = whole_within (drop p s) w in
      let a : p + value_start (drop p s) ≡ start = cc in
      let z : p + value_end (drop p s) ≡ end = cc in
      let size = length-drop p s in
      record { head = omega arith; order = omega arith; fits = omega arith })
      (λ w. none_broken)

  pub next_ahead : next_at s at ≡ Member tag start end → Ahead at start end (length s)
  unfolding next_at
  next_ahead =
      let p = at + fillers (drop at s) in
      picked Found (leb (length s) p) End (member_at s p)
      (λ e. none_at_end)
      (λ e. let high = leb-false (length s) p e in member_ahead p (le-add_right at _) high)
