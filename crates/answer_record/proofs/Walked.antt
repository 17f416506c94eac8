-- The walk that takes a record's objects: one step at a time, and what it comes to. Over a list it takes the members, in order; over bytes
-- that are none it ends with reason 3.
-- Assumes nothing.
use mathlib.Core.Path.{◌≡◌, refl, sym, ap, ◌∙◌}
use mathlib.Core.Bool.{true, false, false≢true}
use mathlib.Core.List.{List, map}
use Prim.Native.Nat.{ℕ, zero, suc, ◌+◌, ◌≤◌}
use native.Mathlib.Omega.{arith}
use lib.ListN.{length, drop, drop_of_length-le}
use Rattle.tlv_list.specs.Objects.{between, is_list}
use Rattle.tlv_list.specs.Place.{object_at, follow, walk, places_from, next_at, looked_into, checked_at}
use Rattle.tlv_head.specs.declared.Next.{Next}
use Rattle.tlv_head.specs.declared.Next.TheVariants.{Member, End, Broken}
use Rattle.tlv_list.proofs.Reading.{next_end}
use Rattle.tlv_list.proofs.Checked.{Step, ended, broke, member, step, checked_ahead}
use Rattle.answer_common.proofs.Members.{empty_list}
use Rattle.answer_record.specs.Taken.{Taken, taken, one_taken, objects_taken, taken_by, taken_walk, taken_from}

by_cong : (f g : ℕ → Taken → Taken) (names s : List ℕ) (k : Taken) (n : Next)
    → ((tag start end : ℕ) (j : Taken) → n ≡ Member tag start end → f end j ≡ g end j) → taken_by f names s k n ≡ taken_by g names s k n
unfolding taken_by
by_cong f g names s k (Member tag start end) h = h tag start end (one_taken names tag (between s start end) k) refl
by_cong f g names s k End h = refl
by_cong f g names s k Broken h = refl

-- nothing stands past the end
past : (s : List ℕ) (at : ℕ) → length s ≤ at → checked_at s at ≡ End
unfolding checked_at looked_into
past s at h = ap (looked_into s) (next_end s at h)

nothing_past : (n : ℕ) (names s : List ℕ) (at : ℕ) (k : Taken) → length s ≤ at → taken_walk n names s at k ≡ k
unfolding taken_walk taken_by
nothing_past zero names s at k h = refl
nothing_past (suc n) names s at k h = ap (taken_by (taken_walk n names s) names s k) (past s at h)

enough : (n m : ℕ) (names s : List ℕ) (at : ℕ) (k : Taken) → length s ≤ at + n → length s ≤ at + m
    → taken_walk n names s at k ≡ taken_walk m names s at k
unfolding taken_walk
enough zero m names s at k h j = sym (nothing_past m names s at k (omega arith))
enough (suc n) zero names s at k h j = nothing_past (suc n) names s at k (omega arith)
enough (suc n) (suc m) names s at k h j =
    by_cong (taken_walk n names s) (taken_walk m names s) names s k (checked_at s at)
    (λ tag start end x e. let ahead = checked_ahead s at tag start end e in enough n m names s end x (omega arith) (omega arith))

module _ (names s : List ℕ) (at : ℕ) (k : Taken) where
  pub taken_next : taken_from names s at k ≡ taken_by (taken_from names s) names s k (checked_at s at)
  unfolding taken_from taken_walk
  taken_next = enough (length s) (suc (length s)) names s at k (omega arith) (omega arith)

  found : (n : Next) → checked_at s at ≡ n → taken_from names s at k ≡ taken_by (taken_from names s) names s k n
  found n e = taken_next ∙ ap (taken_by (taken_from names s) names s k) e

  pub taken_end : checked_at s at ≡ End → taken_from names s at k ≡ k
  unfolding taken_by
  taken_end e = found End e

  pub taken_broken : checked_at s at ≡ Broken → taken_from names s at k ≡ taken 3 k.bytes
  unfolding taken_by
  taken_broken e = found Broken e

  pub taken_member : (tag start end : ℕ) → checked_at s at ≡ Member tag start end
      → taken_from names s at k ≡ taken_from names s end (one_taken names tag (between s start end) k)
  unfolding taken_by
  taken_member tag start end e = found (Member tag start end) e

  pub taken_past : length s ≤ at → taken_from names s at k ≡ k
  taken_past h = taken_end (past s at h)

module _ (names s : List ℕ) (short : length s ≤ 4096) where
  abbrev ByMembers : ℕ → ℕ → Type 0
  ByMembers n at =
      (k : Taken) → is_list (drop at s) ≡ true → taken_walk n names s at k ≡ objects_taken names (map (object_at s) (walk n s at)) k

  step_list : (n at : ℕ) (k : Taken) → is_list (drop at s) ≡ true → ((end : ℕ) → ByMembers n end) → {x : Next} → Step s at x
      → taken_by (taken_walk n names s) names s k x ≡ objects_taken names (map (object_at s) (follow (walk n s) (next_at s at))) k
  unfolding taken_by follow object_at objects_taken
  step_list n at k l again (ended e i) = sym (ap (λ y. objects_taken names (map (object_at s) (follow (walk n s) y)) k) e)
  step_list n at k l again (broke f) = absurd (false≢true (sym f ∙ l))
  step_list n at k l again (member {tag} {start} {end} e i) =
      again end (one_taken names tag (between s start end) k) (sym i ∙ l)
      ∙ sym (ap (λ y. objects_taken names (map (object_at s) (follow (walk n s) y)) k) e)

  in_list : (n at : ℕ) → ByMembers n at
  unfolding taken_walk walk objects_taken
  in_list zero at k l = refl
  in_list (suc n) at k l = step_list n at k l (in_list n) (step s at short)

  pub list_taken : (k : Taken) → is_list s ≡ true → taken_from names s 0 k ≡ objects_taken names (map (object_at s) (places_from s 0)) k
  unfolding taken_from places_from
  list_taken k l = in_list (length s) 0 k l

  abbrev Refuses : ℕ → ℕ → Type 0
  Refuses n at = (k : Taken) → length s ≤ at + n → is_list (drop at s) ≡ false → (taken_walk n names s at k).why ≡ 3

  step_none : (n at : ℕ) (k : Taken) → length s ≤ at + suc n → is_list (drop at s) ≡ false → ((end : ℕ) → Refuses n end)
      → {x : Next} → checked_at s at ≡ x → Step s at x → (taken_by (taken_walk n names s) names s k x).why ≡ 3
  unfolding taken_by taken
  step_none n at k h l again f (ended e i) = absurd (false≢true (sym l ∙ i))
  step_none n at k h l again f (broke i) = refl
  step_none n at k h l again f (member {tag} {start} {end} e i) =
      let ahead = checked_ahead s at tag start end f in
      again end (one_taken names tag (between s start end) k) (omega arith) (sym i ∙ l)

  no_list : (n at : ℕ) → Refuses n at
  unfolding taken_walk
  no_list zero at k h l = absurd (false≢true (sym l ∙ (ap is_list (drop_of_length-le s {i = at} (omega arith)) ∙ empty_list)))
  no_list (suc n) at k h l = step_none n at k h l (no_list n) refl (step s at short)

  pub none_taken : (k : Taken) → is_list s ≡ false → (taken_from names s 0 k).why ≡ 3
  unfolding taken_from
  none_taken k l = no_list (length s) 0 k (omega arith) l
