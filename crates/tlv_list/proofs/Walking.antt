-- The walk by place finds exactly the members of a list, in order, and a look-up by place finds what a look-up among the
-- members finds. Each step of the walk goes ahead, so as many steps as there are bytes reach the end.
-- Assumes nothing.
use mathlib.Core.Path.{◌≡◌, refl, sym, ap, ◌∙◌}
use mathlib.Core.List.{List, [], ◌∷◌, map}
use mathlib.Core.Option.{Option, none, some}
use Prim.Native.Nat.{ℕ, zero, suc, ◌+◌, ◌≤◌}
use native.Mathlib.Omega.{arith}
use lib.Dec.{eqb}
use lib.ListN.{length, drop, drop_of_length-le}
use Rattle.slices.proofs.Choice.{pick_yes, pick_no, picked, either}
use Rattle.tlv_list.specs.Objects.{Object, between, before, right_inside, objects}
use Rattle.tlv_list.specs.Place.{Place, object_at, follow, walk, places_from, next_at}
use Rattle.tlv_list.specs.Lookup.{Lookup, absent, once, twice, met, lookup, first_among}
use Rattle.tlv_list.specs.Lookup.{first_from, unless, alone, find_in_checked, found_value}
use Rattle.tlv_head.specs.declared.Next.{Next}
use Rattle.tlv_head.specs.declared.Next.TheVariants.{Member, End, Broken}
use Rattle.tlv_list.specs.declared.Found.{Found}
use Rattle.tlv_list.proofs.Objects.{objects_empty}
use Rattle.tlv_list.proofs.Reading.{following, objects_next, next_end, next_ahead}

follow_cong : (f g : ℕ → List Place) (n : Next) → ((tag start end : ℕ) → n ≡ Member tag start end → f end ≡ g end) → follow f n ≡ follow g n
unfolding follow
follow_cong f g (Member tag start end) h =
    ap (λ (ps : List Place). record { tag = tag; start = start; end = end } ∷ ps) (h tag start end refl)
follow_cong f g End h = refl
follow_cong f g Broken h = refl

nothing_past : (n : ℕ) (s : List ℕ) (at : ℕ) → length s ≤ at → walk n s at ≡ []
unfolding walk follow
nothing_past zero s at h = refl
nothing_past (suc n) s at h = ap (follow (walk n s)) (next_end s at h)

-- any two numbers of steps that reach the end find the same
pub enough : (n m : ℕ) (s : List ℕ) (at : ℕ) → length s ≤ at + n → length s ≤ at + m → walk n s at ≡ walk m s at
unfolding walk
enough zero m s at h k = sym (nothing_past m s at (omega arith))
enough (suc n) zero s at h k = nothing_past (suc n) s at (omega arith)
enough (suc n) (suc m) s at h k =
    follow_cong (walk n s) (walk m s) (next_at s at)
    (λ tag start end e. let ahead = next_ahead s at tag start end e in enough n m s end (omega arith) (omega arith))

pub places_next : (s : List ℕ) (at : ℕ) → places_from s at ≡ follow (places_from s) (next_at s at)
unfolding places_from walk
places_next s at = enough (length s) (suc (length s)) s at (omega arith) (omega arith)

module _ (s : List ℕ) (n : ℕ) (ms : List Object) where
  -- what the walk finds after a member, where it finds the right objects after it
  on_member : (m : Object) (o : Option (List Object)) (ps : List Place) → before m o ≡ some ms
      → ((rest : List Object) → o ≡ some rest → map (object_at s) ps ≡ rest) → m ∷ map (object_at s) ps ≡ ms
  unfolding before
  on_member m none ps e h = absurd (let z : ◌≡◌ {A = ℕ} 0 1 = cc in omega arith)
  on_member m (some rest) ps e h = ap (λ (r : List Object). m ∷ r) (h rest refl) ∙ (cc)

  members_step : (at : ℕ) (x : Next) → next_at s at ≡ x → length s ≤ at + suc n → following s x ≡ some ms
      → ((end : ℕ) (rest : List Object) → length s ≤ end + n → objects (drop end s) ≡ some rest → map (object_at s) (walk n s end) ≡ rest)
      → map (object_at s) (follow (walk n s) x) ≡ ms
  unfolding following follow object_at
  members_step at (Member tag start end) e h f again =
      let m : Object = record { tag = tag; value = between s start end } in
      let ahead = next_ahead s at tag start end e in
      picked (λ o. o ≡ some ms → m ∷ map (object_at s) (walk n s end) ≡ ms) (right_inside objects m) (before m (objects (drop end s))) none
      (λ r g. on_member m (objects (drop end s)) (walk n s end) g (λ rest. again end rest (omega arith)))
      (λ r g. absurd (let z : ◌≡◌ {A = ℕ} 0 1 = cc in omega arith))
      f
  members_step at End e h f again = cc
  members_step at Broken e h f again = absurd (let z : ◌≡◌ {A = ℕ} 0 1 = cc in omega arith)

members_walk : (s : List ℕ) (n at : ℕ) (ms : List Object) → length s ≤ at + n → objects (drop at s) ≡ some ms
    → map (object_at s) (walk n s at) ≡ ms
unfolding walk
members_walk s zero at ms h e =
    let none_left : objects (drop at s) ≡ some [] = ap objects (drop_of_length-le s {i = at} (omega arith)) ∙ objects_empty in
    cc
members_walk s (suc n) at ms h e =
    members_step s n ms at (next_at s at) refl h (sym (objects_next s at) ∙ e) (λ end rest k f. members_walk s n end rest k f)

-- the reader by place walks exactly the members, in order
pub places_members : (s : List ℕ) (ms : List Object) → objects s ≡ some ms → map (object_at s) (places_from s 0) ≡ ms
unfolding places_from
places_members s ms e = members_walk s (length s) 0 ms (omega arith) e

met_twice : (v w : List ℕ) (l : Lookup) → met v (met w l) ≡ twice
unfolding met
met_twice v w absent = refl
met_twice v w (once x) = refl
met_twice v w twice = refl

module _ (s : List ℕ) (tag : ℕ) where
  -- after one with the tag, a look-up of the others says whether it stands alone
  others : (a e : ℕ) (ps : List Place)
      → met (between s a e) (lookup tag (map (object_at s) ps)) ≡ found_value s (unless a e (first_among tag ps))
  unfolding lookup first_among object_at met found_value unless
  others a e [] = refl
  others a e (p ∷ ps) =
      either (eqb p.tag tag)
      (λ y.
      ap (met (between s a e)) (pick_yes _ _ _ y)
      ∙ (met_twice (between s a e) (between s p.start p.end) (lookup tag (map (object_at s) ps))
      ∙ sym (ap (λ (f : Found). found_value s (unless a e f)) (pick_yes _ _ _ y))))
      (λ n.
      ap (met (between s a e)) (pick_no _ _ _ n)
      ∙ (others a e ps ∙ sym (ap (λ (f : Found). found_value s (unless a e f)) (pick_no _ _ _ n))))

  again : ℕ → Found
  again end = first_from s end tag

  lookup_step : (n at : ℕ) (x : Next) → next_at s at ≡ x → length s ≤ at + suc n
      → ((end : ℕ) → length s ≤ end + n
      → lookup tag (map (object_at s) (walk n s end)) ≡ found_value s (alone again (first_among tag (walk n s end))))
      → lookup tag (map (object_at s) (follow (walk n s) x)) ≡ found_value s (alone again (first_among tag (follow (walk n s) x)))
  unfolding lookup first_among object_at follow alone again first_from places_from found_value
  lookup_step n at (Member t start end) e h rest =
      let ahead = next_ahead s at t start end e in
      let all : walk n s end ≡ places_from s end = enough n (length s) s end (omega arith) (omega arith) in
      either (eqb t tag)
      (λ y.
      pick_yes _ _ _ y
      ∙ (others start end (walk n s end)
      ∙ (ap (λ (ps : List Place). found_value s (unless start end (first_among tag ps))) all
      ∙ sym (ap (λ (f : Found). found_value s (alone again f)) (pick_yes _ _ _ y)))))
      (λ m.
      pick_no _ _ _ m ∙ (rest end (omega arith) ∙ sym (ap (λ (f : Found). found_value s (alone again f)) (pick_no _ _ _ m))))
  lookup_step n at End e h rest = refl
  lookup_step n at Broken e h rest = refl

  lookup_walk : (n at : ℕ) → length s ≤ at + n
      → lookup tag (map (object_at s) (walk n s at)) ≡ found_value s (alone again (first_among tag (walk n s at)))
  unfolding walk lookup first_among alone found_value
  lookup_walk zero at h = refl
  lookup_walk (suc n) at h = lookup_step n at (next_at s at) refl h (λ end k. lookup_walk n end k)

  -- a look-up by place finds what a look-up among the members finds
  pub find_lookup : (ms : List Object) → objects s ≡ some ms → lookup tag ms ≡ found_value s (find_in_checked s tag)
  unfolding find_in_checked first_from places_from again
  find_lookup ms e = ap (lookup tag) (sym (places_members s ms e)) ∙ lookup_walk (length s) 0 (omega arith)
