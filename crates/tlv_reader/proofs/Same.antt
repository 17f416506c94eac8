-- The held reader gives the same objects as the walk by place: those of the list, tags and values, in order. 01, "Data objects".
-- Assumes nothing.
use mathlib.Core.Path.{◌≡◌, refl, sym, ap, ◌∙◌}
use mathlib.Core.List.{List, [], ◌∷◌, map}
use mathlib.Core.Option.{none, some}
use Prim.Native.Nat.{ℕ, zero, suc}
use lib.ListN.{length}
use denote.Ref.{Bor}
use Rattle.tlv_list.specs.Objects.{Object, between, objects}
use Rattle.tlv_list.specs.Place.{Place, next_at, object_at, follow, walk, places_from}
use Rattle.tlv_head.specs.declared.Next.{Next}
use Rattle.tlv_head.specs.declared.Next.TheVariants.{Member, End, Broken}
use Rattle.tlv_list.proofs.Walking.{places_next, places_members}
use Rattle.tlv_reader.specs.Held.{go_on, place_after, value_in, value_at, next_of, value_of}
use Rattle.tlv_reader.specs.Held.{moved_on, nth_from, object_in, nth, given, given_in, all_given}
use Rattle.tlv_reader.specs.declared.Reader.{Reader}

-- one step of a reader beside one step of the walk, where both find the same from there on
step_same : (s : List ℕ) (at : ℕ) (x : Next) (others : List Object) (on : ℕ → List Place)
    → others ≡ map (object_at s) (on (go_on at x)) → given x (value_in s x) others ≡ map (object_at s) (follow on x)
unfolding given value_in follow object_at go_on
step_same s at (Member tag start end) others on e =
    ap (λ (os : List Object). record { tag = tag; value = between s start end } ∷ os) e
step_same s at End others on e = refl
step_same s at Broken others on e = refl

steps_same : (n : ℕ) (r : Reader) → given_in n r ≡ map (object_at r.src.now) (walk n r.src.now r.at)
unfolding given_in walk value_at place_after
steps_same zero r = refl
steps_same (suc n) r =
    let s = r.src.now in
    step_same s r.at (next_at s r.at) (given_in n (moved_on r)) (walk n s) (steps_same n (moved_on r))

-- from any place: the objects at the places that the walk finds from there
pub from_place : (r : Reader) → all_given r ≡ map (object_at r.src.now) (places_from r.src.now r.at)
unfolding all_given places_from
from_place r = steps_same (length r.src.now) r

-- asked once and moved on, a reader gives the rest
pub one_by_one : (r : Reader) → all_given r ≡ given (next_of r) (value_of r) (all_given (moved_on r))
unfolding value_at place_after
one_by_one r =
    let s = r.src.now in
    from_place r
    ∙ (ap (map (object_at s)) (places_next s r.at)
    ∙ sym (step_same s r.at (next_at s r.at) (all_given (moved_on r)) (places_from s) (from_place (moved_on r))))

-- a reader as `Reader::new` promises it, on the bytes of a list, gives exactly the list's objects
pub same_objects : (s : Bor (List ℕ)) (r : Reader) → (r.src ≡ s) × (r.at ≡ 0)
    → (ms : List Object) → objects s.now ≡ some ms → all_given r ≡ ms
same_objects s r new ms e =
    from_place r
    ∙ (ap (λ (t : Bor (List ℕ)). map (object_at t.now) (places_from t.now r.at)) new.0
    ∙ (ap (λ (n : ℕ). map (object_at s.now) (places_from s.now n)) new.1
    ∙ places_members s.now ms e))

module _ (s : List ℕ) where
  nth_none : (n at : ℕ) (x : Next) → follow (places_from s) x ≡ [] → next_at s at ≡ x → nth n (map (object_at s) (places_from s at)) ≡ none
  unfolding nth
  nth_none n at x f e =
      ap (λ (ps : List Place). nth n (map (object_at s) ps)) (places_next s at ∙ (ap (follow (places_from s)) e ∙ f))

  nth_step : (n at : ℕ) (x : Next) → next_at s at ≡ x
      → ((p : ℕ) → object_in s (nth_from n s p) ≡ nth n (map (object_at s) (places_from s p)))
      → object_in s (nth_from n s (go_on at x)) ≡ nth (suc n) (map (object_at s) (follow (places_from s) x))
  unfolding nth go_on follow
  nth_step n at (Member tag start end) e again = again end
  nth_step n at End e again = again at ∙ nth_none n at End refl e
  nth_step n at Broken e again = again at ∙ nth_none n at Broken refl e

  nth_first : (x : Next) → object_in s x ≡ nth 0 (map (object_at s) (follow (places_from s) x))
  unfolding object_in nth follow object_at
  nth_first (Member tag start end) = refl
  nth_first End = refl
  nth_first Broken = refl

  nth_walk : (n at : ℕ) → object_in s (nth_from n s at) ≡ nth n (map (object_at s) (places_from s at))
  unfolding nth_from place_after
  nth_walk zero at = nth_first (next_at s at) ∙ sym (ap (λ (ps : List Place). nth 0 (map (object_at s) ps)) (places_next s at))
  nth_walk (suc n) at =
      nth_step n at (next_at s at) refl (nth_walk n)
      ∙ sym (ap (λ (ps : List Place). nth (suc n) (map (object_at s) ps)) (places_next s at))

  -- what `object_at` finds is the list's object with n others before it, and nothing past the last
  pub nth_same : (n : ℕ) (ms : List Object) → objects s ≡ some ms → object_in s (nth_from n s 0) ≡ nth n ms
  nth_same n ms e = nth_walk n 0 ∙ ap (nth n) (places_members s ms e)
