-- What an answer tells is a part of it: every object's value is taken from the bytes of its list, so an answer of bytes tells bytes.
-- Assumes nothing.
use mathlib.Core.Path.{◌≡◌, refl}
use mathlib.Core.Bool.{Bool, true, ◌&&◌}
use mathlib.Core.List.{List, [], ◌∷◌}
use mathlib.Core.Option
use mathlib.Core.Option.{Option, none, some}
use Prim.Native.Nat.{ℕ, zero, suc, ◌-◌}
use lib.Dec.{eqb}
use lib.ListN.{length, get_or, take, drop}
use lib.Pow.{are_bytes}
use Rattle.slices.specs.Shorter.{counted, shorter}
use Rattle.slices.proofs.Choice.{picked, and_left, and_right, and_both}
use Rattle.tape_crc.proofs.Bytes.{bytes_take, bytes_drop}
use Rattle.tlv_head.specs.Head.{value_start, value_end, whole}
use Rattle.tlv_list.specs.Objects.{Object, between, first_object, before, right_inside, listed, objects}
use Rattle.tlv_list.specs.Place.{data_field}
use Rattle.tlv_list.specs.Lookup.{Lookup, absent, once, twice, met, lookup}
use Rattle.answer_common.specs.Answer.{size_bad, only, outer, value_under, is_one, inside}
use Rattle.answer_common.specs.Named.{members_in, among, direct, told, value_of, listed as is_named}
use Rattle.answer_common.specs.Forms.{template, joined}
use Rattle.answer_gpo.specs.Options.{profile_of, locator_of}
use Rattle.answer_record.specs.Records.{value_in, named_in}
use Rattle.answer_common.specs.Content.{record_tag}

-- values of bytes, in all of some objects
unfoldable all_bytes : List Object → Bool
all_bytes [] = true
all_bytes (m ∷ ms) = are_bytes m.value && all_bytes ms

unfoldable any_bytes : Option (List Object) → Bool
any_bytes none = true
any_bytes (some ms) = all_bytes ms

between_bytes : (s : List ℕ) (a e : ℕ) → are_bytes s ≡ true → are_bytes (between s a e) ≡ true
unfolding between
between_bytes s a e h = bytes_take (e - a) (drop a s) (bytes_drop a s h)

before_bytes : (m : Object) (o : Option (List Object)) → are_bytes m.value ≡ true → any_bytes o ≡ true → any_bytes (before m o) ≡ true
unfolding before any_bytes all_bytes
before_bytes m none h k = refl
before_bytes m (some ms) h k = and_both (are_bytes m.value) (all_bytes ms) h k

listed_bytes : (f : List ℕ → Option (List Object)) → ((t : List ℕ) → are_bytes t ≡ true → any_bytes (f t) ≡ true) → (s : List ℕ)
    → are_bytes s ≡ true
    → any_bytes (listed f s) ≡ true
unfolding listed any_bytes all_bytes first_object
listed_bytes f h s b =
    let m = first_object s in
    picked (λ o. any_bytes o ≡ true) (eqb (length s) 0) (some []) _ (λ e. refl) (λ e.
    picked (λ o. any_bytes o ≡ true) (eqb (get_or s 0 0) 0) (f (drop 1 s)) _ (λ z. h (drop 1 s) (bytes_drop 1 s b)) (λ z.
    picked (λ o. any_bytes o ≡ true) (whole s && right_inside f m) (before m (f (drop (value_end s) s))) none
    (λ w. before_bytes m _ (between_bytes s (value_start s) (value_end s) b) (h (drop (value_end s) s) (bytes_drop (value_end s) s b)))
    (λ w. refl)))

counted_bytes : (n : ℕ) (s : List ℕ) → are_bytes s ≡ true → any_bytes (counted listed none n s) ≡ true
unfolding counted any_bytes
counted_bytes zero s h = refl
counted_bytes (suc n) s h = listed_bytes (counted listed none n) (counted_bytes n) s h

objects_bytes : (s : List ℕ) → are_bytes s ≡ true → any_bytes (objects s) ≡ true
unfolding objects shorter
objects_bytes s h = counted_bytes (suc (length s)) s h

-- ---- what is looked up

met_bytes : (v : List ℕ) (l : Lookup) → are_bytes v ≡ true → are_bytes (value_of (met v l)) ≡ true
unfolding met value_of told
met_bytes v absent h = h
met_bytes v (once w) h = refl
met_bytes v twice h = refl

looked_bytes : (tag : ℕ) (ms : List Object) → all_bytes ms ≡ true → are_bytes (value_of (lookup tag ms)) ≡ true
unfolding lookup all_bytes value_of told
looked_bytes tag [] h = refl
looked_bytes tag (m ∷ ms) h =
    picked (λ l. are_bytes (value_of l) ≡ true) (eqb m.tag tag) (met m.value (lookup tag ms)) (lookup tag ms)
    (λ y. met_bytes m.value (lookup tag ms) (and_left (are_bytes m.value) (all_bytes ms) h))
    (λ n. looked_bytes tag ms (and_right (are_bytes m.value) (all_bytes ms) h))

among_bytes : (s : List ℕ) (name : ℕ) → are_bytes s ≡ true → are_bytes (value_of (among s name)) ≡ true
unfolding among members_in any_bytes all_bytes
among_bytes s name h = go (objects s) (objects_bytes s h)
  where
    go : (o : Option (List Object)) → any_bytes o ≡ true → are_bytes (value_of (lookup name (Option.get_or o []))) ≡ true
    go none k = looked_bytes name [] refl
    go (some ms) k = looked_bytes name ms k

-- ---- and what an answer holds

under_bytes : (tag : ℕ) (o : Option (List Object)) → any_bytes o ≡ true → are_bytes (value_under tag (only o)) ≡ true
unfolding value_under only any_bytes all_bytes
under_bytes tag none h = refl
under_bytes tag (some []) h = refl
under_bytes tag (some (m ∷ [])) h =
    picked (λ v. are_bytes v ≡ true) (eqb m.tag tag) m.value [] (λ y. and_left (are_bytes m.value) true h) (λ n. refl)
under_bytes tag (some (m ∷ k ∷ ms)) h = refl

module _ (a : List ℕ) (h : are_bytes a ≡ true) where
  inside_bytes : (tag : ℕ) → are_bytes (inside tag a) ≡ true
  unfolding inside outer value_under data_field
  inside_bytes tag =
      picked (λ o. are_bytes (value_under tag o) ≡ true) (size_bad a) none (only (objects (data_field a)))
      (λ y. refl)
      (λ n. under_bytes tag (objects (data_field a)) (objects_bytes (data_field a) (bytes_take (length a - 2) a h)))

  direct_bytes : (tag name : ℕ) → are_bytes (value_of (direct tag a name)) ≡ true
  unfolding direct
  direct_bytes tag name = among_bytes (inside tag a) name (inside_bytes tag)

  pub profile_bytes : are_bytes (profile_of a) ≡ true
  unfolding profile_of
  profile_bytes =
      picked (λ v. are_bytes v ≡ true) (is_one joined a) (take 2 (inside joined a)) (value_of (direct template a 0x82))
      (λ y. bytes_take 2 (inside joined a) (inside_bytes joined))
      (λ n. direct_bytes template 0x82)

  pub locator_bytes : are_bytes (locator_of a) ≡ true
  unfolding locator_of
  locator_bytes =
      picked (λ v. are_bytes v ≡ true) (is_one joined a) (drop 2 (inside joined a)) (value_of (direct template a 0x94))
      (λ y. bytes_drop 2 (inside joined a) (inside_bytes joined))
      (λ n. direct_bytes template 0x94)

  pub named_bytes : (names : List ℕ) (name : ℕ) → are_bytes (Option.get_or (named_in names name a) []) ≡ true
  unfolding named_in value_in value_of
  named_bytes names name =
      picked (λ o. are_bytes (Option.get_or o []) ≡ true) (is_named name names) (value_in name a) none
      (λ y. direct_bytes record_tag name)
      (λ n. refl)
