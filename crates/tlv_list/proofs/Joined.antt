-- Two lists one after the other are one list: the objects of the first, then those of the second. A whole object's head is
-- read from its own bytes alone, so what follows it does not matter.
-- Assumes nothing.
use mathlib.Core.Path.{◌≡◌, refl, sym, ap, ap₂, ◌∙◌}
use mathlib.Core.Bool.{Bool, true, false, not, ◌&&◌}
use mathlib.Core.List.{List, [], ◌∷◌, ◌++◌}
use mathlib.Core.Option.{Option, none, some}
use Prim.Native.Nat.{ℕ, ◌+◌, ◌*◌, ◌-◌, ◌<◌}
use native.Mathlib.Nat.{le_refl}
use native.Mathlib.Omega.{arith}
use lib.Dec.{ltb, leb, eqb}
use lib.ListN.{length, get_or, take, drop, length-append, length-drop, get_or-append}
use lib.Seq.{take-append-le, drop-append-le}
use borrow.Author.Tests.{le-leb, eqb-false, eqb-true, not-true}
use Rattle.slices.specs.Choice.{pick}
use Rattle.slices.proofs.Choice.{pick_yes, pick_no, pick_cong, either, and_left, and_right}
use Rattle.slices.proofs.Shorter.{by_length}
use Rattle.tlv_head.specs.Head.{two_bytes, tag_size, tag_of, tag_right, length_byte, length_form}
use Rattle.tlv_head.specs.Head.{length_size, length_of, value_start, value_end, whole}
use Rattle.tlv_list.specs.Objects.{Object, between, first_object, before, right_inside, objects}
use Rattle.tlv_head.proofs.Parts.{Within, whole_within}
use Rattle.tlv_list.proofs.Objects.{objects_empty, objects_filler, objects_member, objects_broken}

-- the length forms, told by their sizes
form_one : (b : ℕ) → ltb b 0x80 ≡ false → eqb b 0x81 ≡ true → length_form b ≡ 2
unfolding length_form
form_one b small e = pick_no _ _ _ small ∙ pick_yes _ _ _ e

form_two : (b : ℕ) → ltb b 0x80 ≡ false → eqb b 0x81 ≡ false → (length_form b ≡ 0 → ⊥) → length_form b ≡ 3
unfolding length_form
form_two b small e legal =
    let here = pick_no _ _ _ small ∙ pick_no _ _ _ e in
    either (eqb b 0x82) (λ y. here ∙ pick_yes _ _ _ y) (λ n. absurd (legal (here ∙ pick_no _ _ _ n)))

module _ (a b : List ℕ) (w : whole a ≡ true) where
  inside : Within (value_start a) (value_end a) (length a)
  inside = whole_within a w

  legal : length_size a ≡ 0 → ⊥
  unfolding whole
  legal = eqb-false _ _ (not-true _ (and_left _ _ (and_right (tag_right a) _ w)))

  same : (i : ℕ) → i < length a → get_or (a ++ b) i 0 ≡ get_or a i 0
  same i h = get_or-append a b 0 i h

  same_first : get_or (a ++ b) 0 0 ≡ get_or a 0 0
  same_first = let h = inside in same 0 (omega arith)

  same_second : get_or (a ++ b) 1 0 ≡ get_or a 1 0
  same_second = let h = inside in same 1 (omega arith)

  same_tag_size : tag_size (a ++ b) ≡ tag_size a
  unfolding tag_size
  same_tag_size = ap (λ (f : ℕ). pick (two_bytes f) 2 1) same_first

  same_tag : tag_of (a ++ b) ≡ tag_of a
  unfolding tag_of
  same_tag = ap₂ (λ (f g : ℕ). pick (two_bytes f) (256 * f + g) f) same_first same_second

  same_right : tag_right (a ++ b) ≡ tag_right a
  unfolding tag_right
  same_right = ap₂ (λ (f g : ℕ). pick (eqb f 0) false (pick (two_bytes f) (ltb g 0x80) true)) same_first same_second

  -- a byte of the head after the tag
  same_later : (k : ℕ) → k < length_size a → get_or (a ++ b) (tag_size (a ++ b) + k) 0 ≡ get_or a (tag_size a + k) 0
  unfolding value_start
  same_later k h =
      let i = inside in
      ap (λ (n : ℕ). get_or (a ++ b) (n + k) 0) same_tag_size ∙ same (tag_size a + k) (omega arith)

  same_byte : length_byte (a ++ b) ≡ length_byte a
  unfolding length_byte value_start
  same_byte =
      let i = inside in
      ap (λ (n : ℕ). get_or (a ++ b) n 0) same_tag_size ∙ same (tag_size a) (let l = legal in omega arith)

  same_size : length_size (a ++ b) ≡ length_size a
  unfolding length_size
  same_size = ap length_form same_byte

  same_length : length_of (a ++ b) ≡ length_of a
  unfolding length_of length_size
  same_length =
      ap (λ (f : ℕ). pick (ltb f 0x80) f
      (pick (eqb f 0x81) (get_or (a ++ b) (tag_size (a ++ b) + 1) 0)
      (256 * get_or (a ++ b) (tag_size (a ++ b) + 1) 0 + get_or (a ++ b) (tag_size (a ++ b) + 2) 0))) same_byte
      ∙ pick_cong (ltb (length_byte a) 0x80) _ _ _ _ (λ e. refl) (λ small.
      pick_cong (eqb (length_byte a) 0x81) _ _ _ _
      (λ e. let n = form_one (length_byte a) small e in same_later 1 (omega arith))
      (λ e.
      let n = form_two (length_byte a) small e legal in
      ap₂ (λ (x y : ℕ). 256 * x + y) (same_later 1 (omega arith)) (same_later 2 (omega arith))))

  same_start : value_start (a ++ b) ≡ value_start a
  unfolding value_start
  same_start = ap₂ ◌+◌ same_tag_size same_size

  same_end : value_end (a ++ b) ≡ value_end a
  unfolding value_end
  same_end = ap₂ ◌+◌ same_start same_length

  still_whole : whole (a ++ b) ≡ true
  unfolding whole
  still_whole =
      let i = inside in
      let long = length-append a b in
      let fits : leb (value_end (a ++ b)) (length (a ++ b)) ≡ true =
      le-leb (value_end (a ++ b)) (length (a ++ b)) (let e = same_end in omega arith) in
      rw (same_right, same_size, fits)
      (and_all (tag_right a) (not (eqb (length_size a) 0)) (and_left _ _ w) (and_left _ _ (and_right (tag_right a) _ w)))
    where
      and_all : (x y : Bool) → x ≡ true → y ≡ true → (x && (y && true)) ≡ true
      and_all x y e f = rw (e, f)

  same_object : first_object (a ++ b) ≡ first_object a
  unfolding first_object between
  same_object =
      let i = inside in
      let there : take (value_end a - value_start a) (drop (value_start a) (a ++ b))
      ≡ take (value_end a - value_start a) (drop (value_start a) a)
      = ap (take (value_end a - value_start a)) (drop-append-le (value_start a) a b (omega arith))
      ∙ take-append-le (value_end a - value_start a) (drop (value_start a) a) b (rw length-drop (omega arith)) in
      rw (same_tag, same_start, same_end, there)

  same_rest : drop (value_end (a ++ b)) (a ++ b) ≡ drop (value_end a) a ++ b
  same_rest = ap (λ (n : ℕ). drop n (a ++ b)) same_end ∙ drop-append-le (value_end a) a b inside.fits

-- objects before others, where those are a list
unfoldable pub together : List Object → Option (List Object) → Option (List Object)
together xs none = none
together xs (some ys) = some (xs ++ ys)

together_before : (m : Object) (xs : List Object) (o : Option (List Object)) → before m (together xs o) ≡ together (m ∷ xs) o
unfolding before together
together_before m xs none = refl
together_before m xs (some ys) = refl

together_none : (o : Option (List Object)) → together [] o ≡ o
unfolding together
together_none none = refl
together_none (some ys) = refl

Joins : List ℕ → Type 0
Joins a = (b : List ℕ) (xs : List Object) → objects a ≡ some xs → objects (a ++ b) ≡ together xs (objects b)

-- where an object is due at the front of the first list
module _ (a b : List ℕ) (xs : List Object) (due : eqb (get_or a 0 0) 0 ≡ false) (some_bytes : 0 < length a)
    (later : (t : List ℕ) → length t < length a → Joins t) where
  m : Object
  m = first_object a

  rest : List ℕ
  rest = drop (value_end a) a

  on_rest : whole a ≡ true → right_inside objects m ≡ true → (o : Option (List Object)) → objects rest ≡ o → before m o ≡ some xs
      → before m (objects (rest ++ b)) ≡ together xs (objects b)
  unfolding before Joins rest
  on_rest w r none e f = absurd (let z : ◌≡◌ {A = ℕ} 0 1 = cc in omega arith)
  on_rest w r (some ys) e f =
      let i = whole_within a w in
      let less : length rest < length a = rw length-drop (omega arith) in
      let first : m ∷ ys ≡ xs = cc in
      ap (before m) (later rest less b ys e)
      ∙ (together_before m ys (objects b) ∙ ap (λ (l : List Object). together l (objects b)) first)

  on_whole : whole a ≡ true → objects a ≡ some xs → objects (a ++ b) ≡ together xs (objects b)
  unfolding m rest
  on_whole w e =
      let here = sym (objects_member a due some_bytes w) ∙ e in
      let more = length-append a b in
      let there = objects_member (a ++ b) (ap (λ (n : ℕ). eqb n 0) (same_first a b w) ∙ due) (omega arith) (still_whole a b w) in
      either (right_inside objects m)
      (λ r.
      there
      ∙ (rw (same_object a b w, same_rest a b w)
      (pick_yes _ _ _ r ∙ on_rest w r (objects rest) refl (sym (pick_yes _ _ _ r) ∙ here))))
      (λ r. absurd (let none_there = sym (pick_no _ _ _ r) ∙ here in let z : ◌≡◌ {A = ℕ} 0 1 = cc in omega arith))

  on_due : objects a ≡ some xs → objects (a ++ b) ≡ together xs (objects b)
  on_due e =
      either (whole a)
      (λ w. on_whole w e)
      (λ w. absurd (let none_there = objects_broken a due some_bytes w in let z : ◌≡◌ {A = ℕ} 0 1 = cc in omega arith))

turn : (a : List ℕ) → ((t : List ℕ) → length t < length a → Joins t) → Joins a
unfolding Joins
turn [] later b xs e =
    let nothing : xs ≡ [] = cc objects_empty in
    sym (ap (λ (l : List Object). together l (objects b)) nothing ∙ together_none (objects b))
turn (c ∷ a) later b xs e =
    either (eqb c 0)
    (λ y.
    let zero' = eqb-true c 0 y in
    let here : objects a ≡ some xs = sym (ap (λ (n : ℕ). objects (n ∷ a)) zero' ∙ objects_filler a) ∙ e in
    ap (λ (n : ℕ). objects (n ∷ (a ++ b))) zero' ∙ (objects_filler (a ++ b) ∙ later a (le_refl _) b xs here))
    (λ n. on_due (c ∷ a) b xs n (omega arith) later e)

-- the members of two lists in a row are those of the first, then those of the second
pub objects_joined : (a b : List ℕ) (xs ys : List Object) → objects a ≡ some xs → objects b ≡ some ys → objects (a ++ b) ≡ some (xs ++ ys)
unfolding Joins together
objects_joined a b xs ys e f = by_length Joins turn a b xs e ∙ ap (together xs) f
