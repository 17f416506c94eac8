-- What is noted of an object's members answers every question that is asked of them: what stands under a name that counts, and whether
-- one of the others is there; and it does not depend on the values of these.
-- Assumes nothing.
use mathlib.Core.Path.{◌≡◌, refl, sym, ap, ap₂, ◌∙◌}
use mathlib.Core.Bool.{Bool, true, false, false≢true}
use mathlib.Core.List.{List, [], ◌∷◌, ◌++◌}
use Prim.Native.Nat.{ℕ}
use lib.Dec.{eqb}
use borrow.Author.Tests.{eqb-true, ne_eqb, eqb-false}
use Rattle.slices.specs.Choice.{pick}
use Rattle.slices.specs.Tables.{any_of}
use Rattle.slices.proofs.Choice.{pick_yes, pick_no, pick_ap, either}
use Rattle.tlv_list.specs.Objects.{Object}
use Rattle.tlv_list.specs.Lookup.{Lookup, absent, once, twice, met, lookup}
use Rattle.answer_common.specs.Named.{listed, named, times}
use Rattle.answer_common.proofs.Alike.{listed_first, listed_also}
use Rattle.answer_common.proofs.Names.{listed_more}
use Rattle.card_seen.specs.Seen.{object, present, noted}
use Rattle.card_seen.proofs.Looking.{bump, met_bump, lookup_named}

-- ---- what is noted is noted of the named ones alone

abbrev Also : List ℕ → List ℕ → Type 0
Also names more = (name : ℕ) → listed name names ≡ true → listed name more ≡ true

behind : (x y : List ℕ) → Also y (x ++ y)
behind [] y name l = l
behind (n ∷ x) y name l = listed_also name n (x ++ y) (behind x y name l)

named_less : (names more : List ℕ) → Also names more → (ms : List Object) → named names (named more ms) ≡ named names ms
unfolding named
named_less names more also [] = refl
named_less names more also (m ∷ ms) =
    let rest = named_less names more also ms in
    either (listed m.tag names)
    (λ y.
    ap (named names) (pick_yes _ _ _ (also m.tag y))
    ∙ (pick_yes _ _ _ y ∙ (ap (λ (os : List Object). m ∷ os) rest ∙ sym (pick_yes _ _ _ y))))
    (λ n.
    either (listed m.tag more)
    (λ y. ap (named names) (pick_yes _ _ _ y) ∙ (pick_no _ _ _ n ∙ (rest ∙ sym (pick_no _ _ _ n))))
    (λ k. ap (named names) (pick_no _ _ _ k) ∙ (rest ∙ sym (pick_no _ _ _ n))))

present_named : (names more : List ℕ) → Also names more → (ms : List Object) → present names (named more ms) ≡ present names ms
unfolding present
present_named [] more also ms = refl
present_named (n ∷ ns) more also ms =
    let rest = present_named ns more (λ name l. also name (listed_also name n ns l)) ms in
    ap₂ (λ (l : Lookup) (os : List Object). pick (eqb (times l) 0) os (object n [] ∷ os))
    (lookup_named more n (also n (listed_first n ns)) ms) rest

pub noted_named : (names others : List ℕ) (ms : List Object) → noted names others (named (names ++ others) ms) ≡ noted names others ms
unfolding noted
noted_named names others ms =
    ap₂ (λ (x y : List Object). x ++ y) (named_less names (names ++ others) (λ name l. listed_more name names others l) ms)
    (present_named others (names ++ others) (behind names others) ms)

-- ---- look-ups among two runs of objects

met_there : (v : List ℕ) (l : Lookup) → eqb (times (met v l)) 0 ≡ false
unfolding met times
met_there v absent = refl
met_there v (once w) = refl
met_there v twice = refl

none_there : (l : Lookup) → l ≡ absent → eqb (times l) 0 ≡ true
unfolding times
none_there l e = ap (λ (k : Lookup). eqb (times k) 0) e

in_first : (name : ℕ) (xs ys : List Object) → lookup name ys ≡ absent → lookup name (xs ++ ys) ≡ lookup name xs
unfolding lookup
in_first name [] ys e = e
in_first name (m ∷ xs) ys e = ap (λ (l : Lookup). pick (eqb m.tag name) (met m.value l) l) (in_first name xs ys e)

in_second : (name : ℕ) (xs ys : List Object) → lookup name xs ≡ absent → lookup name (xs ++ ys) ≡ lookup name ys
unfolding lookup
in_second name [] ys e = refl
in_second name (m ∷ xs) ys e =
    either (eqb m.tag name)
    (λ y. absurd (false≢true (sym (met_there m.value (lookup name xs)) ∙ none_there _ (sym (pick_yes _ _ _ y) ∙ e))))
    (λ n. pick_no _ _ _ n ∙ in_second name xs ys (sym (pick_no _ _ _ n) ∙ e))

-- ---- names that are not among those kept

unlisted : (tag name : ℕ) (names : List ℕ) → listed tag names ≡ true → listed name names ≡ false → eqb tag name ≡ false
unlisted tag name names l n =
    either (eqb tag name) (λ z. absurd (false≢true (sym n ∙ (ap (λ (t : ℕ). listed t names) (sym (eqb-true _ _ z)) ∙ l)))) (λ f. f)

not_named : (name : ℕ) (names : List ℕ) → listed name names ≡ false → (ms : List Object) → lookup name (named names ms) ≡ absent
unfolding named lookup
not_named name names n [] = refl
not_named name names n (m ∷ ms) =
    let rest = not_named name names n ms in
    either (listed m.tag names)
    (λ y. ap (lookup name) (pick_yes _ _ _ y) ∙ (pick_no _ _ _ (unlisted m.tag name names y n) ∙ rest))
    (λ k. ap (lookup name) (pick_no _ _ _ k) ∙ rest)

module _ (name : ℕ) (ms : List Object) where
  -- a note of another name is passed over
  passed : (n : ℕ) (test : Bool) (os : List Object) → eqb n name ≡ false
      → lookup name (pick test os (object n [] ∷ os)) ≡ lookup name os
  unfolding lookup
  passed n test os k =
      either test (λ y. ap (lookup name) (pick_yes _ _ _ y)) (λ f. ap (lookup name) (pick_no _ _ _ f) ∙ pick_no _ _ _ k)

  other_way : (n : ℕ) (ns : List ℕ) → listed name (n ∷ ns) ≡ false → (eqb n name ≡ false) × (listed name ns ≡ false)
  unfolding listed any_of
  other_way n ns l =
      either (eqb name n)
      (λ y. absurd (false≢true (sym l ∙ pick_yes _ _ _ y)))
      (λ k. (ne_eqb n name (λ e. eqb-false name n k (sym e)), sym (pick_no _ _ _ k) ∙ l))

  not_noted : (ns : List ℕ) → listed name ns ≡ false → lookup name (present ns ms) ≡ absent
  unfolding present lookup
  not_noted [] l = refl
  not_noted (n ∷ ns) l =
      let o = other_way n ns l in
      passed n (eqb (times (lookup n ms)) 0) (present ns ms) o.0 ∙ not_noted ns o.1

  at_name : (n : ℕ) → eqb n name ≡ true → eqb (times (lookup n ms)) 0 ≡ eqb (times (lookup name ms)) 0
  at_name n z = ap (λ (k : ℕ). eqb (times (lookup k ms)) 0) (eqb-true n name z)

  none_noted : (ns : List ℕ) → eqb (times (lookup name ms)) 0 ≡ true → lookup name (present ns ms) ≡ absent
  unfolding present lookup
  none_noted [] t = refl
  none_noted (n ∷ ns) t =
      either (eqb n name)
      (λ z. ap (lookup name) (pick_yes _ _ _ (at_name n z ∙ t)) ∙ none_noted ns t)
      (λ k. passed n (eqb (times (lookup n ms)) 0) (present ns ms) k ∙ none_noted ns t)

  one_noted : (ns : List ℕ) → listed name ns ≡ true → eqb (times (lookup name ms)) 0 ≡ false
      → eqb (times (lookup name (present ns ms))) 0 ≡ false
  unfolding present lookup listed any_of
  one_noted [] l t = absurd (false≢true l)
  one_noted (n ∷ ns) l t =
      either (eqb n name)
      (λ z.
      ap (λ (os : List Object). eqb (times (lookup name os)) 0) (pick_no _ _ _ (at_name n z ∙ t))
      ∙ (ap (λ (k : Lookup). eqb (times k) 0) (pick_yes _ _ _ z) ∙ met_there [] (lookup name (present ns ms))))
      (λ k.
      ap (λ (x : Lookup). eqb (times x) 0) (passed n (eqb (times (lookup n ms)) 0) (present ns ms) k)
      ∙ one_noted ns (sym (pick_no _ _ _ (ne_eqb name n (λ e. eqb-false n name k (sym e)))) ∙ l) t)

  -- ---- both questions

  pub noted_value : (names others : List ℕ) → listed name names ≡ true → listed name others ≡ false
      → lookup name (noted names others ms) ≡ lookup name ms
  unfolding noted
  noted_value names others l n =
      in_first name (named names ms) (present others ms) (not_noted others n) ∙ lookup_named names name l ms

  pub noted_there : (names others : List ℕ) → listed name others ≡ true → listed name names ≡ false
      → eqb (times (lookup name (noted names others ms))) 0 ≡ eqb (times (lookup name ms)) 0
  unfolding noted
  noted_there names others l n =
      ap (λ (k : Lookup). eqb (times k) 0) (in_second name (named names ms) (present others ms) (not_named name names n ms))
      ∙ either (eqb (times (lookup name ms)) 0)
      (λ y. none_there _ (none_noted others y) ∙ sym y)
      (λ f. one_noted others l f ∙ sym f)

-- ---- an object that is only noted may have another value

module _ (name : ℕ) (v u : List ℕ) (ys : List Object) where
  as_often : (n : ℕ) (xs : List Object)
      → times (lookup n (xs ++ (object name v ∷ ys))) ≡ times (lookup n (xs ++ (object name u ∷ ys)))
  unfolding lookup
  as_often n [] =
      pick_ap times (eqb name n) (met v (lookup n ys)) (lookup n ys)
      ∙ (ap (λ (k : ℕ). pick (eqb name n) k (times (lookup n ys))) (met_bump v (lookup n ys) ∙ sym (met_bump u (lookup n ys)))
      ∙ sym (pick_ap times (eqb name n) (met u (lookup n ys)) (lookup n ys)))
  as_often n (m ∷ xs) =
      let l = lookup n (xs ++ (object name v ∷ ys)) in
      let k = lookup n (xs ++ (object name u ∷ ys)) in
      let rest = as_often n xs in
      pick_ap times (eqb m.tag n) (met m.value l) l
      ∙ (ap₂ (pick (eqb m.tag n)) (met_bump m.value l ∙ (ap bump rest ∙ sym (met_bump m.value k))) rest
      ∙ sym (pick_ap times (eqb m.tag n) (met m.value k) k))

  same_present : (ns : List ℕ) (xs : List Object)
      → present ns (xs ++ (object name v ∷ ys)) ≡ present ns (xs ++ (object name u ∷ ys))
  unfolding present
  same_present [] xs = refl
  same_present (n ∷ ns) xs =
      ap₂ (λ (k : ℕ) (os : List Object). pick (eqb k 0) os (object n [] ∷ os)) (as_often n xs) (same_present ns xs)

  same_named : (names : List ℕ) → listed name names ≡ false → (xs : List Object)
      → named names (xs ++ (object name v ∷ ys)) ≡ named names (xs ++ (object name u ∷ ys))
  unfolding named
  same_named names n [] = pick_no _ _ _ n ∙ sym (pick_no _ _ _ n)
  same_named names n (m ∷ xs) =
      ap (λ (os : List Object). pick (listed m.tag names) (m ∷ os) os) (same_named names n xs)

  pub noted_otherwise : (names others : List ℕ) → listed name names ≡ false → (xs : List Object)
      → noted names others (xs ++ (object name v ∷ ys)) ≡ noted names others (xs ++ (object name u ∷ ys))
  unfolding noted
  noted_otherwise names others n xs = ap₂ (λ (x y : List Object). x ++ y) (same_named names n xs) (same_present others xs)
