-- Members by look-up. In a list the look-up by place finds what stands among the members; and wherever 01 names a constructed
-- object, its value, or nothing in its stead, is a list again. Values have room for no more than the answer has bytes.
-- Assumes nothing.
use mathlib.Core.Path.{◌≡◌, refl, sym, ap, subst, fun_ext, ◌∙◌}
use mathlib.Core.Bool.{true, false≢true}
use mathlib.Core.List.{List, [], ◌∷◌}
use mathlib.Core.Option.{Option, none, some, get_or}
use Prim.Native.Nat.{ℕ, ◌+◌, ◌-◌, ◌≤◌, ◌<◌}
use native.Mathlib.Omega.{arith}
use lib.Dec.{eqb}
use lib.ListN.{length, drop, length-take, length-drop}
use borrow.Author.Tests.{eqb-true}
use Rattle.slices.specs.Choice.{pick}
use Rattle.slices.proofs.Choice.{pick_yes, picked}
use Rattle.slices.proofs.Shorter.{by_length}
use Rattle.tlv_head.specs.Head.{constructed}
use Rattle.slices.specs.Tests.{is_some}
use Rattle.tlv_list.specs.Objects.{Object, between, before, right_inside, objects, is_list}
use Rattle.tlv_list.specs.Place.{next_at, data_field}
use Rattle.tlv_list.specs.Lookup.{Lookup, absent, once, twice, met, lookup}
use Rattle.tlv_head.specs.declared.Next.{Next}
use Rattle.tlv_head.specs.declared.Next.TheVariants.{Member, End, Broken}
use Rattle.tlv_list.proofs.Objects.{objects_empty}
use Rattle.tlv_list.proofs.Reading.{following, objects_next, next_ahead}
use Rattle.tlv_list.proofs.Walking.{find_lookup}
use Rattle.answer_common.specs.Answer.{value_most, size_bad, only, outer, value_under, inside}
use Rattle.answer_common.specs.Named.{members_in, among, direct, standing, told, value_of}
use Rattle.answer_common.proofs.Outer.{size_right, data_length}

-- the members of a list
pub members_of_lem : (s : List ℕ) → is_list s ≡ true → objects s ≡ some (members_in s)
unfolding is_list members_in is_some
members_of_lem s e = go (objects s) refl e
  where
    go : (o : Option (List Object)) → objects s ≡ o → is_some o ≡ true → objects s ≡ some (get_or (objects s) [])
    go none f e = absurd (false≢true e)
    go (some ms) f e = f ∙ ap (λ (o : Option (List Object)). some (get_or o [])) (sym f)

-- in a list the search by place finds what stands among the members
pub list_standing : (s : List ℕ) → is_list s ≡ true → standing s ≡ among s
unfolding standing among
list_standing s e = fun_ext (λ name. sym (find_lookup s name (members_in s) (members_of_lem s e)))

pub empty_list : is_list [] ≡ true
unfolding is_list is_some
empty_list = ap is_some objects_empty

-- objects as they stand in a list of n bytes: every constructed one has a list in it, and each value is shorter than the
-- list by the two bytes, at least, of its tag and its length
pub data Held (n : ℕ) : List Object → Type 0 where
  none_left : Held n []
  and_then : {m : Object} {ms : List Object} → (constructed m.tag ≡ true → is_list m.value ≡ true) → length m.value + 2 ≤ n
      → Held n ms → Held n (m ∷ ms)

wider : (n k : ℕ) {ms : List Object} → n ≤ k → Held n ms → Held k ms
wider n k h none_left = none_left
wider n k h (and_then l s rest) = and_then l (omega arith) (wider n k h rest)

right_inside_lem : (m : Object) → right_inside objects m ≡ true → constructed m.tag ≡ true → is_list m.value ≡ true
unfolding right_inside is_list
right_inside_lem m r c = sym (pick_yes _ _ _ c) ∙ r

abbrev Goes : List ℕ → Type 0
Goes s = (ms : List Object) → objects s ≡ some ms → Held (length s) ms

with_rest : (n : ℕ) (m : Object) (o : Option (List Object)) (ms : List Object)
    → (constructed m.tag ≡ true → is_list m.value ≡ true) → length m.value + 2 ≤ n
    → before m o ≡ some ms → ((rest : List Object) → o ≡ some rest → Held n rest) → Held n ms
unfolding before
with_rest n m none ms r k e h = absurd (let z : ◌≡◌ {A = ℕ} 0 1 = cc in omega arith)
with_rest n m (some rest) ms r k e h =
    let same : m ∷ rest ≡ ms = cc in
    subst (Held n) same (and_then r k (h rest refl))

step : (s : List ℕ) (ms : List Object) → ((t : List ℕ) → length t < length s → Goes t) → (x : Next) → next_at s 0 ≡ x
    → following s x ≡ some ms → Held (length s) ms
unfolding following between
step s ms shorter (Member tag start end) f =
    let m : Object = record { tag = tag; value = between s start end } in
    let ahead = next_ahead s 0 tag start end f in
    let size = length-take (end - start) (drop start s) in
    let left = length-drop end s in
    picked (λ o. o ≡ some ms → Held (length s) ms) (right_inside objects m) (before m (objects (drop end s))) none
    (λ r e.
    with_rest (length s) m (objects (drop end s)) ms (right_inside_lem m r) (omega arith) e
    (λ rest g. wider (length (drop end s)) (length s) (omega arith) (shorter (drop end s) (omega arith) rest g)))
    (λ r e. absurd (let z : ◌≡◌ {A = ℕ} 0 1 = cc in omega arith))
step s ms shorter End f = λ e. let none' : [] ≡ ms = cc in subst (Held (length s)) none' none_left
step s ms shorter Broken f = λ e. absurd (let z : ◌≡◌ {A = ℕ} 0 1 = cc in omega arith)

pub held : (s : List ℕ) → Goes s
held = by_length Goes (λ s shorter ms e. step s ms shorter (next_at s 0) refl (sym (objects_next s 0) ∙ e))

met_list : (v : List ℕ) (l : Lookup) → is_list v ≡ true → is_list (value_of (met v l)) ≡ true
unfolding met value_of told
met_list v absent e = e
met_list v (once w) e = empty_list
met_list v twice e = empty_list

met_size : (n : ℕ) (v : List ℕ) (l : Lookup) → length v ≤ n → length (value_of (met v l)) ≤ n
unfolding met value_of told
met_size n v absent h = h
met_size n v (once w) h = omega arith
met_size n v twice h = omega arith

-- a constructed object that is looked up
looked_list : (n : ℕ) {ms : List Object} (tag : ℕ) → constructed tag ≡ true → Held n ms → is_list (value_of (lookup tag ms)) ≡ true
unfolding lookup value_of told
looked_list n tag c none_left = empty_list
looked_list n tag c (and_then {m} {ms} h k rest) =
    picked (λ l. is_list (value_of l) ≡ true) (eqb m.tag tag) (met m.value (lookup tag ms)) (lookup tag ms)
    (λ y. met_list m.value (lookup tag ms) (h (ap constructed (eqb-true _ _ y) ∙ c)))
    (λ e. looked_list n tag c rest)

looked_size : (n : ℕ) {ms : List Object} (tag : ℕ) → Held n ms → length (value_of (lookup tag ms)) ≤ n - 2
unfolding lookup value_of told
looked_size n tag none_left = omega arith
looked_size n tag (and_then {m} {ms} h k rest) =
    picked (λ l. length (value_of l) ≤ n - 2) (eqb m.tag tag) (met m.value (lookup tag ms)) (lookup tag ms)
    (λ y. met_size (n - 2) m.value (lookup tag ms) (omega arith))
    (λ e. looked_size n tag rest)

pub named_list : (s : List ℕ) (tag : ℕ) → is_list s ≡ true → constructed tag ≡ true → is_list (value_of (lookup tag (members_in s))) ≡ true
named_list s tag e c = looked_list (length s) tag c (held s (members_in s) (members_of_lem s e))

pub among_size : (s : List ℕ) (name : ℕ) → length (value_of (among s name)) ≤ length s - 2
unfolding among members_in
among_size s name = go (objects s) (held s)
  where
    go : (o : Option (List Object)) → ((ms : List Object) → o ≡ some ms → Held (length s) ms)
        → length (value_of (lookup name (get_or o []))) ≤ length s - 2
    go none h = looked_size (length s) name none_left
    go (some ms) h = looked_size (length s) name (h ms refl)

-- the one object of an answer
alone : (n tag : ℕ) {m : Object} → Held n (m ∷ [])
    → (constructed tag ≡ true → is_list (pick (eqb m.tag tag) m.value []) ≡ true)
    × (length (pick (eqb m.tag tag) m.value []) ≤ n - 2)
alone n tag (and_then {m} in-it k rest) = (
  λ c. picked (λ v. is_list v ≡ true) (eqb m.tag tag) m.value [] (λ y. in-it (ap constructed (eqb-true _ _ y) ∙ c)) (λ e. empty_list),
  picked (λ v. length v ≤ n - 2) (eqb m.tag tag) m.value [] (λ y. omega arith) (λ e. omega arith),
)

under : (n tag : ℕ) (o : Option (List Object)) → ((ms : List Object) → o ≡ some ms → Held n ms)
    → (constructed tag ≡ true → is_list (value_under tag (only o)) ≡ true) × (length (value_under tag (only o)) ≤ n - 2)
unfolding value_under only
under n tag none h = ((λ c. empty_list), omega arith)
under n tag (some []) h = ((λ c. empty_list), omega arith)
under n tag (some (m ∷ [])) h = alone n tag (h (m ∷ []) refl)
under n tag (some (m ∷ k ∷ ms)) h = ((λ c. empty_list), omega arith)

pub inside_list : (tag : ℕ) (a : List ℕ) → constructed tag ≡ true → is_list (inside tag a) ≡ true
unfolding inside outer value_under
inside_list tag a c =
    picked (λ o. is_list (value_under tag o) ≡ true) (size_bad a) none (only (objects (data_field a)))
    (λ y. empty_list)
    (λ n. (under (length (data_field a)) tag (objects (data_field a)) (held (data_field a))).0 c)

-- what an answer can hold: 258 bytes, less its status, and two bytes less at each depth
pub inside_size : (tag : ℕ) (a : List ℕ) → length (inside tag a) ≤ 254
unfolding inside outer value_under
inside_size tag a =
    picked (λ o. length (value_under tag o) ≤ 254) (size_bad a) none (only (objects (data_field a)))
    (λ y. omega arith)
    (λ n.
    let size = size_right a n in
    let data_size_lem = data_length a in
    omega (arith, (under (length (data_field a)) tag (objects (data_field a)) (held (data_field a))).1))

pub direct_size : (tag : ℕ) (a : List ℕ) (name : ℕ) → length (value_of (direct tag a name)) ≤ value_most
unfolding direct
direct_size tag a name = let outside = inside_size tag a in omega (arith, among_size (inside tag a) name)

pub inner_size : (tag name inner : ℕ) (a : List ℕ) → length (value_of (among (value_of (direct tag a name)) inner)) ≤ 250
inner_size tag name inner a = let outside = direct_size tag a name in omega (arith, among_size (value_of (direct tag a name)) inner)

-- the constructed objects that 01 names: in them the search by place finds what stands among the members
pub direct_standing : (tag : ℕ) (a : List ℕ) → constructed tag ≡ true → standing (inside tag a) ≡ direct tag a
unfolding direct
direct_standing tag a c = list_standing (inside tag a) (inside_list tag a c)

pub inner_standing : (tag name : ℕ) (a : List ℕ) → constructed tag ≡ true → constructed name ≡ true
    → standing (value_of (direct tag a name)) ≡ among (value_of (direct tag a name))
unfolding direct among
inner_standing tag name a c d = list_standing (value_of (among (inside tag a) name))
    (named_list (inside tag a) name (inside_list tag a c) d)
