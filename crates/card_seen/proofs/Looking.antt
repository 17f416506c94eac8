-- What is seen of some objects answers every question that the rules ask of them: what stands under a name, how often a name stands there,
-- and, where only the objects named in it count, what stands in the one that has the name.
-- Assumes nothing.
use mathlib.Core.Path.{◌≡◌, refl, sym, ap, ap₂, ◌∙◌}
use mathlib.Core.Bool.{Bool, true, false, false≢true}
use mathlib.Core.List.{List, [], ◌∷◌, map}
use mathlib.Core.Option.{Option, get_or}
use Prim.Native.Nat.{ℕ, zero, suc}
use lib.Dec.{eqb}
use borrow.Author.Tests.{eqb-true}
use Rattle.slices.specs.Choice.{pick}
use Rattle.slices.specs.Tables.{beside}
use Rattle.slices.proofs.Choice.{pick_yes, pick_no, pick_same, pick_ap, pick_cong, either}
use Rattle.tlv_list.specs.Objects.{Object}
use Rattle.tlv_list.specs.Lookup.{Lookup, absent, once, twice, met, lookup}
use Rattle.tlv_list.proofs.Objects.{objects_empty}
use Rattle.answer_common.specs.Named.{members_in, listed, named, times, told, value_of}
use Rattle.card_seen.specs.Seen.{Counts, whole, within, noting, Shown, shown_as, tags_of, shown}

pub itself : (t : Bool) → pick t true false ≡ t
unfolding pick
itself true = refl
itself false = refl

-- what is seen as objects again
unfoldable pub back : List Shown → List Object
back [] = []
back (t ∷ ts) = record { tag = t.tag; value = t.value } ∷ back ts

unfoldable pub under : List Shown → ℕ → Lookup
under ts name = lookup name (back ts)

tag_kept : (c : Counts) (m : Object) → (shown_as c m).tag ≡ m.tag
unfolding shown_as
tag_kept whole m = refl
tag_kept (within names) m = refl
tag_kept (noting names others) m = refl

-- a name that is not listed is another
other_name : (tag name : ℕ) (names : List ℕ) → listed name names ≡ true → listed tag names ≡ false → eqb tag name ≡ false
other_name tag name names l n =
    either (eqb tag name) (λ z. absurd (false≢true (sym n ∙ (ap (λ (t : ℕ). listed t names) (eqb-true _ _ z) ∙ l)))) (λ f. f)

module _ (table : List (ℕ × Counts)) (name : ℕ) (l : listed name (tags_of table) ≡ true) where
  abbrev seen_as : Object → Shown
  seen_as m = shown_as (beside whole m.tag table) m

  -- an object whose whole value counts is seen as it stands
  value_kept : beside whole name table ≡ whole → (m : Object) → eqb m.tag name ≡ true → (seen_as m).value ≡ m.value
  unfolding shown_as
  value_kept w m z = ap (λ (c : Counts). (shown_as c m).value) (ap (λ (t : ℕ). beside whole t table) (eqb-true _ _ z) ∙ w)

  pub look_whole : beside whole name table ≡ whole → (ms : List Object) → under (shown table ms) name ≡ lookup name ms
  unfolding under shown lookup back
  look_whole w [] = refl
  look_whole w (m ∷ ms) =
      let rest = look_whole w ms in
      either (listed m.tag (tags_of table))
      (λ y.
      ap (λ (ts : List Shown). lookup name (back ts)) (pick_yes _ _ _ y)
      ∙ (ap (λ (t : ℕ). pick (eqb t name) (met (seen_as m).value (lookup name (back (shown table ms))))
      (lookup name (back (shown table ms)))) (tag_kept (beside whole m.tag table) m)
      ∙ pick_cong (eqb m.tag name) _ _ _ _ (λ z. ap₂ met (value_kept w m z) rest) (λ n. rest)))
      (λ n.
      ap (λ (ts : List Shown). lookup name (back ts)) (pick_no _ _ _ n)
      ∙ (rest ∙ sym (pick_no _ _ _ (other_name m.tag name (tags_of table) l n))))

-- how often a name stands there goes by the tags alone
pub bump : ℕ → ℕ
bump zero = 1
bump (suc n) = 2

pub met_bump : (v : List ℕ) (l : Lookup) → times (met v l) ≡ bump (times l)
unfolding times met bump
met_bump v absent = refl
met_bump v (once w) = refl
met_bump v twice = refl

module _ (table : List (ℕ × Counts)) (name : ℕ) (l : listed name (tags_of table) ≡ true) where
  pub look_times : (ms : List Object) → times (under (shown table ms) name) ≡ times (lookup name ms)
  unfolding under shown lookup back
  look_times [] = refl
  look_times (m ∷ ms) =
      let rest = look_times ms in
      let c = beside whole m.tag table in
      let t = shown_as c m in
      either (listed m.tag (tags_of table))
      (λ y.
      ap (λ (ts : List Shown). times (lookup name (back ts))) (pick_yes _ _ _ y)
      ∙ (pick_ap times (eqb t.tag name) (met t.value (lookup name (back (shown table ms)))) (lookup name (back (shown table ms)))
      ∙ (ap (λ (n : ℕ). pick (eqb n name) (times (met t.value (lookup name (back (shown table ms)))))
      (times (lookup name (back (shown table ms))))) (tag_kept c m)
      ∙ (ap₂ (pick (eqb m.tag name))
      (met_bump t.value (lookup name (back (shown table ms))) ∙ (ap bump rest ∙ sym (met_bump m.value (lookup name ms)))) rest
      ∙ sym (pick_ap times (eqb m.tag name) (met m.value (lookup name ms)) (lookup name ms))))))
      (λ n.
      ap (λ (ts : List Shown). times (lookup name (back ts))) (pick_no _ _ _ n)
      ∙ (rest ∙ ap times (sym (pick_no _ _ _ (other_name m.tag name (tags_of table) l n)))))

-- look-ups of a name that is listed find nothing but the named ones
pub lookup_named : (names : List ℕ) (name : ℕ) → listed name names ≡ true → (ms : List Object)
    → lookup name (named names ms) ≡ lookup name ms
unfolding named lookup
lookup_named names name told' [] = refl
lookup_named names name told' (m ∷ ms) =
    let rest = lookup_named names name told' ms in
    either (listed m.tag names)
    (λ y. ap (lookup name) (pick_yes _ _ _ y) ∙ ap₂ (pick (eqb m.tag name)) (ap (met m.value) rest) rest)
    (λ n. ap (lookup name) (pick_no _ _ _ n) ∙ (rest ∙ sym (pick_no _ _ _ (other_name m.tag name names told' n))))

-- ---- what is named in an object, where that stands once

unfoldable pub members_under : ℕ → List Shown → List Object
members_under tag [] = []
members_under tag (t ∷ ts) = pick (eqb t.tag tag) (pick (eqb (times (under ts tag)) 0) t.members []) (members_under tag ts)

nothing_in : (names : List ℕ) → named names (members_in []) ≡ []
unfolding named members_in
nothing_in names = ap (λ (o : Option (List Object)). named names (get_or o [])) objects_empty

-- in the only one, and in none where there are more
only_one : (names v : List ℕ) (l : Lookup)
    → pick (eqb (times l) 0) (named names (members_in v)) [] ≡ named names (members_in (value_of (met v l)))
unfolding times value_of told met pick
only_one names v absent = refl
only_one names v (once w) = sym (nothing_in names)
only_one names v twice = sym (nothing_in names)

module _ (table : List (ℕ × Counts)) (tag : ℕ) (names : List ℕ) (l : listed tag (tags_of table) ≡ true)
    (w : beside whole tag table ≡ within names) where
  members_kept : (m : Object) → eqb m.tag tag ≡ true
      → (shown_as (beside whole m.tag table) m).members ≡ named names (members_in m.value)
  unfolding shown_as
  members_kept m z = ap (λ (c : Counts). (shown_as c m).members) (ap (λ (t : ℕ). beside whole t table) (eqb-true _ _ z) ∙ w)

  pub look_within : (ms : List Object) → members_under tag (shown table ms) ≡ named names (members_in (value_of (lookup tag ms)))
  unfolding shown members_under lookup value_of told
  look_within [] = sym (nothing_in names)
  look_within (m ∷ ms) =
      let rest = look_within ms in
      let c = beside whole m.tag table in
      let ts = shown table ms in
      either (listed m.tag (tags_of table))
      (λ y.
      ap (members_under tag) (pick_yes _ _ _ y)
      ∙ (ap (λ (t : ℕ). pick (eqb t tag) (pick (eqb (times (under ts tag)) 0) (shown_as c m).members []) (members_under tag ts))
      (tag_kept c m)
      ∙ (pick_cong (eqb m.tag tag) _ _ _ _
      (λ z.
      ap₂ (λ (k : ℕ) (os : List Object). pick (eqb k 0) os []) (look_times table tag l ms) (members_kept m z)
      ∙ only_one names m.value (lookup tag ms))
      (λ n. rest)
      ∙ sym (pick_ap (λ (f : Lookup). named names (members_in (value_of f))) (eqb m.tag tag)
      (met m.value (lookup tag ms)) (lookup tag ms)))))
      (λ n.
      ap (members_under tag) (pick_no _ _ _ n)
      ∙ (rest
      ∙ ap (λ (f : Lookup). named names (members_in (value_of f))) (sym (pick_no _ _ _ (other_name m.tag tag (tags_of table) l n)))))

-- ---- a table of which the whole values count

pub every_whole : (names : List ℕ) (name : ℕ) → beside whole name (map (λ (n : ℕ). (n, whole)) names) ≡ whole
unfolding beside
every_whole [] name = refl
every_whole (n ∷ ns) name = ap (pick (eqb name n) whole) (every_whole ns name) ∙ pick_same (eqb name n) whole

pub their_names : (names : List ℕ) → tags_of (map (λ (n : ℕ). (n, whole)) names) ≡ names
their_names [] = refl
their_names (n ∷ ns) = ap (λ (ms : List ℕ). n ∷ ms) (their_names ns)

pub look_named : (names : List ℕ) (name : ℕ) → listed name names ≡ true → (ms : List Object)
    → under (shown (map (λ (n : ℕ). (n, whole)) names) ms) name ≡ lookup name ms
look_named names name l ms =
    look_whole (map (λ (n : ℕ). (n, whole)) names) name (ap (listed name) (their_names names) ∙ l) (every_whole names name) ms
