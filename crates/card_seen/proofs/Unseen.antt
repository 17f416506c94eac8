-- What stands among the members of an object is read member by member, so what is seen of them does not depend on '00' bytes between them,
-- on objects that are not named, or on length forms.
-- Assumes nothing.
use mathlib.Core.Path.{◌≡◌, refl, sym, ap, ◌∙◌}
use mathlib.Core.Bool.{false}
use mathlib.Core.List.{List, [], ◌∷◌, ◌++◌}
use mathlib.Core.Option.{Option, some, get_or}
use Prim.Native.Nat.{ℕ}
use Rattle.slices.specs.Choice.{pick}
use Rattle.slices.specs.Tables.{beside}
use Rattle.slices.proofs.Choice.{pick_yes, pick_no, either}
use Rattle.tlv_list.specs.Objects.{Object, objects}
use Rattle.tlv_list.proofs.Objects.{objects_empty, objects_filler}
use Rattle.tlv_list.proofs.Joined.{objects_joined}
use Rattle.answer_common.specs.Named.{members_in, listed, named}
use Rattle.card_seen.specs.Seen.{Counts, whole, within, noting, wholly, object, Shown, noted, shown_as, tags_of, shown}
use Rattle.card_seen.specs.Dressing.{Unseen, filler, ignored, rewritten, inner, entry, revalued}
use Rattle.card_seen.proofs.Looking.{back, every_whole, their_names}
use Rattle.card_seen.proofs.Noting.{noted_named, noted_otherwise}

together : (x y : List ℕ) (xs ys : List Object) → objects x ≡ some xs → objects y ≡ some ys → members_in (x ++ y) ≡ xs ++ ys
unfolding members_in
together x y xs ys e f = ap (λ (o : Option (List Object)). get_or o []) (objects_joined x y xs ys e f)

shown_joined : (table : List (ℕ × Counts)) (xs ys : List Object) → shown table (xs ++ ys) ≡ shown table xs ++ shown table ys
unfolding shown
shown_joined table [] ys = refl
shown_joined table (m ∷ xs) ys =
    let rest = shown_joined table xs ys in
    either (listed m.tag (tags_of table))
    (λ y. pick_yes _ _ _ y
    ∙ (ap (λ (ts : List Shown). shown_as (beside whole m.tag table) m ∷ ts) rest
    ∙ sym (ap (λ (ts : List Shown). ts ++ shown table ys) (pick_yes _ _ _ y))))
    (λ n. pick_no _ _ _ n ∙ (rest ∙ sym (ap (λ (ts : List Shown). ts ++ shown table ys) (pick_no _ _ _ n))))

-- bytes between members that are read as objects of which the same is seen
pub record Alike (table : List (ℕ × Counts)) (o p : List ℕ) : Type 0 where
  pub ones : List Object
  pub others : List Object
  pub first : objects o ≡ some ones
  pub second : objects p ≡ some others
  pub same : shown table ones ≡ shown table others

module _ (table : List (ℕ × Counts)) (x y o p : List ℕ) (xs ys : List Object) (e : objects x ≡ some xs) (f : objects y ≡ some ys)
    (alike : Alike table o p) where
  in_between : shown table (alike.ones ++ ys) ≡ shown table (alike.others ++ ys)
  in_between =
      shown_joined table alike.ones ys
      ∙ (ap (λ (ts : List Shown). ts ++ shown table ys) alike.same ∙ sym (shown_joined table alike.others ys))

  pub members_same : shown table (members_in (x ++ (o ++ y))) ≡ shown table (members_in (x ++ (p ++ y)))
  members_same =
      ap (shown table) (together x (o ++ y) xs (alike.ones ++ ys) e (objects_joined o y alike.ones ys alike.first f))
      ∙ (shown_joined table xs (alike.ones ++ ys)
      ∙ (ap (λ (ts : List Shown). shown table xs ++ ts) in_between
      ∙ (sym (shown_joined table xs (alike.others ++ ys))
      ∙ sym (ap (shown table)
      (together x (p ++ y) xs (alike.others ++ ys) e (objects_joined p y alike.others ys alike.second f))))))

-- where every value counts, what is seen is the named objects themselves
back_named : (names : List ℕ) (ms : List Object) → back (shown (wholly names) ms) ≡ named names ms
unfolding back shown named shown_as
back_named names [] = refl
back_named names (m ∷ ms) =
    let rest = shown (wholly names) ms in
    either (listed m.tag names)
    (λ y.
    ap back (pick_yes _ _ _ (ap (listed m.tag) (their_names names) ∙ y))
    ∙ (ap (λ (c : Counts). record { tag = (shown_as c m).tag; value = (shown_as c m).value } ∷ back rest) (every_whole names m.tag)
    ∙ (ap (λ (os : List Object). m ∷ os) (back_named names ms) ∙ sym (pick_yes _ _ _ y))))
    (λ n. ap back (pick_no _ _ _ (ap (listed m.tag) (their_names names) ∙ n)) ∙ (back_named names ms ∙ sym (pick_no _ _ _ n)))

-- so members that are seen alike have the same named ones
named_same : (names v u : List ℕ) → shown (wholly names) (members_in v) ≡ shown (wholly names) (members_in u)
    → named names (members_in v) ≡ named names (members_in u)
named_same names v u same = sym (back_named names (members_in v)) ∙ (ap back same ∙ back_named names (members_in u))

-- an object with two values, where what counts of both is the same
counts_same : (table : List (ℕ × Counts)) (tag : ℕ) (c : Counts) (v u : List ℕ) → beside whole tag table ≡ c
    → shown_as c (object tag v) ≡ shown_as c (object tag u) → shown table (object tag v ∷ []) ≡ shown table (object tag u ∷ [])
unfolding shown
counts_same table tag c v u w same =
    let seen_as : (s : List ℕ) → shown_as (beside whole tag table) (object tag s) ≡ shown_as c (object tag s) =
    λ s. ap (λ (d : Counts). shown_as d (object tag s)) w in
    ap (λ (t : Shown). pick (listed tag (tags_of table)) (t ∷ []) []) (seen_as v ∙ (same ∙ sym (seen_as u)))

-- one of which the named members count, alone or with a note of others
within_same : (tag : ℕ) (names v u : List ℕ) → shown (wholly names) (members_in v) ≡ shown (wholly names) (members_in u)
    → shown_as (within names) (object tag v) ≡ shown_as (within names) (object tag u)
unfolding shown_as
within_same tag names v u same =
    ap (λ (ms : List Object). record { tag = tag; value = []; members = ms }) (named_same names v u same)

noting_same : (tag : ℕ) (names others v u : List ℕ)
    → shown (wholly (names ++ others)) (members_in v) ≡ shown (wholly (names ++ others)) (members_in u)
    → shown_as (noting names others) (object tag v) ≡ shown_as (noting names others) (object tag u)
unfolding shown_as
noting_same tag names others v u same =
    ap (λ (ms : List Object). record { tag = tag; value = []; members = ms })
    (sym (noted_named names others (members_in v))
    ∙ (ap (noted names others) (named_same (names ++ others) v u same) ∙ noted_named names others (members_in u)))

-- and where one that is only noted has another value
module _ (tag name : ℕ) (names others x y c d v u : List ℕ) (xs ys : List Object) (n : listed name names ≡ false)
    (e : objects x ≡ some xs) (f : objects y ≡ some ys) (g : objects c ≡ some (object name v ∷ []))
    (h : objects d ≡ some (object name u ∷ [])) where
  revalued_same : shown_as (noting names others) (object tag (x ++ (c ++ y))) ≡ shown_as (noting names others) (object tag (x ++ (d ++ y)))
  unfolding shown_as
  revalued_same =
      ap (λ (ms : List Object). record { tag = tag; value = []; members = ms })
      (ap (noted names others) (together x (c ++ y) xs (object name v ∷ ys) e (objects_joined c y (object name v ∷ []) ys g f))
      ∙ (noted_otherwise name v u ys names others n xs
      ∙ sym (ap (noted names others) (together x (d ++ y) xs (object name u ∷ ys) e (objects_joined d y (object name u ∷ []) ys h f)))))

pub unseen_alike : {table : List (ℕ × Counts)} {o p : List ℕ} → Unseen table o p → Alike table o p
unfolding shown
unseen_alike (filler e f) = record {
  ones = [];
  others = [];
  first = ap objects e ∙ objects_empty;
  second = ap objects f ∙ (objects_filler [] ∙ objects_empty);
  same = refl;
}
unseen_alike (ignored m e f n) = record {
  ones = [];
  others = m ∷ [];
  first = ap objects e ∙ objects_empty;
  second = f;
  same = sym (pick_no _ _ _ n);
}
unseen_alike (rewritten m e f) = record { ones = m ∷ []; others = m ∷ []; first = e; second = f; same = refl }
unseen_alike (inner {table} {o} {p} tag names x y c d xs ys w e f u g h) = record {
  ones = object tag (x ++ (c ++ y)) ∷ [];
  others = object tag (x ++ (d ++ y)) ∷ [];
  first = g;
  second = h;
  same =
      counts_same table tag (within names) (x ++ (c ++ y)) (x ++ (d ++ y)) w
      (within_same tag names (x ++ (c ++ y)) (x ++ (d ++ y)) (members_same (wholly names) x y c d xs ys e f (unseen_alike u)));
}
unseen_alike (entry {table} {o} {p} tag names others x y c d xs ys w e f u g h) = record {
  ones = object tag (x ++ (c ++ y)) ∷ [];
  others = object tag (x ++ (d ++ y)) ∷ [];
  first = g;
  second = h;
  same =
      counts_same table tag (noting names others) (x ++ (c ++ y)) (x ++ (d ++ y)) w
      (noting_same tag names others (x ++ (c ++ y)) (x ++ (d ++ y))
      (members_same (wholly (names ++ others)) x y c d xs ys e f (unseen_alike u)));
}
unseen_alike (revalued {table} {o} {p} tag name names others x y c d v u xs ys w n e f g h k l) = record {
  ones = object tag (x ++ (c ++ y)) ∷ [];
  others = object tag (x ++ (d ++ y)) ∷ [];
  first = k;
  second = l;
  same =
      counts_same table tag (noting names others) (x ++ (c ++ y)) (x ++ (d ++ y)) w
      (revalued_same tag name names others x y c d v u xs ys n e f g h);
}
