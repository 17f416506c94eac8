-- What an answer's one object by place says of reasons 1 to 3, and of the bytes inside: the reason that it gives is the answer's; else
-- the answer's one object is the one at that place, where that has an expected tag and, if it is constructed, a list in it.
-- Assumes nothing.
use mathlib.Core.Path.{◌≡◌, refl, sym, ap, ◌∙◌}
use mathlib.Core.Bool.{Bool, true, false, not}
use mathlib.Core.List.{List, [], ◌∷◌, ◌++◌, map}
use mathlib.Core.Option.{Option, none, some}
use Prim.Native.Nat.{ℕ, ◌+◌, ◌-◌, ◌≤◌}
use native.Mathlib.Omega.{arith}
use lib.ListN.{length, drop, length-take}
use borrow.Author.Tests.{eq-eqb}
use Rattle.slices.specs.Choice.{pick, first_of}
use Rattle.slices.specs.Tables.{any_of}
use Rattle.slices.proofs.Choice.{pick_yes, pick_no, picked}
use Rattle.slices.proofs.Lines.{line_yes, line_no}
use Rattle.tlv_list.specs.Objects.{Object as Obj, between, before, right_inside, objects}
use Rattle.tlv_list.specs.Place.{next_at, data_field}
use Rattle.tlv_head.specs.declared.Next.{Next}
use Rattle.tlv_head.specs.declared.Next.TheVariants.{Member, End, Broken}
use Rattle.tlv_list.proofs.Reading.{following, objects_next, next_ahead}
use Rattle.answer_common.specs.Answer.{size_bad, status_bad, only, outer, tagged, value_under, is_one, inside, outer_bad, frame}
use Rattle.answer_common.specs.Named.{listed}
use Rattle.answer_common.specs.Single.{last_one, alone_by, alone_in, single_of}
use Rattle.answer_common.specs.declared.answer.Single.{Single}
use Rattle.answer_common.specs.declared.answer.Single.TheVariants.{Refused, Object}
use Rattle.answer_common.proofs.Outer.{outer_looked, size_right, data_length}

abbrev pub at : List ℕ → ℕ → ℕ → ℕ → Obj
at s tag start end = record { tag = tag; value = between s start end }

-- an object, where what is in it is right
abbrev pub looked : Obj → Option Obj
looked m = pick (right_inside objects m) (some m) none

data Alone (s : List ℕ) : Single → Type 0 where
  no_object : only (objects s) ≡ none → Alone s (Refused 3)
  one_object : {tag start end : ℕ} → only (objects s) ≡ looked (at s tag start end) → length (between s start end) + 2 ≤ length s
      → Alone s (Object tag start end)

module _ (s : List ℕ) where
  begins : (n : Next) → next_at s 0 ≡ n → only (objects s) ≡ only (following s n)
  begins n e = ap only (objects_next s 0 ∙ ap (following s) e)

  module _ (tag start end : ℕ) (e : next_at s 0 ≡ Member tag start end) where
    m : Obj
    m = at s tag start end

    -- by what follows the object
    goes_on_lem : (o : Option (List Obj)) → objects (drop end s) ≡ o → only (objects s)
        ≡ only (pick (right_inside objects m) (before m o) none)
    unfolding following m
    goes_on_lem o f =
        begins (Member tag start end) e ∙ ap (λ (x : Option (List Obj)). only (pick (right_inside objects m) (before m x) none)) f

    nothing_more : only (objects s) ≡ only (pick (right_inside objects m) (some (m ∷ [])) none) → only (objects s) ≡ looked m
    unfolding only
    nothing_more f =
        f
        ∙ picked (λ o. only o ≡ looked m) (right_inside objects m) (some (m ∷ [])) none
        (λ y. sym (pick_yes _ _ _ y))
        (λ n. sym (pick_no _ _ _ n))

    spoilt : (o : Option (List Obj)) → only (before m o) ≡ none → objects (drop end s) ≡ o → only (objects s) ≡ none
    unfolding only
    spoilt o k f =
        goes_on_lem o f
        ∙ picked (λ x. only x ≡ none) (right_inside objects m) (before m o) none (λ y. k) (λ n. refl)

    more : (n : Obj) (o : Option (List Obj)) → only (before m (before n o)) ≡ none
    unfolding only before
    more n none = refl
    more n (some ms) = refl

    small : length (between s start end) + 2 ≤ length s
    unfolding between
    small =
        let ahead = next_ahead s 0 tag start end e in
        let size = length-take (end - start) (drop start s) in
        omega arith

    then : (n : Next) → next_at s end ≡ n → Alone s (last_one (Object tag start end) n)
    unfolding last_one following before only m
    then (Member t a z) f =
        let after = at s t a z in
        no_object
        (spoilt _
        (picked (λ o. only (before m o) ≡ none) (right_inside objects after) (before after (objects (drop z s))) none
        (λ y. more after (objects (drop z s)))
        (λ n. refl))
        (objects_next s end ∙ ap (following s) f))
    then End f = one_object (nothing_more (goes_on_lem (some []) (objects_next s end ∙ ap (following s) f))) small
    then Broken f = no_object (spoilt none refl (objects_next s end ∙ ap (following s) f))

  first : (n : Next) → next_at s 0 ≡ n → Alone s (alone_by (next_at s) n)
  unfolding alone_by following only
  first (Member tag start end) e = then tag start end e (next_at s end) refl
  first End e = no_object (begins End e)
  first Broken e = no_object (begins Broken e)

  alone : Alone s (alone_in s)
  unfolding alone_in
  alone = first (next_at s 0) refl

-- what is known of an answer by its one object
pub record Right (a : List ℕ) : Type 0 where
  pub size : size_bad a ≡ false
  pub status : status_bad a ≡ false

pub data Found (a : List ℕ) : Single → Type 0 where
  bad_size : size_bad a ≡ true → Found a (Refused 1)
  bad_status : size_bad a ≡ false → status_bad a ≡ true → Found a (Refused 2)
  no_single : Right a → outer a ≡ none → Found a (Refused 3)
  one_single : Right a → {tag start end : ℕ} → outer a ≡ looked (at (data_field a) tag start end)
      → length (between (data_field a) start end) ≤ 254 → Found a (Object tag start end)

module _ (a : List ℕ) where
  of_alone : Right a → (o : Single) → Alone (data_field a) o → Found a o
  of_alone r o (no_object e) = no_single r (outer_looked a r.size ∙ e)
  of_alone r o (one_object e k) =
      let size = size_right a r.size in
      let data_size_lem = data_length a in
      one_single r (outer_looked a r.size ∙ e) (omega arith)

  pub found : Found a (single_of a)
  unfolding single_of
  found =
      picked (Found a) (size_bad a) (Refused 1) _ (λ y. bad_size y) (λ n.
      picked (Found a) (status_bad a) (Refused 2) _ (λ y. bad_status n y) (λ k.
      of_alone (record { size = n; status = k }) _ (alone (data_field a))))

  module _ (expected : List ℕ) (lines : List (Bool × ℕ)) where
    abbrev all : ℕ
    all = first_of (frame expected a ++ lines)

    third : Right a → (b : Bool) → outer_bad expected a ≡ b → all ≡ first_of ((b, 3) ∷ lines)
    unfolding frame
    third r b e =
        line_no refl 1 _ r.size ∙ (line_no refl 2 _ r.status ∙ ap (λ (x : Bool). first_of ((x, 3) ∷ lines)) e)

    none_tagged : (names : List ℕ) → any_of (map (λ (tag : ℕ). tagged tag none) names) ≡ false
    unfolding any_of tagged
    none_tagged [] = refl
    none_tagged (n ∷ ns) = pick_no _ _ _ refl ∙ none_tagged ns

    no_outer : Right a → outer a ≡ none → all ≡ 3
    unfolding outer_bad is_one
    no_outer r e =
        third r true (ap (λ o. not (any_of (map (λ (tag : ℕ). tagged tag o) expected))) e ∙ ap not (none_tagged expected))
        ∙ line_yes {t = true} refl 3 lines refl

    pub refused : (why : ℕ) → Found a (Refused why) → all ≡ why
    unfolding frame
    refused why (bad_size e) = line_yes refl 1 _ e
    refused why (bad_status e f) = line_no refl 1 _ e ∙ line_yes refl 2 _ f
    refused why (no_single r e) = no_outer r e

    module _ (r : Right a) (m : Obj) (e : outer a ≡ looked m) where
      pub no_list : right_inside objects m ≡ false → all ≡ 3
      no_list k = no_outer r (e ∙ pick_no _ _ _ k)

      module _ (k : right_inside objects m ≡ true) where
        outer_one : outer a ≡ some m
        outer_one = e ∙ pick_yes _ _ _ k

        as_listed : outer_bad expected a ≡ not (listed m.tag expected)
        unfolding outer_bad is_one tagged listed
        as_listed = ap (λ o. not (any_of (map (λ (tag : ℕ). tagged tag o) expected))) outer_one

        pub other_tag : listed m.tag expected ≡ false → all ≡ 3
        other_tag n = third r true (as_listed ∙ ap not n) ∙ line_yes {t = true} refl 3 lines refl

        pub on_lines : listed m.tag expected ≡ true → all ≡ first_of lines
        on_lines y = third r false (as_listed ∙ ap not y) ∙ line_no {t = false} refl 3 lines refl

        pub inside_one : inside m.tag a ≡ m.value
        unfolding inside value_under
        inside_one = ap (value_under m.tag) outer_one ∙ pick_yes _ _ _ (eq-eqb m.tag m.tag refl)

        pub is_one_lem : is_one m.tag a ≡ true
        unfolding is_one tagged
        is_one_lem = ap (tagged m.tag) outer_one ∙ eq-eqb m.tag m.tag refl
