-- The lines of SELECT by what one pass over 6F and one over A5 found.
-- Assumes nothing.
use mathlib.Core.Path.{◌≡◌, refl, sym, ap, ◌∙◌}
use mathlib.Core.Bool.{Bool, true, false, ◌||◌}
use mathlib.Core.List.{List, [], ◌∷◌, ◌++◌, map}
use Prim.Native.Nat.{ℕ, ◌≤◌}
use native.Mathlib.Omega.{arith}
use lib.Dec.{eqb}
use lib.ListN.{length}
use Rattle.slices.specs.Choice.{pick, first_of}
use Rattle.slices.specs.Tables.{any_of}
use Rattle.tlv_head.specs.Head.{first_byte, constructed}
use Rattle.tlv_list.specs.Objects.{between, is_list}
use Rattle.tlv_list.specs.Place.{data_field}
use Rattle.tlv_list.specs.Lookup.{Lookup, found_value, members_of}
use Rattle.tlv_list.specs.declared.Found.{Found}
use Rattle.tlv_list.specs.declared.Members.{Members}
use Rattle.answer_common.specs.Answer.{frame}
use Rattle.answer_common.specs.Named.{listed, among, direct, times, found_times, value_of, wrong_value, any_times, any_wrong}
use Rattle.answer_common.specs.Single.{single_of}
use Rattle.answer_common.specs.declared.answer.Single.TheVariants.{Object}
use Rattle.answer_common.proofs.Members.{named_list, direct_size}
use Rattle.answer_common.proofs.Membered.{times_found, members_list, in_first, in_second, known, list_refused, list_lines, list_direct}
use Rattle.answer_select.specs.Select.{select_tag, select_names, inner, pdol_of, name_wrong, select_twice, select_wrong}
use Rattle.answer_select.specs.Select.{select_lines}

-- one of three tests, and of two, as one of four
of_three : (x y z : Bool) → (any_of (x ∷ y ∷ []) || any_of (z ∷ [])) ≡ any_of (x ∷ y ∷ z ∷ z ∷ [])
unfolding any_of pick
of_three true y z = refl
of_three false true z = refl
of_three false false true = refl
of_three false false false = refl

of_two : (x y : Bool) → any_of (x ∷ y ∷ []) ≡ any_of (x ∷ y ∷ x ∷ y ∷ [])
unfolding any_of pick
of_two true y = refl
of_two false true = refl
of_two false false = refl

wrong_four : (x y z w : Bool) → (any_of (x ∷ y ∷ []) || (any_of (z ∷ []) || w)) ≡ any_of (x ∷ y ∷ z ∷ w ∷ [])
unfolding any_of pick
wrong_four true y z w = refl
wrong_four false true z w = refl
wrong_four false false true w = refl
wrong_four false false false true = refl
wrong_four false false false false = refl

-- the lines by what stands under the three names
module _ (a aid s p : List ℕ) (name in-a5 list : Found) (one : direct select_tag a 0x84 ≡ found_value s name)
    (two : direct select_tag a 0xA5 ≡ found_value s in-a5) (three : inner a 0x9F38 ≡ found_value p list) where
  how_often : (n : ℕ) (l : Lookup) (s : List ℕ) (f : Found) → l ≡ found_value s f → eqb (times l) n ≡ eqb (found_times f) n
  how_often n l s f e = ap (λ (k : ℕ). eqb k n) (ap times e ∙ times_found s f)

  pub twice_so : any_of (map (λ f. eqb (found_times f) 2) (name ∷ in-a5 ∷ list ∷ list ∷ [])) ≡ select_twice a
  unfolding select_twice any_times
  twice_so =
      sym
      (of_three _ _ _
      ∙ (λ i. any_of (how_often 2 _ s name one i ∷ how_often 2 _ s in-a5 two i ∷ how_often 2 _ p list three i
      ∷ how_often 2 _ p list three i ∷ [])))

  pub wrong_so : any_of (wrong_value 0x84 (found_value s name) ∷ wrong_value 0xA5 (found_value s in-a5) ∷ wrong_value 0x9F38
      (found_value p list)
      ∷ name_wrong aid (found_value s name) ∷ []) ≡ select_wrong aid a
  unfolding select_wrong any_wrong
  wrong_so =
      sym
      (wrong_four _ _ _ _
      ∙ (λ i. any_of (wrong_value 0x84 (one i) ∷ wrong_value 0xA5 (two i) ∷ wrong_value 0x9F38 (three i) ∷ name_wrong aid (one i) ∷ [])))

  pub missing_so : any_of (map (λ f. eqb (found_times f) 0) (name ∷ in-a5 ∷ name ∷ in-a5 ∷ []))
      ≡ any_times 0 select_names (direct select_tag a)
  unfolding any_times
  missing_so =
      sym
      (of_two _ _
      ∙ (λ i. any_of (how_often 0 _ s name one i ∷ how_often 0 _ s in-a5 two i ∷ how_often 0 _ s name one i
      ∷ how_often 0 _ s in-a5 two i ∷ [])))

  pub pdol_so : value_of (found_value p list) ≡ pdol_of a
  unfolding pdol_of
  pdol_so = sym (ap value_of three)

-- what the two passes found, where the answer's one object is 6F
module _ (a aid : List ℕ) (start end : ℕ) (e : single_of a ≡ Object 0x6F start end) {s : List ℕ}
    (here : s ≡ between (data_field a) start end) {m : Members} (pass : m ≡ members_of s 0x84 0xA5 0x84 0xA5) where
  abbrev lines : List (Bool × ℕ)
  lines = select_lines aid a

  expected : listed 0x6F (0x6F ∷ []) ≡ true
  unfolding listed any_of pick
  expected = refl

  is_constructed : constructed 0x6F ≡ true
  unfolding constructed first_byte pick
  is_constructed = refl

  short : length s ≤ 4096
  short = let k = (known a 0x6F start end e).short in let l = ap length here in omega (arith, k, l)

  pub is_list_lem : m.list ≡ is_list s
  is_list_lem = ap (λ (x : Members). x.list) pass ∙ members_list s 0x84 0xA5 0x84 0xA5 short

  pub no_list : m.list ≡ false → first_of (frame (0x6F ∷ []) a ++ lines) ≡ 3
  no_list n = list_refused a 0x6F start end e (0x6F ∷ []) lines expected is_constructed (ap is_list (sym here) ∙ (sym is_list_lem ∙ n))

  module _ (y : m.list ≡ true) where
    l : is_list s ≡ true
    l = sym is_list_lem ∙ y

    l' : is_list (between (data_field a) start end) ≡ true
    l' = ap is_list (sym here) ∙ l

    pub on_lines : first_of (frame (0x6F ∷ []) a ++ lines) ≡ first_of lines
    on_lines = list_lines a 0x6F start end e (0x6F ∷ []) lines expected is_constructed l'

    stands : direct select_tag a ≡ among s
    stands = list_direct a 0x6F start end e (0x6F ∷ []) lines expected is_constructed l' ∙ ap among (sym here)

    pub name_found : direct select_tag a 0x84 ≡ found_value s m.first
    name_found =
        ap (λ (look : ℕ → Lookup). look 0x84) stands
        ∙ (in_first s 0x84 0xA5 0x84 0xA5 short l ∙ ap (λ (x : Members). found_value s x.first) (sym pass))

    pub a5_found : direct select_tag a 0xA5 ≡ found_value s m.second
    a5_found =
        ap (λ (look : ℕ → Lookup). look 0xA5) stands
        ∙ (in_second s 0x84 0xA5 0x84 0xA5 short l ∙ ap (λ (x : Members). found_value s x.second) (sym pass))

    module _ {p : List ℕ} (inside : p ≡ value_of (found_value s m.second)) {n : Members}
        (again : n ≡ members_of p 0x9F38 0x9F38 0x9F38 0x9F38) where
      same : p ≡ value_of (direct select_tag a 0xA5)
      same = inside ∙ ap value_of (sym a5_found)

      p_short : length p ≤ 4096
      p_short = let k = direct_size select_tag a 0xA5 in let z = ap length same in omega (arith, k, z)

      p_list : is_list p ≡ true
      unfolding among constructed first_byte pick
      p_list =
          ap is_list (same ∙ ap (λ (look : ℕ → Lookup). value_of (look 0xA5)) stands) ∙ named_list s 0xA5 l refl

      pub list_found : inner a 0x9F38 ≡ found_value p n.first
      unfolding inner
      list_found =
          ap (λ (x : List ℕ). among x 0x9F38) (sym same)
          ∙ (in_first p 0x9F38 0x9F38 0x9F38 0x9F38 p_short p_list ∙ ap (λ (x : Members). found_value p x.first) (sym again))
