-- The lines of GENERATE AC by the form of the answer: joined values, or what one pass over a template found.
-- Assumes nothing.
use mathlib.Core.Path.{◌≡◌, refl, sym, ap, ◌∙◌}
use mathlib.Core.Bool.{Bool, true, false, not, ◌&&◌, ◌||◌}
use mathlib.Core.List.{List, [], ◌∷◌, ◌++◌, map}
use Prim.Native.Nat.{ℕ, ◌≤◌}
use native.Mathlib.Omega.{arith}
use lib.Dec.{eqb}
use lib.ListN.{length, get_or}
use Rattle.slices.specs.Choice.{pick, first_of}
use Rattle.slices.specs.Tables.{any_of}
use Rattle.slices.specs.Tests.{between as within}
use Rattle.slices.proofs.Choice.{pick_yes, pick_no}
use Rattle.slices.proofs.Lines.{line_no, one_more_lem}
use Rattle.tlv_list.specs.Objects.{between, is_list}
use Rattle.tlv_list.specs.Place.{data_field}
use Rattle.tlv_list.specs.Lookup.{Lookup, found_value, members_of}
use Rattle.tlv_list.specs.declared.Found.{Found}
use Rattle.tlv_list.specs.declared.Members.{Members}
use Rattle.decide_cryptogram.specs.Cryptograms.{given_by}
use Rattle.decide_cryptogram.specs.Cryptograms.{Given}
use Rattle.answer_common.specs.Answer.{is_one, inside, frame}
use Rattle.answer_common.specs.Forms.{template, joined, both_forms, lacks}
use Rattle.answer_common.specs.Named.{among, direct, times, found_times, value_of, wrong_value, any_times, any_wrong}
use Rattle.answer_common.specs.Single.{single_of}
use Rattle.answer_common.specs.declared.answer.Single.TheVariants.{Object}
use Rattle.answer_common.proofs.BothForms.{joined_lines, joined_inside, joined_one_lem, none_lacks, none_twice, none_wrong}
use Rattle.answer_common.proofs.BothForms.{template_refused, template_lines, template_direct, not_joined, as_missing}
use Rattle.answer_common.proofs.Membered.{times_found, members_list, in_first, in_second, in_third, in_fourth, known}
use Rattle.answer_cryptogram.specs.Cryptogram.{mandatory_names, cryptogram_names, information_of, cryptogram_of, cryptogram_wrong}
use Rattle.answer_cryptogram.specs.Cryptogram.{cryptogram_lines}

-- the last line, by the bytes that begin with that of 9F27
abbrev pub last : (Given → Bool) → List ℕ → List (Bool × ℕ)
last allowed v = (not (allowed (given_by (get_or v 0 0))), 10) ∷ []

module _ (allowed : Given → Bool) (a : List ℕ) (start end : ℕ) (e : single_of a ≡ Object joined start end) {v : List ℕ}
    (here : v ≡ between (data_field a) start end) where
  abbrev lines : List (Bool × ℕ)
  lines = cryptogram_lines allowed a

  same : inside joined a ≡ v
  same = joined_inside a lines start end e ∙ sym here

  by_size : cryptogram_wrong a ≡ not (within 11 43 (length v))
  unfolding cryptogram_wrong
  by_size =
      ap (λ (b : Bool). b || (is_one joined a && not (within 11 43 (length (inside joined a)))))
      (none_wrong a lines start end e cryptogram_names)
      ∙ (ap (λ (b : Bool). b && not (within 11 43 (length (inside joined a)))) (joined_one_lem a lines start end e)
      ∙ ap (λ (x : List ℕ). not (within 11 43 (length x))) same)

  given : cryptogram_of a ≡ given_by (get_or v 0 0)
  unfolding cryptogram_of information_of
  given = ap (λ (x : List ℕ). given_by (get_or x 0 0)) (pick_yes _ _ _ (joined_one_lem a lines start end e) ∙ same)

  -- what is left of the lines
  pub joined_reason : first_of (frame both_forms a ++ lines) ≡ first_of ((not (within 11 43 (length v)), 5) ∷ last allowed v)
  unfolding cryptogram_lines
  joined_reason =
      joined_lines a lines start end e
      ∙ (line_no refl 4 _ (none_twice a lines start end e cryptogram_names)
      ∙ one_more_lem 5 _ _ by_size
      (line_no refl 8 _ (none_lacks a lines start end e mandatory_names)
      ∙ one_more_lem 10 _ _ (ap (λ (g : Given). not (allowed g)) given) refl))

-- of three names, asked for as four
of_three : (x y z : Bool) → any_of (x ∷ y ∷ z ∷ []) ≡ any_of (x ∷ y ∷ z ∷ z ∷ [])
unfolding any_of pick
of_three true y z = refl
of_three false true z = refl
of_three false false true = refl
of_three false false false = refl

or_false : (x : Bool) → (x || false) ≡ x
or_false true = refl
or_false false = refl

module _ (allowed : Given → Bool) (a : List ℕ) (start end : ℕ) (e : single_of a ≡ Object template start end) {s : List ℕ}
    (here : s ≡ between (data_field a) start end) {m : Members} (pass : m ≡ members_of s 0x9F27 0x9F36 0x9F26 0x9F10) where
  abbrev all_lines : List (Bool × ℕ)
  all_lines = cryptogram_lines allowed a

  short : length s ≤ 4096
  short = let k = (known a template start end e).short in let l = ap length here in omega (arith, k, l)

  is_list_lem : m.list ≡ is_list s
  is_list_lem = ap (λ (x : Members). x.list) pass ∙ members_list s 0x9F27 0x9F36 0x9F26 0x9F10 short

  pub no_list : m.list ≡ false → first_of (frame both_forms a ++ all_lines) ≡ 3
  no_list n = template_refused a all_lines start end e here (sym is_list_lem ∙ n)

  module _ (y : m.list ≡ true) where
    l : is_list s ≡ true
    l = sym is_list_lem ∙ y

    pub on_lines : first_of (frame both_forms a ++ all_lines) ≡ first_of all_lines
    on_lines = template_lines a all_lines start end e here l

    stands : (name : ℕ) → direct template a name ≡ among s name
    stands name = ap (λ (look : ℕ → Lookup). look name) (template_direct a all_lines start end e here l)

    one : direct template a 0x9F27 ≡ found_value s m.first
    one = stands 0x9F27 ∙ (in_first s 0x9F27 0x9F36 0x9F26 0x9F10 short l ∙ ap (λ (x : Members). found_value s x.first) (sym pass))

    two : direct template a 0x9F36 ≡ found_value s m.second
    two = stands 0x9F36 ∙ (in_second s 0x9F27 0x9F36 0x9F26 0x9F10 short l ∙ ap (λ (x : Members). found_value s x.second) (sym pass))

    three : direct template a 0x9F26 ≡ found_value s m.third
    three = stands 0x9F26 ∙ (in_third s 0x9F27 0x9F36 0x9F26 0x9F10 short l ∙ ap (λ (x : Members). found_value s x.third) (sym pass))

    four : direct template a 0x9F10 ≡ found_value s m.fourth
    four = stands 0x9F10 ∙ (in_fourth s 0x9F27 0x9F36 0x9F26 0x9F10 short l ∙ ap (λ (x : Members). found_value s x.fourth) (sym pass))

    how_often : (n : ℕ) (x : Lookup) (f : Found) → x ≡ found_value s f → eqb (times x) n ≡ eqb (found_times f) n
    how_often n x f e = ap (λ (k : ℕ). eqb k n) (ap times e ∙ times_found s f)

    pub twice_so : any_of (map (λ f. eqb (found_times f) 2) (m.first ∷ m.second ∷ m.third ∷ m.fourth ∷ []))
        ≡ any_times 2 cryptogram_names (direct template a)
    unfolding any_times
    twice_so = sym (λ i. any_of (how_often 2 _ m.first one i ∷ how_often 2 _ m.second two i ∷ how_often 2 _ m.third three i ∷ how_often 2 _
        m.fourth four i ∷ []))

    pub missing_so : any_of (map (λ f. eqb (found_times f) 0) (m.first ∷ m.second ∷ m.third ∷ m.third ∷ [])) ≡ lacks mandatory_names a
    unfolding any_times
    missing_so =
        sym
        (as_missing a all_lines start end e here l mandatory_names
        ∙ (of_three _ _ _
        ∙ (λ i. any_of (how_often 0 _ m.first one i ∷ how_often 0 _ m.second two i ∷ how_often 0 _ m.third three i ∷ how_often 0 _ m.third
        three i ∷ []))))

    pub wrong_so : any_of (wrong_value 0x9F27 (found_value s m.first) ∷ wrong_value 0x9F36 (found_value s m.second)
        ∷ wrong_value 0x9F26 (found_value s m.third) ∷ wrong_value 0x9F10 (found_value s m.fourth) ∷ []) ≡ cryptogram_wrong a
    unfolding cryptogram_wrong any_wrong
    wrong_so =
        sym
        (ap (λ (b : Bool). any_wrong cryptogram_names (direct template a) || (b && not (within 11 43 (length (inside joined a)))))
        (not_joined a all_lines start end e here l)
        ∙ (or_false _
        ∙ (λ i. any_of (wrong_value 0x9F27 (one i) ∷ wrong_value 0x9F36 (two i) ∷ wrong_value 0x9F26 (three i)
        ∷ wrong_value 0x9F10 (four i) ∷ []))))

    -- the last line
    pub last_so : first_of (last allowed (value_of (found_value s m.first))) ≡ first_of ((not (allowed (cryptogram_of a)), 10) ∷ [])
    unfolding cryptogram_of information_of
    last_so =
        ap (λ (x : List ℕ). first_of (last allowed x))
        (sym (pick_no _ _ _ (not_joined a all_lines start end e here l) ∙ ap value_of one))
