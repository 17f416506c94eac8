-- The lines of GPO by the form of the answer: joined values, or what one pass over a template found.
-- Assumes nothing.
use mathlib.Core.Path.{◌≡◌, refl, sym, ap, ◌∙◌}
use mathlib.Core.Bool.{Bool, true, false, not, ◌&&◌, ◌||◌}
use mathlib.Core.List.{List, [], ◌∷◌, ◌++◌, map}
use Prim.Native.Nat.{ℕ, ◌≤◌}
use native.Mathlib.Omega.{arith}
use lib.Dec.{eqb}
use lib.ListN.{length, drop}
use Rattle.slices.specs.Choice.{pick, first_of}
use Rattle.slices.specs.Tables.{any_of}
use Rattle.slices.proofs.Choice.{pick_yes, pick_no}
use Rattle.slices.proofs.Lines.{line_no, one_more_lem}
use Rattle.tlv_list.specs.Objects.{between, is_list}
use Rattle.tlv_list.specs.Place.{data_field}
use Rattle.tlv_list.specs.Lookup.{Lookup, found_value, members_of}
use Rattle.tlv_list.specs.declared.Found.{Found}
use Rattle.tlv_list.specs.declared.Members.{Members}
use Rattle.answer_afl.specs.Entries.{whole_entries, entries_right, too_many}
use Rattle.answer_common.specs.Answer.{is_one, frame}
use Rattle.answer_common.specs.Forms.{template, joined, both_forms, lacks}
use Rattle.answer_common.specs.Named.{among, direct, times, found_times, value_of, wrong_value, any_times, any_wrong}
use Rattle.answer_common.specs.Single.{single_of}
use Rattle.answer_common.specs.declared.answer.Single.TheVariants.{Object}
use Rattle.answer_common.proofs.BothForms.{joined_lines, joined_inside, joined_one_lem, none_lacks, none_twice, none_wrong}
use Rattle.answer_common.proofs.BothForms.{template_refused, template_lines, template_direct, not_joined, as_missing}
use Rattle.answer_common.proofs.Membered.{times_found, members_list, in_first, in_second, known}
use Rattle.answer_gpo.specs.Options.{option_names, locator_of, options_wrong, options_lines}

module _ (a : List ℕ) (start end : ℕ) (e : single_of a ≡ Object joined start end) {afl : List ℕ}
    (here : afl ≡ drop 2 (between (data_field a) start end)) where
  abbrev lines : List (Bool × ℕ)
  lines = options_lines a

  same : locator_of a ≡ afl
  unfolding locator_of
  same = pick_yes _ _ _ (joined_one_lem a lines start end e) ∙ (ap (drop 2) (joined_inside a lines start end e) ∙ sym here)

  as_entries : options_wrong a ≡ not (whole_entries afl)
  unfolding options_wrong
  as_entries =
      ap (λ (b : Bool). b || (is_one joined a && not (whole_entries (locator_of a)))) (none_wrong a lines start end e option_names)
      ∙ (ap (λ (b : Bool). b && not (whole_entries (locator_of a))) (joined_one_lem a lines start end e)
      ∙ ap (λ (x : List ℕ). not (whole_entries x)) same)

  -- what is left of the lines
  pub joined_reason : first_of (frame both_forms a ++ lines)
      ≡ first_of ((not (whole_entries afl), 5) ∷ (not (entries_right afl), 6) ∷ (too_many afl, 7) ∷ [])
  unfolding options_lines
  joined_reason =
      joined_lines a lines start end e
      ∙ (line_no refl 4 _ (none_twice a lines start end e option_names)
      ∙ one_more_lem 5 _ _ as_entries
      (one_more_lem 6 _ _ (ap (λ (x : List ℕ). not (entries_right x)) same)
      (one_more_lem 7 _ _ (ap too_many same) (line_no refl 8 [] (none_lacks a lines start end e option_names)))))

-- of two names, asked for as four
of_two : (x y : Bool) → any_of (x ∷ y ∷ []) ≡ any_of (x ∷ y ∷ x ∷ y ∷ [])
unfolding any_of pick
of_two true y = refl
of_two false true = refl
of_two false false = refl

or_false : (x : Bool) → (x || false) ≡ x
or_false true = refl
or_false false = refl

module _ (a : List ℕ) (start end : ℕ) (e : single_of a ≡ Object template start end) {s : List ℕ}
    (here : s ≡ between (data_field a) start end) {m : Members} (pass : m ≡ members_of s 0x82 0x94 0x82 0x94) where
  abbrev all_lines : List (Bool × ℕ)
  all_lines = options_lines a

  short : length s ≤ 4096
  short = let k = (known a template start end e).short in let l = ap length here in omega (arith, k, l)

  is_list_lem : m.list ≡ is_list s
  is_list_lem = ap (λ (x : Members). x.list) pass ∙ members_list s 0x82 0x94 0x82 0x94 short

  pub no_list : m.list ≡ false → first_of (frame both_forms a ++ all_lines) ≡ 3
  no_list n = template_refused a all_lines start end e here (sym is_list_lem ∙ n)

  module _ (y : m.list ≡ true) where
    l : is_list s ≡ true
    l = sym is_list_lem ∙ y

    pub on_lines : first_of (frame both_forms a ++ all_lines) ≡ first_of all_lines
    on_lines = template_lines a all_lines start end e here l

    stands : direct template a ≡ among s
    stands = template_direct a all_lines start end e here l

    profile_found : direct template a 0x82 ≡ found_value s m.first
    profile_found =
        ap (λ (look : ℕ → Lookup). look 0x82) stands
        ∙ (in_first s 0x82 0x94 0x82 0x94 short l ∙ ap (λ (x : Members). found_value s x.first) (sym pass))

    locator_found : direct template a 0x94 ≡ found_value s m.second
    locator_found =
        ap (λ (look : ℕ → Lookup). look 0x94) stands
        ∙ (in_second s 0x82 0x94 0x82 0x94 short l ∙ ap (λ (x : Members). found_value s x.second) (sym pass))

    how_often : (n : ℕ) (x : Lookup) (f : Found) → x ≡ found_value s f → eqb (times x) n ≡ eqb (found_times f) n
    how_often n x f e = ap (λ (k : ℕ). eqb k n) (ap times e ∙ times_found s f)

    pub times_so : (n : ℕ) → any_of (map (λ f. eqb (found_times f) n) (m.first ∷ m.second ∷ m.first ∷ m.second ∷ []))
        ≡ any_times n option_names (direct template a)
    unfolding any_times
    times_so n =
        sym
        (of_two _ _
        ∙ (λ i. any_of (how_often n _ m.first profile_found i ∷ how_often n _ m.second locator_found i
        ∷ how_often n _ m.first profile_found i ∷ how_often n _ m.second locator_found i ∷ [])))

    pub missing_so : any_of (map (λ f. eqb (found_times f) 0) (m.first ∷ m.second ∷ m.first ∷ m.second ∷ [])) ≡ lacks option_names a
    missing_so = times_so 0 ∙ sym (as_missing a all_lines start end e here l option_names)

    pub wrong_so : options_wrong a ≡ any_of (wrong_value 0x82 (found_value s m.first) ∷ wrong_value 0x94 (found_value s m.second) ∷ [])
    unfolding options_wrong any_wrong
    wrong_so =
        ap (λ (b : Bool). any_wrong option_names (direct template a) || (b && not (whole_entries (locator_of a))))
        (not_joined a all_lines start end e here l)
        ∙ (or_false _ ∙ (λ i. any_of (wrong_value 0x82 (profile_found i) ∷ wrong_value 0x94 (locator_found i) ∷ [])))

    pub locator_so : value_of (found_value s m.second) ≡ locator_of a
    unfolding locator_of
    locator_so = ap value_of (sym locator_found) ∙ sym (pick_no _ _ _ (not_joined a all_lines start end e here l))
