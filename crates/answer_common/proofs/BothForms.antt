-- Answers of two forms, by their one object: what the lines of a template come to where the values are joined, and which form it is.
-- Assumes nothing.
use mathlib.Core.Path.{◌≡◌, refl, sym, ap, subst, ◌∙◌}
use mathlib.Core.Bool.{Bool, true, false, ◌&&◌}
use mathlib.Core.List.{List, [], ◌∷◌, ◌++◌, map}
use Prim.Native.Nat.{ℕ}
use native.Mathlib.Omega.{arith}
use lib.Dec.{eqb}
use borrow.Author.Tests.{ne_eqb}
use Rattle.slices.specs.Choice.{pick, first_of}
use Rattle.slices.specs.Tables.{any_of}
use Rattle.slices.proofs.Choice.{pick_no}
use Rattle.tlv_head.specs.Head.{first_byte, constructed}
use Rattle.tlv_list.specs.Objects.{between, is_list}
use Rattle.tlv_list.specs.Place.{data_field}
use Rattle.tlv_list.specs.Lookup.{Lookup, absent}
use Rattle.answer_common.specs.Answer.{is_one, inside, frame}
use Rattle.answer_common.specs.Forms.{template, joined, both_forms, lacks}
use Rattle.answer_common.specs.Named.{listed, among, direct, times, wrong_value, any_times, any_wrong}
use Rattle.answer_common.specs.Single.{single_of}
use Rattle.answer_common.specs.declared.answer.Single.TheVariants.{Refused, Object}
use Rattle.answer_common.proofs.Absent.{not_direct, one_form}
use Rattle.answer_common.proofs.Membered.{unexpected, plain_lines, plain_inside, plain_one, list_refused, list_lines}
use Rattle.answer_common.proofs.Membered.{list_direct, list_one}
use Rattle.answer_common.proofs.Single.{Found, found, refused as reason_found}

module _ (a : List ℕ) (lines : List (Bool × ℕ)) where
  abbrev all : ℕ
  all = first_of (frame both_forms a ++ lines)

  pub refused : (why : ℕ) → single_of a ≡ Refused why → why ≡ all
  refused why e = sym (reason_found a both_forms lines why (subst (Found a) e (found a)))

  neither : (tag : ℕ) → (tag ≡ joined → ⊥) → (tag ≡ template → ⊥) → listed tag both_forms ≡ false
  unfolding listed any_of
  neither tag n k = pick_no _ _ _ (ne_eqb tag template k) ∙ pick_no _ _ _ (ne_eqb tag joined n)

  pub other : (tag start end : ℕ) → single_of a ≡ Object tag start end → (tag ≡ joined → ⊥) → (tag ≡ template → ⊥) → 3 ≡ all
  other tag start end e n k = sym (unexpected a tag start end e both_forms lines (neither tag n k))

  module _ (start end : ℕ) (e : single_of a ≡ Object joined start end) where
    is_expected : listed joined both_forms ≡ true
    unfolding listed any_of pick
    is_expected = refl

    is_plain : constructed joined ≡ false
    unfolding constructed first_byte pick
    is_plain = refl

    pub joined_lines : all ≡ first_of lines
    joined_lines = plain_lines a joined start end e both_forms lines is_expected is_plain

    pub joined_inside : inside joined a ≡ between (data_field a) start end
    joined_inside = plain_inside a joined start end e both_forms lines is_expected is_plain

    pub joined_one_lem : is_one joined a ≡ true
    joined_one_lem = plain_one a joined start end e both_forms lines is_expected is_plain

    no_template : is_one template a ≡ false
    no_template = one_form joined template a (λ z. omega (arith, z)) joined_one_lem

    pub none_lacks : (names : List ℕ) → lacks names a ≡ false
    unfolding lacks
    none_lacks names = ap (λ (b : Bool). b && any_times 0 names (direct template a)) no_template

    nothing : (p : ℕ → Lookup → Bool) (names : List ℕ) → ((name : ℕ) → p name absent ≡ false)
        → any_of (map (λ name. p name (direct template a name)) names) ≡ false
    unfolding any_of
    nothing p [] h = refl
    nothing p (n ∷ ns) h = pick_no _ _ _ (ap (p n) (not_direct template a no_template n) ∙ h n) ∙ nothing p ns h

    pub none_twice : (names : List ℕ) → any_times 2 names (direct template a) ≡ false
    unfolding any_times times
    none_twice names = nothing (λ name l. eqb (times l) 2) names (λ name. refl)

    pub none_wrong : (names : List ℕ) → any_wrong names (direct template a) ≡ false
    unfolding any_wrong wrong_value
    none_wrong names = nothing wrong_value names (λ name. refl)

  module _ (start end : ℕ) (e : single_of a ≡ Object template start end) {s : List ℕ} (here : s ≡ between (data_field a) start end) where
    expects : listed template both_forms ≡ true
    unfolding listed any_of pick
    expects = refl

    is_constructed : constructed template ≡ true
    unfolding constructed first_byte pick
    is_constructed = refl

    pub template_refused : is_list s ≡ false → all ≡ 3
    template_refused n = list_refused a template start end e both_forms lines expects is_constructed (ap is_list (sym here) ∙ n)

    module _ (l : is_list s ≡ true) where
      l' : is_list (between (data_field a) start end) ≡ true
      l' = ap is_list (sym here) ∙ l

      pub template_lines : all ≡ first_of lines
      template_lines = list_lines a template start end e both_forms lines expects is_constructed l'

      pub template_direct : direct template a ≡ among s
      template_direct = list_direct a template start end e both_forms lines expects is_constructed l' ∙ ap among (sym here)

      pub template_one : is_one template a ≡ true
      template_one = list_one a template start end e both_forms lines expects is_constructed l'

      pub not_joined : is_one joined a ≡ false
      not_joined = one_form template joined a (λ z. omega (arith, z)) template_one

      pub as_missing : (names : List ℕ) → lacks names a ≡ any_times 0 names (direct template a)
      unfolding lacks
      as_missing names = ap (λ (b : Bool). b && any_times 0 names (direct template a)) template_one
