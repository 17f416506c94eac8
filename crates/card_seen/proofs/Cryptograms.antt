-- The answer to GENERATE AC, in both forms: its reason and its cryptogram, from what is seen of it.
-- Assumes nothing.
use mathlib.Core.Path.{◌≡◌, refl, sym, ap, ap₂, ◌∙◌, subst}
use mathlib.Core.Bool.{Bool, true, false, not, ◌||◌, or-false}
use mathlib.Core.List.{List, [], ◌∷◌, ◌++◌}
use Prim.Native.Nat.{ℕ, ◌≤◌, ◌<◌, ◌+◌}
use native.Mathlib.Omega.{arith}
use lib.Dec.{eqb, ltb}
use lib.ListN.{length, get_or, take, drop, length-take, length-drop}
use borrow.Author.Tests.{ltb-true, ltb-false, eqb-true}
use Rattle.slices.specs.Choice.{pick, first_of}
use Rattle.slices.specs.Tables.{any_of, beside}
use Rattle.slices.specs.Tests.{between}
use Rattle.slices.proofs.Choice.{pick_yes, pick_no, either}
use Rattle.slices.proofs.Tables.{or_no, and_yes, and_no}
use Rattle.slices.proofs.Lines.{one_more_lem}
use Rattle.tlv_list.specs.Objects.{Object}
use Rattle.tlv_list.specs.Lookup.{Lookup, absent, once, met, lookup}
use Rattle.answer_common.specs.Answer.{is_one, inside}
use Rattle.answer_common.specs.Content.{meets, rules, rule_for, right_value}
use Rattle.answer_common.specs.Named.{listed, direct, times, told, value_of, wrong_value}
use Rattle.answer_common.specs.Named.{any_times, any_twice, any_missing, any_wrong}
use Rattle.answer_common.specs.Forms.{template, joined, lacks}
use Rattle.answer_common.proofs.Absent.{not_direct}
use Rattle.answer_common.proofs.Alike.{times_alike, wrong_alike}
use Rattle.answer_common.proofs.Limits.{between_in, between_below, between_above}
use Rattle.answer_common.proofs.Names.{listed_more}
use Rattle.decide_cryptogram.specs.Cryptograms.{given_by}
use Rattle.decide_cryptogram.specs.Cryptograms.{Given}
use Rattle.answer_cryptogram.specs.Cryptogram.{mandatory_names, cryptogram_names, information_of, cryptogram_of}
use Rattle.answer_cryptogram.specs.Cryptogram.{cryptogram_wrong, cryptogram_lines, cryptogram_reason}
use Rattle.card_seen.specs.Seen.{names_at, expected_at, objects_at, named_at, generation, if_left, apart_cryptogram, in_forms}
use Rattle.card_seen.specs.Seen.{shown_as, shown, Shown, Seen, seen}
use Rattle.card_seen.proofs.Looking.{itself, back, under}
use Rattle.card_seen.proofs.Frames.{frame_by}
use Rattle.card_seen.proofs.Forms.{not_template, joined_lacks, in_template, by_form}

unfoldable pub cryptogram_given : Seen → Given
cryptogram_given v = given_by (get_or (value_of (under v.objects 0x9F27)) 0 0)

-- the lines of an answer in a template, by what stands under the names
unfoldable pub lines_by : (Given → Bool) → (ℕ → Lookup) → List (Bool × ℕ)
lines_by allowed look =
    (any_twice cryptogram_names look, 4)
    ∷ (any_wrong cryptogram_names look, 5)
    ∷ (any_missing mandatory_names look, 8)
    ∷ (not (allowed (given_by (get_or (value_of (look 0x9F27)) 0 0))), 10)
    ∷ []

unfoldable pub cryptogram_by : (Given → Bool) → Seen → ℕ
cryptogram_by allowed v = first_of (frame_by v ++ lines_by allowed (under v.objects))

named_too : (name : ℕ) → listed name mandatory_names ≡ true → listed name cryptogram_names ≡ true
named_too name l = listed_more name mandatory_names (0x9F10 ∷ []) l

-- 11 bytes more, and limits that are 11 higher
shifted : (n m : ℕ) → n ≡ 11 + m → between 11 43 n ≡ between 0 32 m
shifted n m e =
    either (ltb 32 m)
    (λ y. let h = ltb-true 32 m y in between_above 11 43 n (omega arith) ∙ sym (between_above 0 32 m h))
    (λ k. let h = ltb-false 32 m k in between_in 11 43 n (omega arith) (omega arith) ∙ sym (between_in 0 32 m (omega arith) h))

first_byte : (v : List ℕ) → get_or (take 1 v) 0 0 ≡ get_or v 0 0
first_byte [] = refl
first_byte (b ∷ v) = refl

-- ---- joined values, taken apart

module _ (v : List ℕ) where
  abbrev information : List ℕ
  information = take 1 v

  abbrev counter : List ℕ
  counter = take 2 (drop 1 v)

  abbrev cryptogram : List ℕ
  cryptogram = take 8 (drop 3 v)

  abbrev issuer : List ℕ
  issuer = drop 11 v

  abbrev three : List Object
  three =
      record { tag = 0x9F27; value = information }
      ∷ record { tag = 0x9F36; value = counter }
      ∷ record { tag = 0x9F26; value = cryptogram }
      ∷ []

  abbrev four : List Object
  four = three ++ (record { tag = 0x9F10; value = issuer } ∷ [])

  abbrev look : List Object → ℕ → Lookup
  look ms name = under (shown (names_at generation) ms) name

  -- where no bytes are left, and where some are
  none_left : eqb (length issuer) 0 ≡ true → apart_cryptogram v ≡ three
  unfolding apart_cryptogram if_left
  none_left y =
      ap (λ (ms : List Object). record { tag = 0x9F27; value = information } ∷ record { tag = 0x9F36; value = counter }
      ∷ record { tag = 0x9F26; value = cryptogram } ∷ ms) (pick_yes _ _ _ y)

  some_left : eqb (length issuer) 0 ≡ false → apart_cryptogram v ≡ four
  unfolding apart_cryptogram if_left
  some_left n =
      ap (λ (ms : List Object). record { tag = 0x9F27; value = information } ∷ record { tag = 0x9F36; value = counter }
      ∷ record { tag = 0x9F26; value = cryptogram } ∷ ms) (pick_no _ _ _ n)

  abbrev At : (ℕ → Lookup) → Lookup → Type 0
  At f last = (f 0x9F27 ≡ once information) × ((f 0x9F36 ≡ once counter) × ((f 0x9F26 ≡ once cryptogram) × (f 0x9F10 ≡ last)))

  three_look : At (look three) absent
  unfolding names_at shown shown_as listed any_of beside pick back under lookup met
  three_look = (refl, (refl, (refl, refl)))

  four_look : At (look four) (once issuer)
  unfolding names_at shown shown_as listed any_of beside pick back under lookup met
  four_look = (refl, (refl, (refl, refl)))

  -- what stands under the names, and how the four together are wrong
  abbrev wrong_by : Lookup → Lookup → Lookup → Lookup → Bool
  wrong_by x y z w =
      pick (wrong_value 0x9F27 x) true
      (pick (wrong_value 0x9F36 y) true (pick (wrong_value 0x9F26 z) true (pick (wrong_value 0x9F10 w) true false)))

  -- one of the three is too short, where there are fewer than 11 bytes
  short_wrong : (last : Lookup) → length v < 11 → wrong_by (once information) (once counter) (once cryptogram) last ≡ true
  unfolding wrong_value right_value rule_for rules beside meets pick
  short_wrong last h =
      let one = length-take 1 v in
      let two = length-take 2 (drop 1 v) in
      let eight = length-take 8 (drop 3 v) in
      let after_one = length-drop 1 v in
      let after_three = length-drop 3 v in
      either (ltb (length v) 1)
      (λ e. let l = ltb-true (length v) 1 e in pick_yes _ _ _ (ap not (between_below 1 1 (length information) (omega arith))))
      (λ e.
      let l = ltb-false (length v) 1 e in
      pick_no _ _ _ (ap not (between_in 1 1 (length information) (omega arith) (omega arith)))
      ∙ either (ltb (length v) 3)
      (λ f. let m = ltb-true (length v) 3 f in pick_yes _ _ _ (ap not (between_below 2 2 (length counter) (omega arith))))
      (λ f.
      let m = ltb-false (length v) 3 f in
      pick_no _ _ _ (ap not (between_in 2 2 (length counter) (omega arith) (omega arith)))
      ∙ pick_yes _ _ _ (ap not (between_below 8 8 (length cryptogram) (omega arith)))))

  long_wrong : (last : Lookup) → 11 ≤ length v
      → wrong_by (once information) (once counter) (once cryptogram) last ≡ wrong_value 0x9F10 last
  unfolding wrong_value right_value rule_for rules beside meets pick
  long_wrong last h =
      let one = length-take 1 v in
      let two = length-take 2 (drop 1 v) in
      let eight = length-take 8 (drop 3 v) in
      let after_one = length-drop 1 v in
      let after_three = length-drop 3 v in
      pick_no _ _ _ (ap not (between_in 1 1 (length information) (omega arith) (omega arith)))
      ∙ (pick_no _ _ _ (ap not (between_in 2 2 (length counter) (omega arith) (omega arith)))
      ∙ (pick_no _ _ _ (ap not (between_in 8 8 (length cryptogram) (omega arith) (omega arith))) ∙ itself (wrong_value 0x9F10 last)))

  none_more : eqb (length issuer) 0 ≡ true → 11 ≤ length v → wrong_value 0x9F10 absent ≡ not (between 11 43 (length v))
  unfolding wrong_value
  none_more y h =
      let e = eqb-true (length issuer) 0 y in
      let l = length-drop 11 v in
      sym (ap not (between_in 11 43 (length v) (omega arith) (omega arith)))

  some_more : 11 ≤ length v → wrong_value 0x9F10 (once issuer) ≡ not (between 11 43 (length v))
  unfolding wrong_value right_value rule_for rules beside meets pick
  some_more h = let l = length-drop 11 v in ap not (sym (shifted (length v) (length issuer) (omega arith)))

  -- wrong exactly as the joined values are
  apart_wrong : (last : Lookup) → (11 ≤ length v → wrong_value 0x9F10 last ≡ not (between 11 43 (length v)))
      → wrong_by (once information) (once counter) (once cryptogram) last ≡ not (between 11 43 (length v))
  apart_wrong last more =
      either (ltb (length v) 11)
      (λ e. let h = ltb-true (length v) 11 e in short_wrong last h ∙ sym (ap not (between_below 11 43 (length v) h)))
      (λ e. let h = ltb-false (length v) 11 e in long_wrong last h ∙ more h)

  -- whatever the last is: none stands twice, and none that must be there is missing
  pub record Apart (f : ℕ → Lookup) : Type 0 where
    pub information_there : f 0x9F27 ≡ once information
    pub not_twice : any_twice cryptogram_names f ≡ false
    pub wrong : any_wrong cryptogram_names f ≡ not (between 11 43 (length v))
    pub none_missing : any_missing mandatory_names f ≡ false

  taken_apart : (f : ℕ → Lookup) (last : Lookup) → At f last → eqb (times last) 2 ≡ false
      → (11 ≤ length v → wrong_value 0x9F10 last ≡ not (between 11 43 (length v))) → Apart f
  unfolding any_times any_wrong any_of times pick
  taken_apart f last at once' more =
      let by : (g : Lookup → Lookup → Lookup → Lookup → Bool)
      → g (f 0x9F27) (f 0x9F36) (f 0x9F26) (f 0x9F10) ≡ g (once information) (once counter) (once cryptogram) last
      = λ g. ap₂ (λ (x y : Lookup). g x y (f 0x9F26) (f 0x9F10)) at.0 at.1.0
      ∙ ap₂ (g (once information) (once counter)) at.1.1.0 at.1.1.1 in
      record {
        information_there = at.0;
        not_twice =
            by (λ x y z w. pick (eqb (times x) 2) true
            (pick (eqb (times y) 2) true (pick (eqb (times z) 2) true (pick (eqb (times w) 2) true false))))
            ∙ (itself (eqb (times last) 2) ∙ once');
        wrong = by wrong_by ∙ apart_wrong last more;
        none_missing =
            by (λ x y z w. pick (eqb (times x) 0) true (pick (eqb (times y) 0) true (pick (eqb (times z) 0) true false)));
      }

  pub joined_apart : Apart (look (apart_cryptogram v))
  unfolding times
  joined_apart =
      either (eqb (length issuer) 0)
      (λ y. subst (λ (ms : List Object). Apart (look ms)) (sym (none_left y))
      (taken_apart (look three) absent three_look refl (none_more y)))
      (λ n. subst (λ (ms : List Object). Apart (look ms)) (sym (some_left n))
      (taken_apart (look four) (once issuer) four_look refl some_more))

-- ---- the answer

module _ (a : List ℕ) where
  abbrev ts : List Shown
  ts = named_at generation a

  as_member : is_one joined a ≡ false → (name : ℕ) → listed name cryptogram_names ≡ true → direct template a name ≡ under ts name
  unfolding named_at names_at objects_at
  as_member = in_template cryptogram_names apart_cryptogram a

  seen_apart : is_one joined a ≡ true → Apart (inside joined a) (under ts)
  unfolding named_at objects_at in_forms
  seen_apart y =
      subst (λ (ms : List Object). Apart (inside joined a) (under (shown (names_at generation) ms))) (sym (pick_yes _ _ _ y))
      (joined_apart (inside joined a))

  module _ (y : is_one joined a ≡ true) where
    none_there : (f : Lookup → Lookup → Lookup → Lookup → Bool)
        → f (direct template a 0x9F27) (direct template a 0x9F36) (direct template a 0x9F26)
        (direct template a 0x9F10) ≡ f absent absent absent absent
    none_there f =
        let e = not_direct template a (not_template a y) in
        ap₂ (λ (x z : Lookup). f x z (direct template a 0x9F26) (direct template a 0x9F10)) (e 0x9F27) (e 0x9F36)
        ∙ ap₂ (f absent absent) (e 0x9F26) (e 0x9F10)

    joined_twice : any_twice cryptogram_names (direct template a) ≡ false
    unfolding any_times any_of times pick
    joined_twice =
        none_there (λ x y z w. pick (eqb (times x) 2) true
        (pick (eqb (times y) 2) true (pick (eqb (times z) 2) true (pick (eqb (times w) 2) true false))))

    joined_wrong : cryptogram_wrong a ≡ not (between 11 43 (length (inside joined a)))
    unfolding cryptogram_wrong any_wrong any_of pick wrong_value
    joined_wrong =
        or_no refl _ (none_there (λ x y z w. pick (wrong_value 0x9F27 x) true
        (pick (wrong_value 0x9F36 y) true (pick (wrong_value 0x9F26 z) true (pick (wrong_value 0x9F10 w) true false)))))
        ∙ and_yes refl _ y

  pub cryptogram_seen : cryptogram_of a ≡ cryptogram_given (seen generation a)
  unfolding cryptogram_of information_of cryptogram_given seen value_of told listed any_of pick
  cryptogram_seen =
      either (is_one joined a)
      (λ y.
      ap (λ (u : List ℕ). given_by (get_or u 0 0)) (pick_yes _ _ _ y)
      ∙ (ap given_by (sym (first_byte (inside joined a)))
      ∙ sym (ap (λ (l : Lookup). given_by (get_or (value_of l) 0 0)) (seen_apart y).information_there)))
      (λ n. ap (λ (u : List ℕ). given_by (get_or u 0 0)) (pick_no _ _ _ n ∙ ap value_of (as_member n 0x9F27 refl)))

  module _ (allowed : Given → Bool) where
    joined_lines : is_one joined a ≡ true → first_of (cryptogram_lines allowed a) ≡ first_of (lines_by allowed (under ts))
    unfolding cryptogram_lines lines_by cryptogram_given seen
    joined_lines y =
        let apart = seen_apart y in
        one_more_lem 4 _ _ (joined_twice y ∙ sym apart.not_twice)
        (one_more_lem 5 _ _ (joined_wrong y ∙ sym apart.wrong)
        (one_more_lem 8 _ _ (joined_lacks mandatory_names a y ∙ sym apart.none_missing)
        (one_more_lem 10 [] [] (ap (λ (given : Given). not (allowed given)) cryptogram_seen) refl)))

    template_wrong : is_one joined a ≡ false → cryptogram_wrong a ≡ any_wrong cryptogram_names (under ts)
    unfolding cryptogram_wrong
    template_wrong n = ap₂ ◌||◌ (wrong_alike cryptogram_names _ _ (as_member n)) (and_no refl _ n ∙ n) ∙ or-false _

    template_lines : is_one joined a ≡ false → is_one template a ≡ true
        → first_of (cryptogram_lines allowed a) ≡ first_of (lines_by allowed (under ts))
    unfolding cryptogram_lines lines_by cryptogram_given seen lacks
    template_lines n y =
        one_more_lem 4 _ _ (times_alike cryptogram_names _ _ 2 (λ name l. ap times (as_member n name l)))
        (one_more_lem 5 _ _ (template_wrong n)
        (one_more_lem 8 _ _ (and_yes refl _ y ∙ times_alike mandatory_names _ _ 0
        (λ name l. ap times (as_member n name (named_too name l))))
        (one_more_lem 10 [] [] (ap (λ (given : Given). not (allowed given)) cryptogram_seen) refl)))

    pub reason_seen : cryptogram_reason allowed a ≡ cryptogram_by allowed (seen generation a)
    unfolding cryptogram_reason cryptogram_by seen expected_at
    reason_seen = by_form generation a _ _ refl joined_lines template_lines
