-- The answer to GPO, in both forms: its reason, the AIP and the AFL, from what is seen of it.
-- Assumes nothing.
use mathlib.Core.Path.{◌≡◌, refl, sym, ap, ap₂, ◌∙◌}
use mathlib.Core.Bool.{Bool, true, false, not, ◌||◌, or-false}
use mathlib.Core.List.{List, [], ◌∷◌, ◌++◌}
use Prim.Native.Nat.{ℕ, ◌≤◌, ◌<◌}
use native.Mathlib.Omega.{arith}
use lib.Dec.{eqb, ltb}
use lib.ListN.{length, take, drop, length-take, length-drop}
use borrow.Author.Tests.{ltb-true, ltb-false, lt-leb}
use Rattle.slices.specs.Choice.{pick, first_of}
use Rattle.slices.specs.Tables.{any_of, beside}
use Rattle.slices.proofs.Choice.{pick_yes, pick_no, either}
use Rattle.slices.proofs.Tables.{or_no, and_yes, and_no}
use Rattle.slices.proofs.Tests.{failed}
use Rattle.slices.proofs.Lines.{one_more_lem}
use Rattle.tlv_list.specs.Lookup.{Lookup, absent, once, met, lookup}
use Rattle.answer_afl.specs.Entries.{whole_entries, entries_right, too_many}
use Rattle.answer_common.specs.Answer.{is_one, inside}
use Rattle.answer_common.specs.Content.{meets, rules, rule_for, right_value}
use Rattle.answer_common.specs.Named.{listed, direct, times, told, value_of, wrong_value}
use Rattle.answer_common.specs.Named.{any_times, any_twice, any_missing, any_wrong}
use Rattle.answer_common.specs.Forms.{template, joined, lacks}
use Rattle.answer_common.proofs.Absent.{not_direct}
use Rattle.answer_common.proofs.Alike.{times_alike, wrong_alike}
use Rattle.answer_common.proofs.Limits.{between_in, between_below}
use Rattle.answer_gpo.specs.Options.{option_names, profile_of, locator_of, options_wrong, options_lines, options_reason}
use Rattle.card_seen.specs.Seen.{names_at, expected_at, objects_at, named_at, options, apart_options, in_forms, shown_as, shown}
use Rattle.card_seen.specs.Seen.{Shown, Seen, seen}
use Rattle.card_seen.proofs.Looking.{itself, back, under}
use Rattle.card_seen.proofs.Frames.{frame_by}
use Rattle.card_seen.proofs.Forms.{not_template, joined_lacks, in_template, by_form}

unfoldable pub profile_by : Seen → List ℕ
profile_by v = value_of (under v.objects 0x82)

unfoldable pub locator_by : Seen → List ℕ
locator_by v = value_of (under v.objects 0x94)

-- the lines of an answer in a template, by what stands under the names
unfoldable pub lines_by : (ℕ → Lookup) → List (Bool × ℕ)
lines_by look =
    (any_twice option_names look, 4)
    ∷ (any_wrong option_names look, 5)
    ∷ (not (entries_right (value_of (look 0x94))), 6)
    ∷ (too_many (value_of (look 0x94)), 7)
    ∷ (any_missing option_names look, 8)
    ∷ []

unfoldable pub options_by : Seen → ℕ
options_by v = first_of (frame_by v ++ lines_by (under v.objects))

module _ (a : List ℕ) where
  abbrev ts : List Shown
  ts = named_at options a

  -- of an answer that is not joined the template's members are seen
  as_member : is_one joined a ≡ false → (name : ℕ) → listed name option_names ≡ true → direct template a name ≡ under ts name
  unfolding named_at names_at objects_at
  as_member = in_template option_names apart_options a

  -- of joined values the two objects that they stand for
  abbrev v : List ℕ
  v = inside joined a

  apart_seen : is_one joined a ≡ true → ts ≡ shown (names_at options) (apart_options v)
  unfolding named_at objects_at in_forms
  apart_seen y = ap (shown (names_at options)) (pick_yes _ _ _ y)

  profile_apart : under (shown (names_at options) (apart_options v)) 0x82 ≡ once (take 2 v)
  unfolding names_at apart_options shown shown_as listed any_of beside pick back under lookup met
  profile_apart = refl

  locator_apart : under (shown (names_at options) (apart_options v)) 0x94 ≡ once (drop 2 v)
  unfolding names_at apart_options shown shown_as listed any_of beside pick back under lookup met
  locator_apart = refl

  module _ (y : is_one joined a ≡ true) where
    profile_there : under ts 0x82 ≡ once (take 2 v)
    profile_there = ap (λ (os : List Shown). under os 0x82) (apart_seen y) ∙ profile_apart

    locator_there : under ts 0x94 ≡ once (drop 2 v)
    locator_there = ap (λ (os : List Shown). under os 0x94) (apart_seen y) ∙ locator_apart

    none_there : (f : Lookup → Lookup → Bool) → f (direct template a 0x82) (direct template a 0x94) ≡ f absent absent
    none_there f = ap₂ f (not_direct template a (not_template a y) 0x82) (not_direct template a (not_template a y) 0x94)

    both_there : (f : Lookup → Lookup → Bool) → f (under ts 0x82) (under ts 0x94) ≡ f (once (take 2 v)) (once (drop 2 v))
    both_there f = ap₂ f profile_there locator_there

    same_twice : any_twice option_names (direct template a) ≡ any_twice option_names (under ts)
    unfolding any_times any_of times pick
    same_twice =
        let f : Lookup → Lookup → Bool = λ x z. pick (eqb (times x) 2) true (pick (eqb (times z) 2) true false) in
        none_there f ∙ sym (both_there f)

    joined_wrong : options_wrong a ≡ not (whole_entries (drop 2 v))
    unfolding options_wrong any_wrong any_of pick wrong_value locator_of
    joined_wrong =
        or_no refl _ (none_there (λ x z. pick (wrong_value 0x82 x) true (pick (wrong_value 0x94 z) true false)))
        ∙ (and_yes refl _ y ∙ ap (λ (u : List ℕ). not (whole_entries u)) (pick_yes _ _ _ y))

    -- fewer than two bytes: the AIP is too short, and there is no AFL
    short_wrong : length v < 2 → (right_value 0x82 (take 2 v) ≡ false) × (whole_entries (drop 2 v) ≡ false)
    unfolding right_value rule_for rules beside pick meets whole_entries
    short_wrong h = (
      between_below 2 2 (length (take 2 v)) (let e = length-take 2 v in omega arith),
      (let e = lt-leb 4 (length (drop 2 v)) (let f = length-drop 2 v in omega arith) in failed refl _ e ∙ e),
    )

    long_right : 2 ≤ length v → right_value 0x82 (take 2 v) ≡ true
    unfolding right_value rule_for rules beside pick meets
    long_right h = let e = length-take 2 v in between_in 2 2 (length (take 2 v)) (omega arith) (omega arith)

    locator_rule : right_value 0x94 (drop 2 v) ≡ whole_entries (drop 2 v)
    unfolding right_value rule_for rules beside pick meets
    locator_rule = refl

    apart_wrong : any_wrong option_names (under ts) ≡ not (whole_entries (drop 2 v))
    unfolding any_wrong any_of wrong_value
    apart_wrong =
        both_there (λ x z. pick (wrong_value 0x82 x) true (pick (wrong_value 0x94 z) true false))
        ∙ either (ltb (length v) 2)
        (λ s. let bad = short_wrong (ltb-true _ 2 s) in pick_yes _ _ _ (ap not bad.0) ∙ sym (ap not bad.1))
        (λ l. pick_no _ _ _ (ap not (long_right (ltb-false _ 2 l))) ∙ (itself _ ∙ ap not locator_rule))

    none_missing : any_missing option_names (under ts) ≡ false
    unfolding any_times any_of times pick
    none_missing = both_there (λ x z. pick (eqb (times x) 0) true (pick (eqb (times z) 0) true false))

  pub profile_seen : profile_of a ≡ profile_by (seen options a)
  unfolding profile_of profile_by seen value_of told listed any_of pick
  profile_seen =
      either (is_one joined a)
      (λ y. pick_yes _ _ _ y ∙ sym (ap value_of (profile_there y)))
      (λ n. pick_no _ _ _ n ∙ ap value_of (as_member n 0x82 refl))

  pub locator_seen : locator_of a ≡ locator_by (seen options a)
  unfolding locator_of locator_by seen value_of told listed any_of pick
  locator_seen =
      either (is_one joined a)
      (λ y. pick_yes _ _ _ y ∙ sym (ap value_of (locator_there y)))
      (λ n. pick_no _ _ _ n ∙ ap value_of (as_member n 0x94 refl))

  joined_lines : is_one joined a ≡ true → first_of (options_lines a) ≡ first_of (lines_by (under ts))
  unfolding options_lines lines_by locator_by seen
  joined_lines y =
      one_more_lem 4 _ _ (same_twice y)
      (one_more_lem 5 _ _ (joined_wrong y ∙ sym (apart_wrong y))
      (one_more_lem 6 _ _ (ap (λ (u : List ℕ). not (entries_right u)) locator_seen)
      (one_more_lem 7 _ _ (ap too_many locator_seen)
      (one_more_lem 8 [] [] (joined_lacks option_names a y ∙ sym (none_missing y)) refl))))

  template_wrong : is_one joined a ≡ false → options_wrong a ≡ any_wrong option_names (under ts)
  unfolding options_wrong
  template_wrong n =
      ap₂ ◌||◌ (wrong_alike option_names _ _ (as_member n)) (and_no refl _ n ∙ n) ∙ or-false _

  template_lines : is_one joined a ≡ false → is_one template a ≡ true → first_of (options_lines a) ≡ first_of (lines_by (under ts))
  unfolding options_lines lines_by locator_by seen lacks
  template_lines n y =
      one_more_lem 4 _ _ (times_alike option_names _ _ 2 (λ name l. ap times (as_member n name l)))
      (one_more_lem 5 _ _ (template_wrong n)
      (one_more_lem 6 _ _ (ap (λ (u : List ℕ). not (entries_right u)) locator_seen)
      (one_more_lem 7 _ _ (ap too_many locator_seen)
      (one_more_lem 8 [] [] (and_yes refl _ y ∙ times_alike option_names _ _ 0 (λ name l. ap times (as_member n name l))) refl))))

  pub options_seen : options_reason a ≡ options_by (seen options a)
  unfolding options_reason options_by seen expected_at
  options_seen = by_form options a _ _ refl joined_lines template_lines
