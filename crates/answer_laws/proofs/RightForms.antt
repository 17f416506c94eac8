-- An answer to GPO or GENERATE AC, which come in two forms, has no reason exactly where all that 01 asks of it is there and right.
-- `Right..` says so for each form, and each law goes both ways, since the line of a reason fails just where its part of `Right..`
-- holds.
-- Assumes nothing.
use mathlib.Core.Path.{◌≡◌, refl, sym, ap, ◌∙◌}
use mathlib.Core.Bool.{Bool, true, false, not}
use mathlib.Core.List.{List}
use mathlib.Core.Logic.{◌⊎◌, inl, inr, ◌↔◌}
use Prim.Native.Nat.{ℕ, ◌-◌}
use native.Mathlib.Omega.{arith}
use lib.ListN.{length, length-drop}
use borrow.Author.Tests.{not-false, le-ltb}
use Rattle.slices.specs.Choice.{pick}
use Rattle.slices.proofs.Choice.{pick_yes, either}
use Rattle.answer_afl.specs.Entries.{most_records, too_many}
use Rattle.answer_afl.proofs.Counting.{whole_exactly}
use Rattle.slices.specs.Tables.{any_of, beside}
use Rattle.answer_common.specs.Content.{meets, rules, rule_for, right_value}
use Rattle.answer_common.specs.Answer.{is_one, inside}
use Rattle.answer_common.specs.Right.{There, MayBe, Right}
use Rattle.answer_common.specs.Named.{listed, direct, any_times, any_wrong}
use Rattle.slices.proofs.Tables.{or_no, and_yes, and_no}
use Rattle.answer_common.proofs.Limits.{between_in, bounds}
use Rattle.answer_common.proofs.Sizes.{sized}
use Rattle.answer_common.proofs.Accepted.{or_clear}
use Rattle.answer_common.proofs.Present.{of_size, there_so, may_be_so, must_be, may_be, none_twice, none_wrong, none_missing, by_name}
use Rattle.answer_common.specs.Forms.{template, joined, both_forms, lacks}
use Rattle.answer_gpo.specs.Options.{option_names, locator_of, options_wrong, options_lines, options_reason}
use Rattle.decide_cryptogram.specs.Cryptograms.{Given}
use Rattle.answer_cryptogram.specs.Cryptogram.{mandatory_names, cryptogram_names}
use Rattle.answer_cryptogram.specs.Cryptogram.{cryptogram_wrong, cryptogram_lines, cryptogram_reason}
use Rattle.answer_common.proofs.Absent.{not_direct, one_form}
use Rattle.answer_laws.specs.RightForms.{OptionsApart, OptionsJoined, RightOptions}
use Rattle.answer_laws.specs.RightForms.{CryptogramApart, CryptogramJoined, RightCryptogram}
use Rattle.answer_laws.proofs.AcceptedAnswers.{is_template, options_framed, options_entries, in_template}
use Rattle.answer_laws.proofs.AcceptedAnswers.{in_joined, cryptogram_clear, cryptogram_framed, cryptogram_allowed}
use Rattle.answer_laws.proofs.RightAnswers.{no_line}

-- a template lacks nothing that stands in it; to a joined answer names mean nothing
module _ (a : List ℕ) where
  template_whole : (names : List ℕ) → is_one template a ≡ true → any_times 0 names (direct template a) ≡ false → lacks names a ≡ false
  unfolding lacks
  template_whole names y m = and_yes refl _ y ∙ m

  not_template : is_one joined a ≡ true → is_one template a ≡ false
  not_template y = one_form joined template a (λ e. omega arith) y

  not_joined : is_one template a ≡ true → is_one joined a ≡ false
  not_joined y = one_form template joined a (λ e. omega arith) y

  joined_whole : (names : List ℕ) → is_one joined a ≡ true → lacks names a ≡ false
  unfolding lacks
  joined_whole names y = and_no refl _ (not_template y) ∙ not_template y

  joined_names : is_one joined a ≡ true → (name : ℕ) → MayBe (Right name) (direct template a name)
  joined_names y name = inl (not_direct template a (not_template y) name)

module _ (a : List ℕ) where
  after_two : is_one joined a ≡ true → length (locator_of a) ≡ length (inside joined a) - 2
  unfolding locator_of
  after_two y = ap length (pick_yes _ _ _ y) ∙ length-drop 2 (inside joined a)

  options_right : options_reason a ≡ 0 → RightOptions a
  unfolding listed any_of rule_for rules right_value meets beside pick
  options_right e =
      record {
        framed = options_framed a e;
        told =
            either (is_one joined a)
            (λ y.
            let whole = (whole_exactly (locator_of a)).0 (in_joined a e y) in
            let some = whole.1 in
            let size = whole.2 in
            let rest = after_two y in
            inr (y, (whole.0, whole.1, omega arith)))
            (λ n.
            inl (
              is_template a (options_framed a e) n,
              there_so (λ v f r. sized 0x82 2 2 v refl r) (in_template a e n 0x82 refl),
              there_so (λ v f r. (whole_exactly v).0 r) (in_template a e n 0x94 refl),
            ));
        entries = (options_entries a e).0;
        few = (options_entries a e).1;
      }

  -- of either form: nothing that is named stands there twice or wrongly, nor is anything lacking
  options_told : OptionsApart a ⊎ OptionsJoined a
      → (any_times 2 option_names (direct template a) ≡ false) × (options_wrong a ≡ false) × (lacks option_names a ≡ false)
  unfolding options_wrong rule_for rules right_value meets beside pick
  options_told (inl h) =
      let profile = there_so (λ v f s. of_size 0x82 2 2 v refl s) h.1 in
      let locator = there_so (λ v f s. (whole_exactly v).1 s) h.2 in
      let both = by_name (λ n. There (Right n) (direct template a n)) option_names (profile, (locator, tt)) in (
        none_twice option_names (direct template a) (λ n l. inr (both n l)),
        or_no refl _ (none_wrong option_names (direct template a) (λ n l. inr (both n l)))
            ∙ (and_no refl _ (not_joined a h.0) ∙ not_joined a h.0),
        template_whole a option_names h.0 (none_missing option_names (direct template a) both),
      )
  options_told (inr h) =
      let size = h.1.2 in
      let rest = after_two h.0 in
      let whole = (whole_exactly (locator_of a)).1 (h.1.0, h.1.1, omega arith) in (
        none_twice option_names (direct template a) (λ n l. joined_names a h.0 n),
        or_no refl _ (none_wrong option_names (direct template a) (λ n l. joined_names a h.0 n)) ∙ (and_yes refl _ h.0 ∙ ap not whole),
        joined_whole a option_names h.0,
      )

  right_options : RightOptions a → options_reason a ≡ 0
  unfolding options_reason options_lines too_many
  right_options r =
      let fine = options_told r.told in
      no_line both_forms a (options_lines a) r.framed
      (fine.0, (fine.1, (ap not r.entries, (le-ltb most_records _ r.few, (fine.2, tt)))))

  pub options_exactly : (options_reason a ≡ 0) ↔ RightOptions a
  options_exactly = (options_right, right_options)

module _ (allowed : Given → Bool) (a : List ℕ) where
  cryptogram_apart : cryptogram_reason allowed a ≡ 0 → is_one template a ≡ true → CryptogramApart a
  unfolding cryptogram_lines cryptogram_wrong lacks listed any_of rule_for rules beside pick
  cryptogram_apart e y =
      let lines = (cryptogram_clear allowed a e).1 in
      let wrong = or_clear (any_wrong cryptogram_names (direct template a)) _ lines.1.0 in
      let may = may_be cryptogram_names (direct template a) lines.0 wrong.0 in
      let lacking = sym (and_yes refl _ y) ∙ lines.1.1.0 in
      record {
        is_apart = y;
        information =
            there_so (λ v f r. sized 0x9F27 1 1 v refl r)
            (must_be mandatory_names (direct template a) lacking 0x9F27 refl (may 0x9F27 refl));
        counter =
            there_so (λ v f r. sized 0x9F36 2 2 v refl r)
            (must_be mandatory_names (direct template a) lacking 0x9F36 refl (may 0x9F36 refl));
        cryptogram =
            there_so (λ v f r. sized 0x9F26 8 8 v refl r)
            (must_be mandatory_names (direct template a) lacking 0x9F26 refl (may 0x9F26 refl));
        issuer = may_be_so (λ v f r. sized 0x9F10 0 32 v refl r) (may 0x9F10 refl);
      }

  cryptogram_right : cryptogram_reason allowed a ≡ 0 → RightCryptogram allowed a
  unfolding cryptogram_lines cryptogram_wrong
  cryptogram_right e =
      let wrong = or_clear (any_wrong cryptogram_names (direct template a)) _ (cryptogram_clear allowed a e).1.1.0 in
      record {
        framed = cryptogram_framed allowed a e;
        told =
            either (is_one joined a)
            (λ y. inr (y, bounds 11 43 (length (inside joined a)) (not-false _ (sym (and_yes refl _ y) ∙ wrong.1))))
            (λ n. inl (cryptogram_apart e (is_template a (cryptogram_framed allowed a e) n)));
        as_asked = cryptogram_allowed allowed a e;
      }

  cryptogram_told : CryptogramApart a ⊎ CryptogramJoined a
      → (any_times 2 cryptogram_names (direct template a) ≡ false) × (cryptogram_wrong a ≡ false) × (lacks mandatory_names a ≡ false)
  unfolding cryptogram_wrong rule_for rules beside pick
  cryptogram_told (inl h) =
      let information = there_so (λ v f s. of_size 0x9F27 1 1 v refl s) h.information in
      let counter = there_so (λ v f s. of_size 0x9F36 2 2 v refl s) h.counter in
      let cryptogram = there_so (λ v f s. of_size 0x9F26 8 8 v refl s) h.cryptogram in
      let issuer = may_be_so (λ v f s. of_size 0x9F10 0 32 v refl s) h.issuer in
      let may =
      by_name (λ n. MayBe (Right n) (direct template a n)) cryptogram_names
      (inr information, (inr counter, (inr cryptogram, (issuer, tt)))) in
      let must = by_name (λ n. There (Right n) (direct template a n)) mandatory_names (information, (counter, (cryptogram, tt))) in
      let apart = not_joined a h.is_apart in (
        none_twice cryptogram_names (direct template a) may,
        or_no refl _ (none_wrong cryptogram_names (direct template a) may) ∙ (and_no refl _ apart ∙ apart),
        template_whole a mandatory_names h.is_apart (none_missing mandatory_names (direct template a) must),
      )
  cryptogram_told (inr h) =
      let size = between_in 11 43 (length (inside joined a)) h.1.0 h.1.1 in (
        none_twice cryptogram_names (direct template a) (λ n l. joined_names a h.0 n),
        or_no refl _ (none_wrong cryptogram_names (direct template a) (λ n l. joined_names a h.0 n))
            ∙ (and_yes refl _ h.0 ∙ ap not size),
        joined_whole a mandatory_names h.0,
      )

  right_cryptogram : RightCryptogram allowed a → cryptogram_reason allowed a ≡ 0
  unfolding cryptogram_reason cryptogram_lines
  right_cryptogram r =
      let fine = cryptogram_told r.told in
      no_line both_forms a (cryptogram_lines allowed a) r.framed (fine.0, (fine.1, (fine.2, (ap not r.as_asked, tt))))

  pub cryptogram_exactly : (cryptogram_reason allowed a ≡ 0) ↔ RightCryptogram allowed a
  cryptogram_exactly = (cryptogram_right, right_cryptogram)
