-- What is known of an answer for which no reason was found, for each kind: each line's test failed.
-- Assumes nothing.
use mathlib.Core.Path.{◌≡◌, refl, sym, ap, ◌∙◌}
use mathlib.Core.Bool.{Bool, true, false, not, false≢true}
use mathlib.Core.List.{List, [], ◌∷◌, ◌++◌}
use mathlib.Core.Option.{some, some-injective, none-ne-some}
use Prim.Native.Nat.{ℕ, ◌≤◌, ◌-◌}
use native.Mathlib.Omega.{arith}
use lib.ListN.{length, drop, length-take, length-drop}
use borrow.Author.Tests.{not-false, ltb-false, leb-true}
use Rattle.slices.specs.Choice.{pick, first_of}
use Rattle.slices.proofs.Choice.{pick_yes, pick_no, picked, either}
use Rattle.tlv_list.specs.Lookup.{Lookup, absent, once, twice}
use Rattle.start_fields.specs.Reading.{Terminal}
use Rattle.slices.proofs.Tests.{first_held}
use Rattle.dol_wanted.specs.Wanted.{fillable}
use Rattle.answer_afl.specs.Entries.{most_records, whole_entries, entries_right, record_count, too_many}
use Rattle.slices.specs.Tables.{any_of, beside}
use Rattle.answer_common.specs.Content.{rules, rule_for, right_value, meets, record_tag, mandatory}
use Rattle.answer_common.specs.Answer.{value_most, is_one, inside, frame}
use Rattle.answer_common.specs.Right.{Framed}
use Rattle.answer_common.specs.Named.{listed, direct, times, told, value_of, any_times, any_wrong}
use Rattle.slices.proofs.Tables.{and_yes}
use Rattle.slices.proofs.Lines.{Numbered}
use Rattle.answer_common.proofs.Accepted.{AllClear, none_applies, or_clear, any_clear, frame_accepted, named_once, named_right}
use Rattle.answer_common.proofs.Sizes.{sized}
use Rattle.answer_common.proofs.Members.{inside_size, direct_size, inner_size}
use Rattle.answer_common.specs.Forms.{template, joined, both_forms, lacks}
use Rattle.answer_select.specs.Select.{select_tag, select_names, inner_names, inner, pdol_of, begins}
use Rattle.answer_select.specs.Select.{name_wrong, select_twice, select_wrong, select_lines, select_reason}
use Rattle.answer_gpo.specs.Options.{option_names, profile_of, locator_of, options_wrong, options_lines, options_reason}
use Rattle.answer_record.specs.Records.{again, any_again, record_twice, record_lines, record_reason, value_in, incomplete, complete_reason}
use Rattle.decide_cryptogram.specs.Cryptograms.{Given}
use Rattle.answer_cryptogram.specs.Cryptogram.{cryptogram_of, cryptogram_lines, cryptogram_reason}

-- the first lines pass, and so do the others
both_clear : (expected a : List ℕ) (lines : List (Bool × ℕ)) → Numbered lines → first_of (frame expected a ++ lines) ≡ 0
    → AllClear (frame expected a) × AllClear lines
unfolding frame
both_clear expected a lines n e =
    let clear = none_applies (frame expected a ++ lines) ((λ z. omega arith), ((λ z. omega arith), ((λ z. omega arith), n))) e in
    ((clear.0, (clear.1.0, (clear.1.1.0, tt))), clear.1.1.1)

module _ (t : Terminal) (a : List ℕ) (e : select_reason t a ≡ 0) where
  pub select_clear : AllClear (frame (select_tag ∷ []) a) × AllClear (select_lines t.aid a)
  unfolding select_reason select_lines
  select_clear =
      both_clear (select_tag ∷ []) a (select_lines t.aid a)
      ((λ z. omega arith), ((λ z. omega arith), ((λ z. omega arith), ((λ z. omega arith), tt)))) e

  pub select_framed : Framed (select_tag ∷ []) a
  select_framed = frame_accepted (select_tag ∷ []) a select_clear.0

  -- 84 stands there once, with 5-16 bytes that begin with the AID
  pub select_name_lem : (v : List ℕ) × (direct select_tag a 0x84 ≡ once v) × (5 ≤ length v) × (length v ≤ 16) × (begins t.aid v ≡ true)
  unfolding select_lines select_twice select_wrong name_wrong listed any_of rule_for rules beside pick
  select_name_lem =
      let lines = select_clear.1 in
      let twice' = or_clear _ _ lines.0 in
      let wrong = or_clear (any_wrong select_names (direct select_tag a)) _ lines.1.0 in
      let name = or_clear (any_wrong inner_names (inner a)) _ wrong.1 in
      let found = named_once select_names (direct select_tag a) twice'.0 lines.1.1.0 0x84 refl in
      let size =
      sized 0x84 5 16 found.0 refl (named_right select_names (direct select_tag a) wrong.0 0x84 found.0 refl found.1) in
      (found.0, found.1, size.0, size.1, not-false _ (sym (ap (name_wrong t.aid) found.1) ∙ name.1))

  -- A5 stands there once
  pub select_inner : (v : List ℕ) × (direct select_tag a 0xA5 ≡ once v)
  unfolding select_lines select_twice listed any_of pick
  select_inner =
      let lines = select_clear.1 in
      named_once select_names (direct select_tag a) (or_clear _ _ lines.0).0 lines.1.1.0 0xA5 refl

  pub select_list : fillable (pdol_of a) ≡ true
  unfolding select_lines
  select_list = not-false _ select_clear.1.1.1.1.0

-- 9F38 has room for at most 250 bytes inside an answer, whatever else it is
pub list_size_lem : (a : List ℕ) → length (pdol_of a) ≤ 250
unfolding pdol_of inner
list_size_lem a = inner_size select_tag 0xA5 0x9F38 a

-- of the two forms, an answer that is not joined is a template
pub is_template : (a : List ℕ) → Framed both_forms a → is_one joined a ≡ false → is_one template a ≡ true
unfolding any_of
is_template a f n =
    either (is_one template a) (λ y. y) (λ k. absurd (false≢true (sym (pick_no _ _ _ k ∙ pick_no _ _ _ n) ∙ f.one)))

module _ (a : List ℕ) (e : options_reason a ≡ 0) where
  options_clear : AllClear (frame both_forms a) × AllClear (options_lines a)
  unfolding options_reason options_lines
  options_clear =
      both_clear both_forms a (options_lines a)
      ((λ z. omega arith), ((λ z. omega arith), ((λ z. omega arith), ((λ z. omega arith), ((λ z. omega arith), tt))))) e

  pub options_framed : Framed both_forms a
  options_framed = frame_accepted both_forms a options_clear.0

  pub options_entries : (entries_right (locator_of a) ≡ true) × (record_count (locator_of a) ≤ most_records)
  unfolding options_lines too_many
  options_entries =
      let lines = options_clear.1 in
      (not-false _ lines.1.1.0, ltb-false most_records _ lines.1.1.1.0)

  -- in a template both stand once, with right values
  pub in_template : is_one joined a ≡ false → (name : ℕ) → listed name option_names ≡ true
      → (v : List ℕ) × (direct template a name ≡ once v) × (right_value name v ≡ true)
  unfolding options_lines options_wrong lacks
  in_template n name l =
      let lines = options_clear.1 in
      let missing = sym (and_yes refl _ (is_template a options_framed n)) ∙ lines.1.1.1.1.0 in
      let found = named_once option_names (direct template a) lines.0 missing name l in
      let wrong = or_clear (any_wrong option_names (direct template a)) _ lines.1.0 in
      (found.0, found.1, named_right option_names (direct template a) wrong.0 name found.0 l found.1)

  -- joined values are whole entries after the first two bytes
  pub in_joined : is_one joined a ≡ true → whole_entries (locator_of a) ≡ true
  unfolding options_lines options_wrong
  in_joined y =
      let wrong = or_clear (any_wrong option_names (direct template a)) _ options_clear.1.1.0 in
      not-false _ (sym (and_yes refl _ y) ∙ wrong.1)

  pub options_whole : whole_entries (locator_of a) ≡ true
  unfolding locator_of listed any_of rule_for rules right_value meets beside pick value_of told
  options_whole =
      either (is_one joined a) in_joined
      (λ n.
      let found = in_template n 0x94 refl in
      ap whole_entries (pick_no _ _ _ n ∙ ap value_of found.1) ∙ found.2)

  pub options_profile : length (profile_of a) ≡ 2
  unfolding profile_of locator_of listed any_of rule_for rules beside pick value_of told whole_entries
  options_profile =
      either (is_one joined a)
      (λ y.
      let whole : 4 ≤ length (locator_of a) = leb-true 4 _ (first_held _ _ (in_joined y)).0 in
      let after : length (locator_of a) ≡ length (inside joined a) - 2 = ap length (pick_yes _ _ _ y) ∙ length-drop 2 (inside joined a) in
      ap length (pick_yes _ _ _ y) ∙ (length-take 2 (inside joined a) ∙ omega arith))
      (λ n.
      let found = in_template n 0x82 refl in
      let size = sized 0x82 2 2 found.0 refl found.2 in
      ap length (pick_no _ _ _ n ∙ ap value_of found.1) ∙ omega arith)

-- an AFL has room for no more bytes than other values have inside an answer, whatever else it is
pub locator_size : (a : List ℕ) → length (locator_of a) ≤ value_most
unfolding locator_of
locator_size a =
    let outside = inside_size joined a in
    picked (λ v. length v ≤ value_most) (is_one joined a) (drop 2 (inside joined a)) (value_of (direct template a 0x94))
    (λ y. rw length-drop (omega arith))
    (λ n. direct_size template a 0x94)

told_some : (l : Lookup) (v : List ℕ) → told l ≡ some v → l ≡ once v
unfolding told
told_some absent v e = absurd (none-ne-some v e)
told_some (once w) v e = ap once (some-injective _ _ e)
told_some twice v e = absurd (none-ne-some v e)

not_again : (before : Bool) (v : List ℕ) (l : Lookup) → l ≡ once v → again before l ≡ false → before ≡ false
unfolding again times
not_again true v l f e = absurd (false≢true (sym e ∙ ap (λ (x : Lookup). again true x) f))
not_again false v l f e = refl

module _ (names : List ℕ) (before : ℕ → Bool) (a : List ℕ) (e : record_reason names before a ≡ 0) where
  pub record_clear : AllClear (frame (record_tag ∷ []) a) × AllClear (record_lines names before a)
  unfolding record_reason record_lines
  record_clear = both_clear (record_tag ∷ []) a (record_lines names before a) ((λ z. omega arith), ((λ z. omega arith), tt)) e

  pub record_framed : Framed (record_tag ∷ []) a
  record_framed = frame_accepted (record_tag ∷ []) a record_clear.0

  -- each value that the record tells is right, and was not told before
  pub record_told : (name : ℕ) (v : List ℕ) → listed name names ≡ true → value_in name a ≡ some v
      → (right_value name v ≡ true) × (before name ≡ false)
  unfolding record_lines record_twice any_again value_in
  record_told name v l f =
      let lines = record_clear.1 in
      let found = told_some (direct record_tag a name) v f in
      let new =
      any_clear (λ name. again (before name) (direct record_tag a name)) names
      (or_clear (any_times 2 names (direct record_tag a)) _ lines.0).1 name l in (
        named_right names (direct record_tag a) lines.1.0 name v l found,
        not_again (before name) v
            (direct record_tag a name) found new,
      )

-- after the last record all that is mandatory was told, and the first object list can be filled
module _ (there : ℕ → Bool) (list : List ℕ) (e : complete_reason there list ≡ 0) where
  complete_clear : AllClear ((incomplete there, 8) ∷ (not (fillable list), 9) ∷ [])
  unfolding complete_reason
  complete_clear = none_applies _ ((λ z. omega arith), ((λ z. omega arith), tt)) e

  pub complete_told : (name : ℕ) → listed name mandatory ≡ true → there name ≡ true
  unfolding incomplete
  complete_told name l = not-false _ (any_clear (λ name. not (there name)) mandatory complete_clear.0 name l)

  pub complete_list : fillable list ≡ true
  complete_list = not-false _ complete_clear.1.0

module _ (allowed : Given → Bool) (a : List ℕ) (e : cryptogram_reason allowed a ≡ 0) where
  pub cryptogram_clear : AllClear (frame both_forms a) × AllClear (cryptogram_lines allowed a)
  unfolding cryptogram_reason cryptogram_lines
  cryptogram_clear =
      both_clear both_forms a (cryptogram_lines allowed a)
      ((λ z. omega arith), ((λ z. omega arith), ((λ z. omega arith), ((λ z. omega arith), tt)))) e

  pub cryptogram_framed : Framed both_forms a
  cryptogram_framed = frame_accepted both_forms a cryptogram_clear.0

  pub cryptogram_allowed : allowed (cryptogram_of a) ≡ true
  unfolding cryptogram_lines
  cryptogram_allowed = not-false _ cryptogram_clear.1.1.1.1.0
