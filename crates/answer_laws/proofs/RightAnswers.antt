-- An answer to SELECT or READ RECORD has no reason exactly where all that 01 asks of it is there and right. `Right..` says so over
-- the direct members; each law goes both ways, since the line of a reason fails just where its part of `Right..` holds.
-- Assumes nothing.
use mathlib.Core.Path.{◌≡◌, refl, sym, ap, ◌∙◌}
use mathlib.Core.Bool.{Bool, true, false, not, and-false}
use mathlib.Core.List.{List, [], ◌∷◌, ◌++◌}
use mathlib.Core.Logic.{inl, inr, ◌↔◌}
use Prim.Native.Nat.{ℕ}
use Rattle.slices.specs.Choice.{pick, first_of}
use Rattle.slices.specs.Shorter.{counted, shorter}
use Rattle.tlv_list.specs.Lookup.{Lookup}
use Rattle.start_fields.specs.Reading.{Terminal}
use Rattle.dol_wanted.specs.Wanted.{wanted_step, entries_of, total, fits, fillable}
use Rattle.slices.specs.Tables.{any_of, beside}
use Rattle.answer_common.specs.Content.{list_most, meets, rules, rule_for, right_value, record_tag, mandatory}
use Rattle.answer_common.specs.Answer.{frame}
use Rattle.answer_common.specs.Right.{Framed, There, MayBe, Right, Sized}
use Rattle.answer_common.specs.Named.{listed, direct, times, told, value_of, any_times, any_wrong}
use Rattle.slices.proofs.Tables.{or_no, and_no}
use Rattle.answer_common.proofs.Sizes.{sized}
use Rattle.answer_common.proofs.Accepted.{AllClear, no_reason, or_clear, any_none, frame_right}
use Rattle.answer_common.proofs.Present.{of_size, there_so, may_be_so, may_be, none_twice, none_wrong, none_missing, by_name}
use Rattle.answer_select.specs.Select.{select_tag, select_names, inner_names, inner, pdol_of}
use Rattle.answer_select.specs.Select.{name_wrong, select_twice, select_wrong, select_lines, select_reason}
use Rattle.answer_record.specs.Records.{again, any_again, record_twice, record_lines, record_reason, value_in, incomplete, complete_reason}
use Rattle.answer_laws.specs.RightAnswers.{RightSelect, RightRecord, RightRecords}
use Rattle.answer_laws.proofs.AcceptedAnswers.{select_clear, select_framed, select_name_lem, select_inner, select_list}
use Rattle.answer_laws.proofs.AcceptedAnswers.{record_clear, record_framed, record_told, complete_told, complete_list}

-- no line applies, the first three neither
pub no_line : (expected a : List ℕ) (lines : List (Bool × ℕ)) → Framed expected a → AllClear lines
    → first_of (frame expected a ++ lines) ≡ 0
unfolding frame
no_line expected a lines f c =
    let first = frame_right expected a f in
    no_reason (frame expected a ++ lines) (first.0, (first.1.0, (first.1.1.0, c)))

module _ (t : Terminal) (a : List ℕ) where
  select_right : select_reason t a ≡ 0 → RightSelect t.aid a
  unfolding select_lines select_twice select_wrong pdol_of value_of told listed any_of rule_for rules beside pick
  select_right e =
      let lines = (select_clear t a e).1 in
      let twice' = or_clear (any_times 2 select_names (direct select_tag a)) _ lines.0 in
      let wrong = or_clear (any_wrong select_names (direct select_tag a)) _ lines.1.0 in
      let within = or_clear (any_wrong inner_names (inner a)) _ wrong.1 in
      let name = select_name_lem t a e in
      let held = select_inner t a e in
      record {
        framed = select_framed t a e;
        name = (name.0, name.1, ((name.2, name.3), name.4));
        proprietary = (held.0, held.1, tt);
        list =
            may_be_so
            (λ v f r. (sized 0x9F38 0 list_most v refl r, sym (ap (λ (l : Lookup). fillable (value_of l)) f) ∙ select_list t a e))
            (may_be inner_names (inner a) twice'.1 within.0 0x9F38 refl);
      }

  can_fill : MayBe (λ v. Sized 0 list_most v × (fillable v ≡ true)) (inner a 0x9F38) → fillable (pdol_of a) ≡ true
  unfolding pdol_of value_of told pick counted shorter wanted_step entries_of total fits fillable
  can_fill (inl e) = ap (λ (l : Lookup). fillable (value_of l)) e
  can_fill (inr h) = ap (λ (l : Lookup). fillable (value_of l)) h.1 ∙ h.2.1

  right_select : RightSelect t.aid a → select_reason t a ≡ 0
  unfolding select_reason select_lines select_twice select_wrong name_wrong rule_for rules right_value meets beside pick
  right_select r =
      let name = there_so (λ v f s. of_size 0x84 5 16 v refl s.0) r.name in
      let held = there_so (λ v f s. refl) r.proprietary in
      let both = by_name (λ n. There (Right n) (direct select_tag a n)) select_names (name, (held, tt)) in
      let within =
      by_name (λ n. MayBe (Right n) (inner a n)) inner_names (may_be_so (λ v f s. of_size 0x9F38 0 list_most v refl s.0) r.list, tt) in
      no_line (select_tag ∷ []) a (select_lines t.aid a) r.framed (
        or_no refl _ (none_twice select_names (direct select_tag a) (λ n l. inr (both n l))) ∙ none_twice inner_names (inner a) within,
        (
          or_no refl _ (none_wrong select_names (direct select_tag a) (λ n l. inr (both n l)))
              ∙ (or_no refl _ (none_wrong inner_names (inner a) within) ∙ (ap (name_wrong t.aid) r.name.1 ∙ ap not r.name.2.1)),
          (none_missing select_names (direct select_tag a) both, (ap not (can_fill r.list), tt)),
        ),
      )

  pub select_exactly : (select_reason t a ≡ 0) ↔ RightSelect t.aid a
  select_exactly = (select_right, right_select)

module _ (names : List ℕ) (before : ℕ → Bool) (a : List ℕ) where
  record_right_lem : record_reason names before a ≡ 0 → RightRecord names before a
  unfolding record_lines record_twice value_in told
  record_right_lem e =
      let lines = (record_clear names before a e).1 in
      let twice' = or_clear (any_times 2 names (direct record_tag a)) _ lines.0 in
      record {
        framed = record_framed names before a e;
        told = λ name l.
            may_be_so
            (λ v f r. (r, (record_told names before a e name v l (ap told f)).1))
            (may_be names (direct record_tag a) twice'.0 lines.1.0 name l);
      }

  not_again : (name : ℕ) (l : Lookup) → MayBe (λ v. Right name v × (before name ≡ false)) l → again (before name) l ≡ false
  unfolding again times
  not_again name l (inl e) = ap (again (before name)) e ∙ and-false (before name)
  not_again name l (inr h) = and_no refl _ h.2.1 ∙ h.2.1

  right_record : RightRecord names before a → record_reason names before a ≡ 0
  unfolding record_reason record_lines record_twice any_again
  right_record r =
      let right : (name : ℕ) → listed name names ≡ true → MayBe (Right name) (direct record_tag a name) =
      λ name l. may_be_so (λ v f s. s.0) (r.told name l) in
      no_line (record_tag ∷ []) a (record_lines names before a) r.framed (
        or_no refl _ (none_twice names (direct record_tag a) right)
            ∙ any_none (λ name. again (before name) (direct record_tag a name)) names
            (λ name l. not_again name (direct record_tag a name) (r.told name l)),
        (none_wrong names (direct record_tag a) right, tt),
      )

  pub record_exactly : (record_reason names before a ≡ 0) ↔ RightRecord names before a
  record_exactly = (record_right_lem, right_record)

pub complete_exactly : (there : ℕ → Bool) (list : List ℕ) → (complete_reason there list ≡ 0) ↔ RightRecords there list
unfolding complete_reason incomplete
complete_exactly there list = (
  λ e. record { told = complete_told there list e; list_right = complete_list there list e },
  λ r. no_reason _ (any_none (λ name. not (there name)) mandatory (λ name l. ap not (r.told name l)), (ap not r.list_right, tt)),
)
