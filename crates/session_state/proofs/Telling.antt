-- What is kept of a good record is read as the facts with the same told: each value has room in its slot, and no name is told twice.
-- Assumes nothing.
use mathlib.Core.Path.{◌≡◌, refl, sym, ap, fun_ext, ◌∙◌}
use mathlib.Core.Bool.{true, false≢true}
use mathlib.Core.List.{List, map}
use mathlib.Core.Option.{Option, none, some}
use Prim.Native.Nat.{ℕ}
use native.Mathlib.Omega.{arith}
use lib.Dec.{eqb}
use lib.ListN.{length}
use Rattle.slices.specs.Choice.{pick}
use Rattle.slices.proofs.Choice.{pick_yes, pick_no, either}
use Rattle.slices.specs.Tests.{is_some}
use Rattle.tlv_list.specs.Place.{object_at, places_from}
use Rattle.tlv_list.proofs.Walking.{places_members}
use Rattle.tlv_head.specs.Head.{constructed, first_byte}
use Rattle.start_fields.specs.Reading.{Terminal}
use Rattle.answer_common.specs.Answer.{inside}
use Rattle.answer_common.specs.Content.{record_tag, names_for}
use Rattle.answer_common.specs.Named.{members_in, listed, direct, told as told_of, times, value_of, among, any_times}
use Rattle.answer_common.proofs.Members.{members_of_lem, inside_list, direct_size}
use Rattle.answer_common.proofs.Accepted.{or_clear, any_clear}
use Rattle.answer_common.proofs.Names.{named_somewhere}
use Rattle.answer_record.specs.Records.{record_lines, record_twice, record_reason, value_in, named_in}
use Rattle.answer_laws.proofs.AcceptedAnswers.{record_clear, record_told}
use Rattle.facts.specs.Facts.{or_else}
use Rattle.session_records.specs.Slots.{told_in, kept_objects, kept_places, full, empty_store, told, with_record}
use Rattle.session_records.specs.declared.Store.{Store}
use Rattle.session_records.proofs.Keeping.{Fits, unnamed_kept, objects_kept, full_all}
use Rattle.session_records.proofs.Keeping.{full_length_lem, objects_length, right_room, told_nothing}

pub nothing_told : told empty_store ≡ (λ tag. none)
nothing_told = fun_ext told_nothing

module _ (t : Terminal) (s : Store) (a : List ℕ) (good : record_reason (names_for t) (λ name. is_some (told s name)) a ≡ 0) where
  fits : (tag : ℕ) → listed tag (names_for t) ≡ true → Fits tag (told s tag) (direct record_tag a tag)
  unfolding record_lines record_twice any_times value_in told_of value_of times
  fits tag l =
      let lines = (record_clear (names_for t) (λ name. is_some (told s name)) a good).1 in
      let clear = any_clear (λ name. eqb (times (direct record_tag a name)) 2) (names_for t)
      (or_clear (any_times 2 (names_for t) (direct record_tag a)) _ lines.0).0 tag l in
      record {
        not_twice = λ e. false≢true (sym clear ∙ ap (λ x. eqb (times x) 2) e);
        new = λ v e.
            let h = record_told (names_for t) (λ name. is_some (told s name)) a good tag v l (ap told_of e) in
            let n = direct_size record_tag a tag in
            let m : length (value_of (direct record_tag a tag)) ≡ length v = ap (λ x. length (value_of x)) e in
            (right_room tag v (named_somewhere t tag l) h.0 (omega arith), h.1);
      }

  more : (o p : Option (List ℕ)) → p ≡ none → o ≡ or_else o p
  unfolding or_else
  more none p e = sym e
  more (some x) p e = refl

  record_kept_lem : (tag : ℕ) → told (with_record (names_for t) a s) tag ≡ or_else (told s tag) (named_in (names_for t) tag a)
  unfolding told with_record named_in value_in direct among constructed first_byte kept_places pick
  record_kept_lem tag =
      let i = inside record_tag a in
      let d = full s.bytes in
      let ms = members_in i in
      let all = full_length_lem s.bytes in
      let names = names_for t in
      let walked : kept_objects names (map (object_at i) (places_from i 0)) d ≡ kept_objects names ms d = ap (λ l. kept_objects names l d)
      (places_members i ms (members_of_lem i (inside_list record_tag a refl))) in
      ap (λ x. told_in (full x) tag) walked
      ∙ (ap (λ x. told_in x tag) (full_all (kept_objects names ms d) (objects_length names ms d all))
      ∙ either (listed tag names)
      (λ l. objects_kept names tag l ms d all (fits tag l) ∙ ap (or_else (told_in d tag)) (sym (pick_yes _ _ _ l)))
      (λ n. unnamed_kept names tag n ms d all ∙ more _ _ (pick_no _ _ _ n)))

  pub facts_told : told (with_record (names_for t) a s) ≡ (λ tag. or_else (told s tag) (named_in (names_for t) tag a))
  facts_told = fun_ext record_kept_lem
