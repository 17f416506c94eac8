-- One record further: what was taken of it is the rulebook's reason, and where that is 0 the situation after it.
-- Assumes nothing.
use mathlib.Core.Path.{◌≡◌, sym, ap, ◌∙◌}
use mathlib.Core.Bool.{true}
use mathlib.Core.List.{List}
use Prim.Native.Nat.{ℕ, suc}
use lib.ListN.{length}
use Rattle.slices.specs.Tests.{is_some}
use Rattle.tlv_list.specs.Place.{places_from}
use Rattle.start_fields.specs.Reading.{reading_of}
use Rattle.answer_afl.specs.Cursor.{is_left, record_at, stepped, remaining}
use Rattle.answer_afl.specs.declared.cursor.Cursor.{Cursor}
use Rattle.answer_afl.proofs.Walking.{one_less}
use Rattle.answer_common.specs.Answer.{inside}
use Rattle.answer_common.specs.Content.{record_tag, names_for}
use Rattle.answer_common.proofs.Names.{named_somewhere}
use Rattle.answer_record.specs.Records.{record_reason, named_in}
use Rattle.answer_record.specs.Taken.{Taken, taken, record_taken}
use Rattle.answer_record.proofs.Taken.{taken_reason, taken_kept}
use Rattle.facts.specs.Facts.{Facts, or_else}
use Rattle.session_records.specs.Slots.{end, told_in, kept_places, full, told as told_by, with_record as record_kept}
use Rattle.session_records.specs.declared.Store.{Store}
use Rattle.session_records.proofs.Keeping.{full_all, objects_length}
use Rattle.session_state.proofs.Telling.{facts_told}
use Rattle.rulebook.specs.Situation.{Situation}
use Rattle.rulebook.specs.Phase.{reading, asks}
use Rattle.rulebook.specs.Turn.{read_on, with_record}
use Rattle.quick_ask.specs.Standing.{situation_in}

-- the record that is due, and those that follow
pub next_due : (s : Situation) (afl : List ℕ) (c : Cursor) → is_left afl c ≡ true
    → read_on s (remaining afl c) ≡ asks (reading s (record_at afl c).0 (record_at afl c).1 (remaining afl (stepped afl c)))
unfolding read_on
next_due s afl c left = ap (read_on s) (one_less afl c left)

pub fewer_left : (afl : List ℕ) (c : Cursor) → is_left afl c ≡ true → length (remaining afl c)
    ≡ suc (length (remaining afl (stepped afl c)))
fewer_left afl c left = ap length (one_less afl c left)

module _ (start a names d out : List ℕ) (why : ℕ) (all : length d ≡ end) (counts : names ≡ names_for (reading_of start))
    (t : taken why out ≡ record_taken names a d) where
  abbrev due : List ℕ
  due = names_for (reading_of start)

  all_taken : taken why out ≡ record_taken due a d
  all_taken = t ∙ ap (λ (x : List ℕ). record_taken x a d) counts

  pub record_reason_lem : why ≡ record_reason due (λ name. is_some (told_in d name)) a
  unfolding taken
  record_reason_lem = ap (λ (k : Taken). k.why) all_taken ∙ taken_reason due (named_somewhere (reading_of start)) a d all

  module _ (good : why ≡ 0) where
    abbrev kept : List ℕ → List ℕ
    kept x = kept_places due (inside record_tag a) (places_from (inside record_tag a) 0) x

    out_kept : out ≡ kept d
    unfolding taken
    out_kept =
        ap (λ (k : Taken). k.bytes) all_taken
        ∙ taken_kept due (named_somewhere (reading_of start)) a d all (sym (ap (λ (k : Taken). k.why) all_taken) ∙ good)

    kept_whole : length (kept d) ≡ end
    unfolding kept_places
    kept_whole = objects_length due _ d all

    pub record_whole : length out ≡ end
    record_whole = ap length out_kept ∙ kept_whole

    told_after : told_in out ≡ (λ tag. or_else (told_in d tag) (named_in due tag a))
    unfolding told_by record_kept
    told_after =
        let store : Store = record { bytes = d } in
        let both : List ℕ → Facts = λ x tag. or_else (told_in x tag) (named_in due tag a) in
        let whole = full_all d all in
        let fine = ap (λ (x : List ℕ). record_reason due (λ name. is_some (told_in x name)) a) whole ∙ (sym record_reason_lem ∙ good) in
        ap told_in (out_kept ∙ sym (full_all (kept d) kept_whole))
        ∙ (ap (λ (x : List ℕ). told_in (full (kept x))) (sym whole)
        ∙ (facts_told (reading_of start) store a fine
        ∙ ap both whole))

    pub record_after : (profile tvr tsi : List ℕ)
        → situation_in start out profile tvr tsi ≡ with_record (situation_in start d profile tvr tsi) a
    unfolding with_record
    record_after profile tvr tsi =
        λ i. record { terminal = reading_of start; profile = profile; facts = told_after i; tvr = tvr; tsi = tsi }
