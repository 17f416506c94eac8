-- For a START of 74 bytes object lists know what they knew before cardholder verification: the fields behind these bytes are not there,
-- each other field is, and the formats of what was known are the same.
-- Assumes nothing.
use mathlib.Core.Path.{◌≡◌, refl, sym, ap, ap₂, ◌∙◌}
use mathlib.Core.Bool.{Bool, true, false, not, false≢true}
use mathlib.Core.List.{List, [], ◌∷◌, ◌++◌, map}
use mathlib.Core.Option.{Option, none, some}
use Prim.Native.Nat.{ℕ, ◌+◌, ◌≤◌, ◌<◌}
use native.Mathlib.Omega.{arith}
use lib.Dec.{eqb, leb}
use lib.ListN.{length, drop, length-take, length-drop}
use borrow.Author.Tests.{eqb-true, leb-true, not-true}
use Rattle.slices.specs.Choice.{pick, unless_empty}
use Rattle.slices.specs.Tables.{any_of, beside}
use Rattle.slices.specs.Tests.{every}
use Rattle.slices.proofs.Choice.{picked, pick_yes, pick_no, pick_same, either, there, not_there}
use Rattle.slices.proofs.Tests.{first_held, each_held}
use Rattle.start_fields.specs.declared.fields.Field.{Field}
use Rattle.start_fields.specs.declared.fields.Field.TheVariants.{Amount, OtherAmount, Country, Currency, Date}
use Rattle.start_fields.specs.declared.fields.Field.TheVariants.{TransactionType, Unpredictable, Version}
use Rattle.start_fields.specs.Layout.{begin_of, size_of, start_length}
use Rattle.start_fields.specs.Reading.{Terminal, reading_of, bytes_of, run_in}
use Rattle.start_fields.proofs.Reading.{bytes_read, all_read, no_capabilities}
use Rattle.answer_common.specs.Content.{record_formats}
use Rattle.answer_common.specs.declared.content.Format.{Format}
use Rattle.answer_common.specs.declared.content.Format.TheVariants.{Numeric, CardNumber, Other, Unknown}
use Rattle.facts.specs.Facts.{Facts}
use Rattle.dol_values.specs.Shape.{own_table, made_formats, format_of}
use Rattle.dol_values.specs.Known.{own_field, value_by, value_for, with_format, supplied}
use Rattle.dol_values.proofs.Tables.{beside_append}
use Rattle.dol_values.specs.Own.{Own}
use Rattle.std.specs.Prelude.{Some, None}
use Rattle.verdict_before.specs.Before.{records_before}
use Rattle.verdict_before.specs.Filled.{own_table_before, formats_before, format_of_before}
use Rattle.verdict_before.specs.Filled.{own_field_before, value_by_before, supplied_before}

-- ---- tables

-- what holds of every row and of what there is else
abbrev AllRows : {A : Type 0} → (A → Type 0) → List (ℕ × A) → Type 0
AllRows P [] = Unit {0}
AllRows P (row ∷ rows) = P row.1 × AllRows P rows

beside_holds : {A : Type 0} (P : A → Type 0) (other : A) (n : ℕ) (rows : List (ℕ × A)) → P other → AllRows P rows → P (beside other n rows)
unfolding beside
beside_holds P other n [] h all = h
beside_holds P other n (row ∷ rows) h all =
    picked P (eqb n row.0) row.1 (beside other n rows) (λ y. all.0) (λ no. beside_holds P other n rows h all.1)

-- a number that is none of a table's
unlisted : {A : Type 0} (other : A) (n : ℕ) (rows : List (ℕ × A)) → any_of (map (λ row. eqb n row.0) rows) ≡ false
    → beside other n rows ≡ other
unfolding any_of beside
unlisted other n [] h = refl
unlisted other n (row ∷ rows) h =
    either (eqb n row.0)
    (λ y. absurd (false≢true (sym h ∙ pick_yes _ _ _ y)))
    (λ no. pick_no _ _ _ no ∙ unlisted other n rows (sym (pick_no _ _ _ no) ∙ h))

-- ---- START's tags, those of old and the new ones

abbrev Rows : Type 0
Rows = List (ℕ × (Field × Format))

abbrev formats_in : Rows → List (ℕ × Format)
formats_in rows = map (λ row. (row.0, row.1.1)) rows

abbrev fields_in : Rows → List (ℕ × Own)
fields_in rows = map (λ row. (row.0, Some row.1.0)) rows

abbrev own_formats : List (ℕ × Format)
own_formats = formats_in own_table_before

abbrev own_fields : List (ℕ × Own)
own_fields = fields_in own_table_before

-- the new ones stand behind those of old
abbrev new_rows : Rows
new_rows = drop (length own_table_before) own_table

-- such a field begins behind the 74 bytes, and no list knew its tag
abbrev is_new : ℕ × (Field × Format) → Bool
is_new row =
    every (leb start_length (begin_of row.1.0)
    ∷ not (any_of (map (λ r. eqb row.0 r.0) own_fields))
    ∷ not (any_of (map (λ r. eqb row.0 r.0) formats_before))
    ∷ [])

all_new : every (map is_new new_rows) ≡ true
unfolding every any_of pick
all_new = refl

abbrev new_formats : List (ℕ × Format)
new_formats = (0x8E, Unknown) ∷ (0x9F42, Unknown) ∷ []

-- what is new in records has no format there
told_formats : (tag : ℕ) → beside Unknown tag (made_formats ++ record_formats) ≡ beside Unknown tag (made_formats ++ records_before)
unfolding beside
told_formats tag =
    beside_append Unknown tag (made_formats ++ records_before) new_formats
    ∙ ap (λ (f : Format). beside f tag (made_formats ++ records_before))
    (ap (pick (eqb tag 0x8E) Unknown) (pick_same (eqb tag 0x9F42) Unknown) ∙ pick_same (eqb tag 0x8E) Unknown)

-- what has no format is not supplied
unknown_none : (o : Option (List ℕ)) → with_format Unknown o ≡ none
unfolding with_format
unknown_none none = refl
unknown_none (some v) = refl

-- nor is what is not there
absent_none : (f : Format) → with_format f none ≡ none
unfolding with_format
absent_none Numeric = refl
absent_none CardNumber = refl
absent_none Other = refl
absent_none Unknown = refl

-- ---- a START of 74 bytes

-- the terminal's data are those of such a START
abbrev pub Early : Terminal → Type 0
Early t = (b : List ℕ) × ((length b ≡ start_length) × (t ≡ reading_of b))

pub early_none : (t : Terminal) → Early t → t.capabilities ≡ none
early_none t e = ap (λ (u : Terminal). u.capabilities) e.1.1 ∙ no_capabilities e.0 (omega (arith, e.1.0))

module _ (t : Terminal) (early : Early t) (known : Facts) where
  -- each field is there
  field_there : (f : Field) → begin_of f + size_of f ≤ start_length → 0 < size_of f → 0 < length (bytes_of f t)
  field_there f h any =
      let e = ap (λ (u : Terminal). length (bytes_of f u)) early.1.1 ∙ all_read f early.0 (omega (arith, early.1.0)) in
      omega arith

  value_own : (o : Option (List ℕ)) (f : Field) → begin_of f + size_of f ≤ start_length → 0 < size_of f
      → value_by t o (Some f) ≡ value_by_before t o (Some f)
  unfolding value_by value_by_before
  value_own o f h any = there (bytes_of f t) (field_there f h any)

  value_same : (tag : ℕ) → value_by t (known tag) (own_field_before tag) ≡ value_by_before t (known tag) (own_field_before tag)
  unfolding own_field_before value_by value_by_before
  value_same tag =
      let o = known tag in
      beside_holds (λ own. value_by t o own ≡ value_by_before t o own) None tag own_fields refl (
        value_own o Amount (omega arith) (omega arith),
        (
          value_own o OtherAmount (omega arith) (omega arith),
          (
            value_own o Country (omega arith) (omega arith),
            (
              value_own o Currency (omega arith) (omega arith),
              (
                value_own o Date (omega arith) (omega arith),
                (
                  value_own o TransactionType (omega arith) (omega arith),
                  (value_own o Unpredictable (omega arith) (omega arith), (value_own o Version (omega arith) (omega arith), tt)),
                ),
              ),
            ),
          ),
        ),
      )

  -- a field behind the 74 bytes is not
  field_none : (f : Field) → start_length ≤ begin_of f → unless_empty (bytes_of f t) ≡ none
  field_none f h =
      ap (λ (u : Terminal). unless_empty (bytes_of f u)) early.1.1
      ∙ (ap unless_empty (bytes_read f early.0)
      ∙ not_there (run_in f early.0) (simp (length-take, length-drop) (omega (arith, early.1.0))))

  -- what is supplied, given the new ones of START's tags
  abbrev with_new : Rows → ℕ → Option (Format × List ℕ)
  with_new rows tag =
      with_format (beside (beside (beside Unknown tag (made_formats ++ record_formats)) tag (formats_in rows)) tag own_formats)
      (value_by t (known tag) (beside (beside None tag (fields_in rows)) tag own_fields))

  module _ (row : ℕ × (Field × Format)) (new : is_new row ≡ true) (tag : ℕ) (e : tag ≡ row.0) (f : Format) where
    -- a new tag is not supplied, whatever its format, and was not known
    new_none : with_format f (value_by t (known tag) (beside (Some row.1.0) tag own_fields)) ≡ supplied_before t known tag
    unfolding value_by supplied_before format_of_before
    new_none =
        let tests = each_held _ new in
        let before = value_by_before t (known tag) (own_field_before tag) in
        let own = ap (λ (n : ℕ). any_of (map (λ (r : ℕ × Own). eqb n r.0) own_fields)) e ∙ not-true _ (tests 1) in
        let known' = ap (λ (n : ℕ). any_of (map (λ (r : ℕ × Format). eqb n r.0) formats_before)) e ∙ not-true _ (tests 2) in
        ap (λ (o : Own). with_format f (value_by t (known tag) o)) (unlisted (Some row.1.0) tag own_fields own)
        ∙ (ap (with_format f) (field_none row.1.0 (leb-true _ _ (tests 0)))
        ∙ (absent_none f
        ∙ sym (ap (λ (g : Format). with_format g before) (unlisted Unknown tag formats_before known') ∙ unknown_none before)))

  new_same : (rows : Rows) → every (map is_new rows) ≡ true → (tag : ℕ) → with_new rows tag ≡ supplied_before t known tag
  unfolding beside supplied_before format_of_before own_field_before
  new_same [] new tag =
      ap (λ (f : Format). with_format (beside f tag own_formats) (value_by t (known tag) (beside None tag own_fields)))
      (told_formats tag)
      ∙ (ap (λ (f : Format). with_format f (value_by t (known tag) (beside None tag own_fields)))
      (sym (beside_append Unknown tag own_formats (made_formats ++ records_before)))
      ∙ ap (with_format (format_of_before tag)) (value_same tag))
  new_same (row ∷ rows) new tag =
      let first = first_held (is_new row) (map is_new rows) new in
      either (eqb tag row.0)
      (λ y.
      ap₂ (λ (f : Format) (o : Own). with_format (beside f tag own_formats) (value_by t (known tag) (beside o tag own_fields)))
      (pick_yes _ _ _ y) (pick_yes _ _ _ y)
      ∙ new_none row first.0 tag (eqb-true tag row.0 y) _)
      (λ n.
      ap₂ (λ (f : Format) (o : Own). with_format (beside f tag own_formats) (value_by t (known tag) (beside o tag own_fields)))
      (pick_no _ _ _ n) (pick_no _ _ _ n)
      ∙ new_same rows first.1 tag)

  -- what is supplied for any tag is what was supplied
  pub supplied_same : (tag : ℕ) → supplied t known tag ≡ supplied_before t known tag
  unfolding supplied value_for format_of own_field
  supplied_same tag =
      ap₂ (λ (f : Format) (o : Own). with_format f (value_by t (known tag) o))
      (beside_append Unknown tag own_formats (formats_in new_rows ++ (made_formats ++ record_formats))
      ∙ ap (λ (f : Format). beside f tag own_formats) (beside_append Unknown tag (formats_in new_rows) (made_formats ++ record_formats)))
      (beside_append None tag own_fields (fields_in new_rows))
      ∙ new_same new_rows all_new tag
