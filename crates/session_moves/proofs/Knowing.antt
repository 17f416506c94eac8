-- The slots of what is known say what the rulebook knows: what the records told stands behind the session's own slots, which are
-- empty until something is kept there.
-- Assumes nothing.
use mathlib.Core.Path.{◌≡◌, refl, sym, ap, ap₂, subst, fun_ext, ◌∙◌}
use mathlib.Core.Bool.{true, false}
use mathlib.Core.List.{List, [], ◌∷◌, ◌++◌, append-nil}
use mathlib.Core.Option.{Option, none, some}
use Prim.Native.Nat.{ℕ, ◌+◌, ◌-◌, ◌≤◌, ◌<◌}
use native.Mathlib.Omega.{arith}
use lib.Dec.{eqb}
use lib.ListN.{length, take, drop, length-append, length-drop, drop_of_length-le}
use lib.Seq.{drop_at, drop-drop, take_all}
use borrow.Author.Tests.{eqb-true, eqb-false}
use Rattle.slices.specs.Choice.{pick, unless_empty}
use Rattle.slices.specs.Tables.{beside}
use Rattle.slices.specs.Writing.{put, laid, zeros}
use Rattle.slices.proofs.Choice.{pick_no, either}
use Rattle.slices.proofs.Writing.{zeros_length, laid_fits}
use Rattle.facts.specs.Facts.{Facts}
use Rattle.session_records.specs.Slots.{end, told_from, placed, record_slot}
use Rattle.session_records.specs.Slots.{slot_for, cell_in, read, told_in, kept_in, full, told}
use Rattle.session_records.proofs.Apart.{told_begins, slot_told}
use Rattle.session_records.proofs.Keeping.{keep_same, keep_other, keep_all, full_length_lem}
use Rattle.rulebook.specs.Situation.{known_in}
use Rattle.session_state.specs.Reading.{situation_with, early, late}
use Rattle.session_state.specs.declared.State.{State}
use Rattle.session_moves.specs.Known.{only_told, known_early, known_late, known_second}

pub only_length : (d : List ℕ) → length d ≡ end → length (only_told d) ≡ end
unfolding only_told
only_length d all =
    length-append (zeros told_from) (drop told_from d) ∙ (let z = zeros_length told_from in let r = length-drop told_from d in omega arith)

blank_front : take told_from (zeros end) ≡ zeros told_from
unfolding zeros
blank_front = refl

pub rest_told : (d : List ℕ) → length d ≡ end → take (end - told_from) (drop told_from d) ≡ drop told_from d
rest_told d all = let r = length-drop told_from d in take_all (end - told_from) (drop told_from d) (omega arith)

-- as the code lays it
pub only_laid : (d : List ℕ) → length d ≡ end → laid (drop told_from d) told_from (zeros end) ≡ only_told d
unfolding only_told put
only_laid d all =
    let z = zeros_length end in
    let r = length-drop told_from d in
    let q = length-drop told_from (zeros end) in
    let few : length (drop told_from (zeros end)) ≤ length (drop told_from d) = omega arith in
    laid_fits (drop told_from d) told_from (zeros end) (omega arith)
    ∙ ap₂ ◌++◌ blank_front
    (ap (λ l. drop told_from d ++ l) (drop_of_length-le (drop told_from (zeros end)) few) ∙ append-nil (drop told_from d))

module _ (d : List ℕ) (all : length d ≡ end) where
  -- behind the session's own slots nothing is moved
  behind : (p : ℕ) → told_from ≤ p → drop p (only_told d) ≡ drop p d
  unfolding only_told
  behind p h =
      let m = p - told_from in
      let e : p ≡ told_from + m = omega arith in
      ap (λ (k : ℕ). drop k (zeros told_from ++ drop told_from d)) e
      ∙ (sym (drop-drop m told_from (zeros told_from ++ drop told_from d))
      ∙ (ap (drop m) (drop_at (zeros told_from) (drop told_from d) told_from (zeros_length told_from))
      ∙ (drop-drop m told_from d
      ∙ ap (λ (k : ℕ). drop k d) (sym e))))

  pub only_other : (tag : ℕ) → eqb tag 0x95 ≡ false → eqb tag 0x9B ≡ false → eqb tag 0x8A ≡ false → eqb tag 0x82 ≡ false
      → told_in (only_told d) tag ≡ told_in d tag
  unfolding told_in cell_in
  only_other tag a b c e =
      let same = slot_told tag a b c e in
      ap (λ s. read (cell_in (only_told d) s)) same
      ∙ (ap (λ l. read (take (record_slot tag).size l)) (behind (record_slot tag).at (told_begins tag))
      ∙ ap (λ s. read (cell_in d s)) (sym same))

  pub only_own : (told_in (only_told d) 0x95 ≡ none) × (told_in (only_told d) 0x9B ≡ none) × (told_in (only_told d) 0x8A ≡ none)
      × (told_in (only_told d) 0x82 ≡ none)
  unfolding told_in cell_in slot_for placed beside pick only_told zeros read
  only_own = (refl, refl, refl, refl)

-- what a row of four says of a tag that is none of theirs
own_other : (a b c e : Option (List ℕ)) (other : Option (List ℕ)) (tag : ℕ) → eqb tag 0x95 ≡ false → eqb tag 0x9B ≡ false
    → eqb tag 0x8A ≡ false → eqb tag 0x82 ≡ false
    → beside other tag ((0x95, a) ∷ (0x9B, b) ∷ (0x8A, c) ∷ (0x82, e) ∷ []) ≡ other
unfolding beside
own_other a b c e other tag n₁ n₂ n₃ n₄ = pick_no _ _ _ n₁ ∙ (pick_no _ _ _ n₂ ∙ (pick_no _ _ _ n₃ ∙ pick_no _ _ _ n₄))

-- slots that say so of the four, and of any other tag what the records told, say what the rulebook knows
pub record Says (x : List ℕ) (facts : Facts) (tvr tsi response profile : Option (List ℕ)) : Type 0 where
  pub whole : length x ≡ end
  pub at_tvr : told_in x 0x95 ≡ tvr
  pub at_tsi : told_in x 0x9B ≡ tsi
  pub at_response : told_in x 0x8A ≡ response
  pub at_profile : told_in x 0x82 ≡ profile
  pub at_other : (tag : ℕ) → eqb tag 0x95 ≡ false → eqb tag 0x9B ≡ false → eqb tag 0x8A ≡ false → eqb tag 0x82 ≡ false
      → told_in x tag ≡ facts tag

module _ (x : List ℕ) (facts : Facts) (tvr tsi response profile : Option (List ℕ)) (h : Says x facts tvr tsi response profile) where
  abbrev Row : ℕ → Option (List ℕ)
  Row tag = beside (facts tag) tag ((0x95, tvr) ∷ (0x9B, tsi) ∷ (0x8A, response) ∷ (0x82, profile) ∷ [])

  at_own : (tag own : ℕ) → eqb tag own ≡ true → told_in x own ≡ Row own → told_in x tag ≡ Row tag
  at_own tag own y e = subst (λ (t : ℕ). told_in x t ≡ Row t) (sym (eqb-true tag own y)) e

  says_at : (tag : ℕ) → told_in x tag ≡ Row tag
  unfolding beside pick
  says_at tag =
      either (eqb tag 0x95) (λ y. at_own tag 0x95 y h.at_tvr) (λ n₁.
      either (eqb tag 0x9B) (λ y. at_own tag 0x9B y h.at_tsi) (λ n₂.
      either (eqb tag 0x8A) (λ y. at_own tag 0x8A y h.at_response) (λ n₃.
      either (eqb tag 0x82) (λ y. at_own tag 0x82 y h.at_profile) (λ n₄.
      h.at_other tag n₁ n₂ n₃ n₄ ∙ sym (own_other tvr tsi response profile (facts tag) tag n₁ n₂ n₃ n₄)))))

  pub says_all : told_in x ≡ Row
  says_all = fun_ext says_at

-- one value more
module _ (x : List ℕ) (facts : Facts) (tvr tsi response profile : Option (List ℕ)) (h : Says x facts tvr tsi response profile)
    (v : List ℕ) where
  other_than : (own tag : ℕ) → eqb tag own ≡ false → told_in (kept_in own v x) tag ≡ told_in x tag
  other_than own tag n = keep_other x h.whole own tag v (λ e. eqb-false tag own n (sym e))

  abbrev Kept : ℕ → Option (List ℕ) → Option (List ℕ) → Option (List ℕ) → Option (List ℕ) → Type 0
  Kept own a b c d = length v < (slot_for own).size → Says (kept_in own v x) facts a b c d

  pub keep_tvr : Kept 0x95 (some v) tsi response profile
  keep_tvr f = record {
    whole = keep_all x h.whole 0x95 v;
    at_tvr = keep_same x h.whole 0x95 v f;
    at_tsi = other_than 0x95 0x9B refl ∙ h.at_tsi;
    at_response = other_than 0x95 0x8A refl ∙ h.at_response;
    at_profile = other_than 0x95 0x82 refl ∙ h.at_profile;
    at_other = λ tag a b c d. other_than 0x95 tag a ∙ h.at_other tag a b c d;
  }

  pub keep_tsi : Kept 0x9B tvr (some v) response profile
  keep_tsi f = record {
    whole = keep_all x h.whole 0x9B v;
    at_tvr = other_than 0x9B 0x95 refl ∙ h.at_tvr;
    at_tsi = keep_same x h.whole 0x9B v f;
    at_response = other_than 0x9B 0x8A refl ∙ h.at_response;
    at_profile = other_than 0x9B 0x82 refl ∙ h.at_profile;
    at_other = λ tag a b c d. other_than 0x9B tag b ∙ h.at_other tag a b c d;
  }

  pub keep_response : Kept 0x8A tvr tsi (some v) profile
  keep_response f = record {
    whole = keep_all x h.whole 0x8A v;
    at_tvr = other_than 0x8A 0x95 refl ∙ h.at_tvr;
    at_tsi = other_than 0x8A 0x9B refl ∙ h.at_tsi;
    at_response = keep_same x h.whole 0x8A v f;
    at_profile = other_than 0x8A 0x82 refl ∙ h.at_profile;
    at_other = λ tag a b c d. other_than 0x8A tag c ∙ h.at_other tag a b c d;
  }

  pub keep_profile : Kept 0x82 tvr tsi response (some v)
  keep_profile f = record {
    whole = keep_all x h.whole 0x82 v;
    at_tvr = other_than 0x82 0x95 refl ∙ h.at_tvr;
    at_tsi = other_than 0x82 0x9B refl ∙ h.at_tsi;
    at_response = other_than 0x82 0x8A refl ∙ h.at_response;
    at_profile = keep_same x h.whole 0x82 v f;
    at_other = λ tag a b c d. other_than 0x82 tag d ∙ h.at_other tag a b c d;
  }

-- a state's slots, given the lengths of its arrays
module _ (s : State) (five : length s.tvr ≡ 5) (two : length s.tsi ≡ 2) where
  says_early : Says (known_early s) (told s.told) (some s.tvr) (some s.tsi) none none
  unfolding known_early told slot_for placed beside pick
  says_early =
      let d = full s.told.bytes in
      let all = full_length_lem s.told.bytes in
      let own = only_own d all in
      let bare : Says (only_told d) (told_in d) none none none none = record {
        whole = only_length d all;
        at_tvr = own.0;
        at_tsi = own.1;
        at_response = own.2;
        at_profile = own.3;
        at_other = only_other d all;
      } in
      let first = keep_tvr (only_told d) (told_in d) none none none none bare s.tvr (omega arith) in
      keep_tsi _ _ _ _ _ _ first s.tsi (omega arith)

  pub early_known : told_in (known_early s) ≡ known_in (early s) none
  unfolding known_in early situation_with unless_empty
  early_known = says_all _ _ _ _ _ _ says_early

  module _ (pair : length s.profile ≡ 2) where
    there : (v : List ℕ) → length v ≡ 2 → some v ≡ unless_empty v
    unfolding unless_empty
    there [] e = absurd (omega arith)
    there (b ∷ bs) e = refl

    says_late : Says (known_late s) (told s.told) (some s.tvr) (some s.tsi) none (some s.profile)
    unfolding known_late slot_for placed beside pick
    says_late = keep_profile _ _ _ _ _ _ says_early s.profile (omega arith)

    pub late_known : told_in (known_late s) ≡ known_in (late s) none
    unfolding known_in late situation_with
    late_known =
        says_all _ _ _ _ _ _ says_late
        ∙ ap (λ o tag. beside (told s.told tag) tag ((0x95, some s.tvr) ∷ (0x9B, some s.tsi) ∷ (0x8A, none) ∷ (0x82, o) ∷ []))
        (there s.profile pair)

    pub second_known : (response : List ℕ) → length response ≡ 2 → told_in (known_second response s) ≡ known_in (late s) (some response)
    unfolding known_second known_in late situation_with slot_for placed beside pick
    second_known response e =
        says_all _ _ _ _ _ _ (keep_response _ _ _ _ _ _ says_late response (omega arith))
        ∙ ap (λ o tag. beside (told s.told tag) tag
        ((0x95, some s.tvr) ∷ (0x9B, some s.tsi) ∷ (0x8A, some response) ∷ (0x82, o) ∷ [])) (there s.profile pair)
