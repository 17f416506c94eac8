-- Refusal 9: of the list check, which gives it over 4,096 bytes or where the bytes are no list, and only then; and of the look-up,
-- which gives it exactly where the list check does and else says what stands among the members.
-- Assumes nothing.
use mathlib.Core.Path.{◌≡◌, refl, sym, ap, ◌∙◌}
use mathlib.Core.Bool.{true, false, not}
use mathlib.Core.List.{List}
use mathlib.Core.Option.{some}
use Prim.Native.Nat.{ℕ, ◌≤◌, ◌<◌}
use lib.Dec.{ltb, eqb}
use lib.ListN.{length}
use borrow.Author.Tests.{lt-ltb, le-ltb}
use Rattle.slices.specs.Choice.{pick, first_of}
use Rattle.slices.proofs.Choice.{pick_yes, pick_no, pick_same, picked, either}
use Rattle.slices.specs.Tests.{is_some}
use Rattle.tlv_list.specs.Objects.{Object, objects, is_list, read_refusal}
use Rattle.tlv_list.specs.Lookup.{lookup, find_in_checked, found_value, seek, lookup_refusal}
use Rattle.tlv_list.specs.declared.Found.{Found}
use Rattle.std.specs.Prelude.{None, Some}
use Rattle.tlv_list.proofs.Walking.{find_lookup}

module _ (s : List ℕ) where
  pub over : 4096 < length s → read_refusal s ≡ 9
  unfolding read_refusal first_of
  over h = pick_yes _ _ _ (lt-ltb 4096 (length s) h)

  pub no_list : is_list s ≡ false → read_refusal s ≡ 9
  unfolding read_refusal first_of
  no_list e = ap (pick (ltb 4096 (length s)) 9) (pick_yes _ _ _ (ap not e)) ∙ pick_same _ _

  pub read : length s ≤ 4096 → is_list s ≡ true → read_refusal s ≡ 0
  unfolding read_refusal first_of
  read h e = pick_no _ _ _ (le-ltb 4096 (length s) h) ∙ pick_no _ _ _ (ap not e)

  -- up to 4,096 bytes the refusal tells whether they are a list
  pub checked : length s ≤ 4096 → eqb (read_refusal s) 0 ≡ is_list s
  checked h =
      either (is_list s)
      (λ y. ap (λ (n : ℕ). eqb n 0) (read h y) ∙ sym y)
      (λ n. ap (λ (k : ℕ). eqb k 0) (no_list n) ∙ sym n)

  -- it is 9 or 0
  numbers : (P : ℕ → Type 0) → P 9 → P 0 → P (read_refusal s)
  unfolding read_refusal first_of
  numbers P nine zero' = picked P (ltb 4096 (length s)) 9 _ (λ e. nine) (λ n. picked P (not (is_list s)) 9 0 (λ e. nine) (λ e. zero'))

  module _ (tag : ℕ) where
    -- the look-up's refusal is that of the list check, whatever the tag
    pub refused_as_list : lookup_refusal (seek s tag) ≡ read_refusal s
    unfolding seek lookup_refusal pick
    refused_as_list = numbers (λ n. lookup_refusal (pick (eqb n 9) None (Some (find_in_checked s tag))) ≡ n) refl refl

    -- in a list it says what a look-up among the members says
    pub sought : (ms : List Object) → length s ≤ 4096 → objects s ≡ some ms
        → (f : Found) × (seek s tag ≡ Some f) × (found_value s f ≡ lookup tag ms)
    unfolding seek is_list is_some
    sought ms h e =
        let right : is_list s ≡ true = ap is_some e in
        (find_in_checked s tag, pick_no _ _ _ (ap (λ (n : ℕ). eqb n 9) (read h right)), sym (find_lookup s tag ms e))
