-- '00' bytes counted from a place on, a byte at a time.
-- Assumes nothing.
use mathlib.Core.Path.{◌≡◌, sym, ap, ◌∙◌}
use mathlib.Core.List.{List}
use Prim.Native.Nat.{ℕ, ◌+◌, ◌≤◌, ◌<◌}
use native.Mathlib.Numerals.{add-one}
use lib.ListN.{length, get_or, drop, drop_of_length-le}
use lib.Seq.{drop-cons}
use borrow.Author.Tests.{eq-eqb, ne_eqb}
use Rattle.slices.proofs.Choice.{pick_yes, pick_no}
use Rattle.tlv_list.specs.Place.{fillers}

module _ (s : List ℕ) (i : ℕ) where
  pub fillers_pass : i < length s → get_or s i 0 ≡ 0 → fillers (drop i s) ≡ fillers (drop (i + 1) s) + 1
  unfolding fillers
  fillers_pass h e =
      ap fillers (drop-cons s i 0 h)
      ∙ (pick_yes _ _ _ (eq-eqb _ _ e) ∙ (sym (add-one _) ∙ ap (λ (n : ℕ). fillers (drop n s) + 1) (sym (add-one i))))

  pub fillers_stop : i < length s → (get_or s i 0 ≡ 0 → ⊥) → fillers (drop i s) ≡ 0
  unfolding fillers
  fillers_stop h e = ap fillers (drop-cons s i 0 h) ∙ pick_no _ _ _ (ne_eqb _ _ e)

  pub fillers_end : length s ≤ i → fillers (drop i s) ≡ 0
  unfolding fillers
  fillers_end h = ap fillers (drop_of_length-le s h)
