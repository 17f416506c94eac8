-- 'Not successful' is set exactly where no rule succeeds: a try sets it never, and the list's end sets it always.
-- Assumes nothing.
use mathlib.Core.Path.{◌≡◌, sym, ap, ◌∙◌}
use mathlib.Core.Bool.{Bool, false}
use mathlib.Core.List.{List, [], ◌∷◌}
use Prim.Native.Nat.{ℕ, ◌<◌, ◌≤◌, ◌^◌}
use native.Mathlib.Omega.{arith}
use lib.Bits.{bit_or, or_lt, or_add_and, and_le_l}
use lib.Dec.{ltb}
use lib.ListN.{drop, get_or}
use borrow.Author.Tests.{lt-ltb, le-ltb}
use Rattle.slices.proofs.Choice.{pick_yes, pick_no, either}
use Rattle.cvm_rules.specs.Bits.{not_successful}
use Rattle.cvm_rules.specs.Methods.{method_of, goes_on, succeeds, tried_bits}
use Rattle.cvm_rules.specs.Turns.{tried}
use Rattle.cvm_rules.specs.declared.Circumstances.{Circumstances}
use Rattle.cvm.specs.Lists.{limit_x, limit_y, rules_of}
use Rattle.cvm.specs.Verified.{verified_from, verified}
use Rattle.cvm.proofs.Bounds.{tried_within}
use Rattle.cvm_laws.specs.Tries.{successful_from, successful}
use Rattle.cvm_laws.proofs.OneRule.{passed_over_lem, success_ends, failure_ends, failure_followed}

-- joined to anything it is there
or_at_least : (a b : ℕ) → b ≤ bit_or a b
or_at_least a b = omega (arith, or_add_and a b, and_le_l a b)

set : (a b : ℕ) → ltb (bit_or a (bit_or b not_successful)) not_successful ≡ false
set a b =
    le-ltb (bit_or a (bit_or b not_successful)) not_successful
    (omega (arith, or_at_least a (bit_or b not_successful), or_at_least b not_successful))

abbrev clear : ℕ → Bool
clear n = ltb n not_successful

module _ (c : Circumstances) (x y : ℕ) where
  pub from_says : (bits : ℕ) (rules results : List ℕ) → bits < 2 ^ 7
      → ltb (verified_from c x y bits rules results) not_successful ≡ successful_from c x y rules results
  unfolding verified_from successful_from
  from_says bits [] results h = le-ltb _ _ (or_at_least bits not_successful)
  from_says bits (b ∷ []) results h = le-ltb _ _ (or_at_least bits not_successful)
  from_says bits (first ∷ code ∷ rules) results h =
      let m = method_of first in
      let r = get_or results 0 0 in
      let b = tried_bits m c.means r in
      let more : bit_or bits b < 2 ^ 7 = or_lt 7 bits b h (tried_within m c.means r).0 in
      either (tried c x y first code)
      (λ e.
      either (succeeds m c.means r)
      (λ s.
      ap clear (success_ends c x y bits first code rules results e s).0
      ∙ (lt-ltb _ _ more ∙ sym (pick_yes _ _ _ e ∙ pick_yes _ _ _ s)))
      (λ s.
      either (goes_on first)
      (λ g.
      ap clear (failure_followed c x y bits first code rules results e s g)
      ∙ (from_says (bit_or bits b) rules (drop 1 results) more ∙ sym (pick_yes _ _ _ e ∙ (pick_no _ _ _ s ∙ pick_yes _ _ _ g))))
      (λ g.
      ap clear (failure_ends c x y bits first code rules results e s g).0
      ∙ (set bits b ∙ sym (pick_yes _ _ _ e ∙ (pick_no _ _ _ s ∙ pick_no _ _ _ g))))))
      (λ e.
      ap clear (passed_over_lem c x y bits first code rules results e)
      ∙ (from_says bits rules (drop 1 results) h ∙ sym (pick_no _ _ _ e)))

-- b8 is clear exactly where the list succeeds
pub b8_says : (c : Circumstances) (list results : List ℕ) → ltb (verified c list results) not_successful ≡ successful c list results
unfolding verified successful
b8_says c list results = from_says c (limit_x list) (limit_y list) 0 (rules_of list) results (omega arith)
