-- How long a value is that is right for its name.
-- Assumes nothing.
use mathlib.Core.Path.{◌≡◌, sym, ap, ◌∙◌}
use mathlib.Core.Bool.{true}
use mathlib.Core.List.{List}
use Prim.Native.Nat.{ℕ, ◌≤◌}
use lib.ListN.{length}
use Rattle.answer_common.specs.Content.{meets, rule_for, right_value}
use Rattle.answer_common.specs.declared.content.Rule.{Rule}
use Rattle.answer_common.specs.declared.content.Rule.TheVariants.{Sizes}
use Rattle.answer_common.proofs.Limits.{bounds}

by_rule : (name : ℕ) (v : List ℕ) (rule : Rule) → rule_for name ≡ rule → right_value name v ≡ true → meets rule v ≡ true
unfolding right_value
by_rule name v rule e r = sym (ap (λ (x : Rule). meets x v) e) ∙ r

pub sized : (name fewest most : ℕ) (v : List ℕ) → rule_for name ≡ Sizes fewest most → right_value name v ≡ true
    → (fewest ≤ length v) × (length v ≤ most)
unfolding meets
sized name fewest most v e r = bounds fewest most (length v) (by_rule name v (Sizes fewest most) e r)
