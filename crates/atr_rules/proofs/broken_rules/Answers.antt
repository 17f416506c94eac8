-- `broken_rules` meets its contract: the levels' sets one above the other, above the bit of TS.
-- Assumes nothing.
use mathlib.Core.Path.{◌≡◌, sym, ap, ◌∙◌}
use mathlib.Core.Bool.{Bool, false}
use mathlib.Core.List.{◌++◌}
use Prim.Native.Nat.{ℕ, ◌+◌, ◌*◌}
use native.Mathlib.Omega.{arith}
use Rattle.slices.specs.Choice.{pick}
use Rattle.slices.proofs.Choice.{pick_yes}
use Rattle.atr_characters.specs.declared.Located.{Located}
use Rattle.atr_rules.specs.Lines.{first_lines, second_lines, third_lines, last_lines, lines_of, set_of}
use Rattle.atr_rules.proofs.Sums.{set_append}
use Rattle.atr_rules.proofs.broken_rules.Goals as goal

stacked : (l : Located) (warm : Bool)
    → set_of (lines_of false l warm)
    ≡ 2 * (set_of (first_lines l warm) + 16 * set_of (second_lines l) + 256 * set_of (third_lines l) + 16384 * set_of (last_lines l))
unfolding lines_of set_of pick first_lines second_lines third_lines
stacked l warm =
    let a = set_append (first_lines l warm) (second_lines l ++ third_lines l ++ last_lines l) in
    let b = set_append (second_lines l) (third_lines l ++ last_lines l) in
    let c = set_append (third_lines l) (last_lines l) in
    omega arith

pub returns-then-ts : goal.returns-then-ts
unfolding lines_of set_of
returns-then-ts c = sym (ap set_of (pick_yes _ _ _ c.if-ts.true))

pub returns : goal.returns
returns c =
    let a = c.args in
    sym (ap (λ (ts : Bool). set_of (lines_of ts a.l a.warm)) c.if-ts.false
    ∙ (stacked a.l a.warm
    ∙ sym (sums c.first_rules.ensures.0 c.second_rules.ensures.0 c.third_rules.ensures.0
    c.last_rules.ensures.0)))
  where
    sums : {a b c d w x y z : ℕ} → a ≡ w → b ≡ x → c ≡ y → d ≡ z
        → 2 * (a + 16 * b + 256 * c + 16384 * d) ≡ 2 * (w + 16 * x + 256 * y + 16384 * z)
    sums e f g h = omega arith
