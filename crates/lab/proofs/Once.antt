-- No tape has two findings, so one row of numbers fits the promise of `lab_judge`.
-- Assumes nothing.
use mathlib.Core.Path.{◌≡◌, sym, ap, ap₂, ◌∙◌}
use mathlib.Core.List.{List}
use Prim.Native.Nat.{ℕ}
use Rattle.verdict.specs.Saying.{finds}
use Rattle.verdict_judged.proofs.Once.{judged_once, zeroed_once}
use Rattle.lab.specs.Findings.{FoundOf, laid_finding}

pub found_once : (t a b : List ℕ) → FoundOf t a → FoundOf t b → a ≡ b
found_once t a b x y =
    let same = ap₂ finds (judged_once x.verdict y.verdict) (zeroed_once t _ _ x.zeros y.zeros) in
    x.laid ∙ (ap laid_finding same ∙ sym y.laid)
