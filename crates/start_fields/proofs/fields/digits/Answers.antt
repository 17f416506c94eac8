-- `start_fields::fields::digits` meets its contract: the run goes from the amount's place up to the unpredictable number's.
-- Assumes nothing.
use mathlib.Core.Path.{◌≡◌, ap₂, ◌∙◌}
use Prim.Native.Nat.{ℕ, ◌-◌}
use native.Mathlib.Omega.{arith}
use lib.ListN.{take, drop}
use Rattle.start_fields.proofs.fields.digits.Goals as goal

pub returns : goal.returns
returns c =
    let s = c.args.s.now in
    let size : c.begin-2.result - c.begin-3.result ≡ 20 = omega arith in
    c.part.ensures ∙ ap₂ (λ (from n : ℕ). take n (drop from s)) c.begin.ensures size
