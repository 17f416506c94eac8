-- The quick judge and the plain one say the same of every tape, whole and by pieces: whoever keeps the promise has the one finding.
-- Assumes nothing.
use mathlib.Core.Path.{◌≡◌}
use mathlib.Core.List.{List}
use Prim.Native.Nat.{ℕ}
use Rattle.verdict.specs.declared.Finding.{Finding}
use Rattle.verdict_judged.proofs.Once.{judged_once, zeroed_once}
use Rattle.quick_judge.proofs.Finding.{Right}

-- verdict, place, code and fourth number
pub quick_plain : (t : List ℕ) (quick plain : Finding) → Right t quick → Right t plain → quick ≡ plain
quick_plain t quick plain q p =
    let rulings = judged_once q.0 p.0 in
    let numbers = zeroed_once t quick.zeros plain.zeros q.1 p.1 in
    λ i. record { ruling = rulings i; zeros = numbers i }
