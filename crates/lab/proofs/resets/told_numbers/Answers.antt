-- `resets::told_numbers` meets its contract: the protocol's four numbers are taken one by one.
-- Assumes nothing.
use mathlib.Core.Path.{ap, ◌∙◌}
use mathlib.Core.List.{List, [], ◌∷◌}
use Prim.Native.Nat.{ℕ}
use Rattle.lab.specs.Resets.{bit, laid_told}
use Rattle.lab.proofs.Resetting.{taken, four}
use Rattle.lab.proofs.resets.told_numbers.Goals as goal

pub returns : goal.returns
unfolding laid_told
returns c =
    let a = c.args in
    let t = a.t in
    let end = t.start ∷ t.end ∷ [] in
    ap (λ (m : ℕ). a.inverse ∷ t.f ∷ t.d ∷ t.n ∷ t.interval ∷ m ∷ taken c.protocol_numbers-p.result end) c.number_of.ensures
    ∙ ap (λ (l : List ℕ). a.inverse ∷ t.f ∷ t.d ∷ t.n ∷ t.interval ∷ bit t.specific ∷ l)
    (ap (λ (l : List ℕ). taken l end) c.protocol_numbers-p.ensures ∙ four t.protocol end)
