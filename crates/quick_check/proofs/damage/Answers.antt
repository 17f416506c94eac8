-- `quick_check::damage` meets its contract: what its length says, or what is told of the only tape. Assumes nothing.
use mathlib.Core.Path.{ap, ap₂, ◌∙◌}
use mathlib.Core.List.{List, [], ◌∷◌, map}
use Prim.Native.Nat.{ℕ}
use lib.ListN.{get_or}
use lib.Seq.{sets}
use Rattle.tape_feed.specs.Feeding.{damaged}
use Rattle.quick_check.specs.Damages.{damage_in}
use Rattle.quick_check.proofs.Many.{only}
use Rattle.quick_check.proofs.damage.Goals as goal

pub returns : goal.returns
returns c =
    let told = c.damages.ensures in
    let t = c.args.tape.now in
    let first : (f : List ℕ → ℕ) → List (List ℕ) → ℕ = λ f ts. get_or (sets (0 ∷ []) 0 (map f ts)) 0 0 in
    c.at.ensures
    ∙ ap₂ damaged
    (ap (λ (s : List ℕ). get_or s 0 0) told.0 ∙ ap (first (λ s. (damage_in s).place)) (only t))
    (ap (λ (s : List ℕ). get_or s 0 0) told.1 ∙ ap (first (λ s. (damage_in s).code)) (only t))
