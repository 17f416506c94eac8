-- `answer_select::begins` meets its contract: the library's test, said as the definition says it.
-- Assumes nothing.
use Rattle.std.proofs.Common.{◌≡◌, refl, ap, ◌∙◌, Bool, ◌&&◌, List, [], ◌∷◌, ℕ, eqb}
use Rattle.std.specs.List.{starts_with}
use Rattle.answer_select.specs.Select.{begins}
use Rattle.answer_select.proofs.begins.Goals as goal

as_library : (aid v : List ℕ) → starts_with eqb v aid ≡ begins aid v
unfolding begins
as_library [] v = refl
as_library (a ∷ aid) [] = refl
as_library (a ∷ aid) (b ∷ v) = ap (λ (t : Bool). eqb a b && t) (as_library aid v)

pub returns : goal.returns
returns c = c.starts_with.ensures.value ∙ as_library c.args.aid.now c.args.v.now
