-- `answer_common::named::any_times` meets its contract: the library's test of the four.
-- Assumes nothing.
use Rattle.std.proofs.Common.{rules, tests, ◌∙◌, refl, eqb, [], ◌∷◌}
use Rattle.std.proofs.lemmas.Iterator.{YieldsList-from_slice}
use Rattle.std.proofs.lemmas.Iterator.Search.{any_from_yields_List}
use Rattle.answer_common.specs.Named.{found_times}
use Rattle.answer_common.proofs.Any.{any_list}
use Rattle.answer_common.proofs.named.any_times.Goals as goal

pub returns : goal.returns
returns c =
    let a = c.args in
    any_from_yields_List (λ f. eqb (found_times f) a.n) _ _ _ c.any.ensures.ran
    (YieldsList-from_slice (a.a ∷ a.b ∷ a.c ∷ a.d ∷ []) (cc)) (λ x b q k. search (rules, tests))
    ∙ any_list (λ f. eqb (found_times f) a.n) (λ f. eqb (found_times f) a.n) (λ f. refl) (a.a ∷ a.b ∷ a.c ∷ a.d ∷ [])
