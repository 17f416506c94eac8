-- `answer_common::named::is_listed` meets its contract: the library's test, said as the definition says it.
-- Assumes nothing.
use mathlib.Core.Path.{◌∙◌}
use lib.Dec.{eqb}
use Rattle.answer_common.specs.Named.{listed}
use Rattle.answer_common.proofs.Any.{any_list, same_either_way}
use Rattle.answer_common.proofs.named.is_listed.Goals as goal

pub returns : goal.returns
unfolding listed
returns c =
    let a = c.args in
    c.contains.ensures.value ∙ any_list (eqb a.name) (λ y. eqb y a.name) (λ y. same_either_way y a.name) a.names.now
