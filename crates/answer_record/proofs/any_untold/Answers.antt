-- `answer_record::any_untold` meets its contract: the library's test of the names.
-- Assumes nothing.
use Rattle.std.proofs.Common.{rules, tests, ◌∙◌, refl, Bool, not, List, ℕ}
use Rattle.std.proofs.lemmas.Iterator.{YieldsList-from_slice}
use Rattle.std.proofs.lemmas.Iterator.Search.{any_from_yields_List}
use Rattle.slices.specs.Tests.{is_some}
use Rattle.session_records.specs.Slots.{told_in}
use Rattle.answer_common.proofs.Any.{any_list}
use Rattle.answer_record.proofs.any_untold.Goals as goal

untold : List ℕ → ℕ → Bool
untold told name = not (is_some (told_in told name))

pub returns : goal.returns
unfolding untold
returns c =
    let a = c.args in
    any_from_yields_List (untold a.told.now) _ _ _ c.any.ensures.ran (YieldsList-from_slice a.names.now (cc))
    (λ x b q k. search (rules, tests))
    ∙ any_list (untold a.told.now) (untold a.told.now) (λ name. refl) a.names.now
