-- `begins_with` meets its contract.
-- Assumes nothing.
use mathlib.Core.Path.{ap, ◌∙◌}
use Rattle.slices.specs.Tests.{alike}
use Rattle.select_names.specs.Names.{begins_with}
use Rattle.select_names.proofs.begins_with.Goals as goal

pub returns : goal.returns
unfolding begins_with
returns c = c.alike.ensures ∙ ap (alike c.args.aid.now) c.part.ensures
