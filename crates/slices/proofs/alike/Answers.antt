-- `alike` meets its contract: the library's comparison answers as the definition does.
-- Assumes nothing.
use mathlib.Core.Path.{◌∙◌}
use Rattle.slices.proofs.Comparing.{alike_by_items}
use Rattle.slices.proofs.alike.Goals as goal

pub returns : goal.returns
returns c = c.eq.ensures ∙ alike_by_items c.args.a.now c.args.b.now
