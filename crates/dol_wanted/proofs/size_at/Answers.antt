-- `dol_wanted::size_at` meets its contract: the byte after the tag.
-- Assumes nothing.
use mathlib.Core.Path.{◌∙◌, ap}
use Prim.Native.Nat.{ℕ}
use lib.ListN.{get_or}
use Rattle.dol_wanted.specs.Wanted.{size_at}
use Rattle.dol_wanted.proofs.size_at.Goals as goal

pub returns : goal.returns
unfolding size_at
returns c = (
  c.byte.ensures.0 ∙ ap (λ (i : ℕ). get_or c.args.s.now i 0)
      c.tag_size.ensures.0,
  c.byte.ensures.1,
)
