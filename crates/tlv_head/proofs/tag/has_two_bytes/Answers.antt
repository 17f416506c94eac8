-- `tag::has_two_bytes` meets its contract: it is the definition's own test.
-- Assumes nothing.
use mathlib.Core.Path.{refl}
use Rattle.tlv_head.specs.Head.{two_bytes}
use Rattle.tlv_head.proofs.tag.has_two_bytes.Goals as goal

pub returns : goal.returns
unfolding two_bytes
returns c = refl
