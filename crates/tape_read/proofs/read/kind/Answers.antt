-- `tape_read::read::kind` meets its contract: a field of one byte is that byte. Assumes nothing.
use mathlib.Core.Path.{sym, ◌∙◌}
use Rattle.tape_read.proofs.Windows.{byte_field}
use Rattle.tape_read.proofs.read.kind.Goals as goal

pub returns : goal.returns
returns c = c.byte.ensures.0 ∙ sym (byte_field 8 c.args.block.now)
