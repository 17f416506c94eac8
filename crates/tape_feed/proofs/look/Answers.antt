-- `look` meets its contract: its fields are what the definition says.
-- Assumes nothing.
use mathlib.Core.Path.{ap, ◌∙◌}
use Prim.Native.Nat.{ℕ, ◌+◌}
use Rattle.tape_read.specs.Blocks.{code_of}
use Rattle.tape_feed.proofs.look.Goals as goal

pub returns : goal.returns
returns c =
    let a = c.args in
    let due = c.session_due-due.ensures in
    let code = c.code.ensures ∙ ap (λ (s : ℕ). code_of a.reader.blocks s a.block.now) due in
    λ i. record { blocks = a.reader.blocks + 1; session = due i; place = a.reader.blocks; code = code i; torn = a.reader.torn }
