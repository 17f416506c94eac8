-- `tape_read::read::payload` meets its contract: a length that is not allowed gives nothing, any other that part.
-- Assumes nothing.
use mathlib.Core.Path.{sym, ap, ◌∙◌}
use Prim.Native.Nat.{ℕ}
use native.Mathlib.Omega.{arith}
use borrow.Author.Tests.{lt-ltb, le-ltb}
use lib.ListN.{take, drop}
use Rattle.slices.proofs.Choice.{pick_yes, pick_no}
use Rattle.tape_read.specs.Entries.{payload_most}
use Rattle.tape_read.specs.Blocks.{length_in, payload_at, length_bad, payload_in}
use Rattle.tape_read.proofs.read.payload.Goals as goal

pub returns-then-n-gt-PAYLOAD : goal.returns-then-n-gt-PAYLOAD
unfolding payload_in length_bad
returns-then-n-gt-PAYLOAD c = sym (pick_yes _ _ _ (lt-ltb payload_most (length_in c.args.block.now) (omega arith)))

pub returns : goal.returns
unfolding payload_in length_bad
returns c =
    let b = c.args.block.now in
    c.part.ensures
    ∙ (ap (λ (k : ℕ). take k (drop payload_at b)) c.payload_length-n.ensures.0
    ∙ sym (pick_no _ _ _ (le-ltb payload_most (length_in b) (omega arith))))
