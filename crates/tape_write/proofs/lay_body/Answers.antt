-- `tape_write::lay_body` meets its contract: three parts, each laid where the last ended. Assumes nothing.
use mathlib.Core.Path.{ap, ap₂, ◌∙◌}
use mathlib.Core.List.{List}
use Prim.Native.Nat.{ℕ, ◌+◌}
use lib.ListN.{length}
use Rattle.slices.specs.Writing.{laid, zeros}
use Rattle.tape_read.specs.Entries.{entry, payload_most}
use Rattle.tape_read.specs.Blocks.{payload_at}
use Rattle.tape_write.proofs.Filling.{laid_body, zeros_part}
use Rattle.tape_write.proofs.lay_body.Goals as goal

pub returns : goal.returns
unfolding zeros
returns c =
    let a = c.args in
    let p = a.payload.now in
    c.lay-3.ensures
    ∙ (ap₂ (λ (z x : List ℕ). laid z (payload_at + length p) x) (zeros_part (length p) payload_most c.requires.1)
    (c.lay-2.ensures
    ∙ ap (laid p payload_at) (c.lay.ensures
    ∙ ap (λ (h : List ℕ). laid h 0 a.block.now) c.head_bytes.ensures))
    ∙ laid_body a.number a.session (entry a.kind p) a.block.now c.requires.1 c.requires.0)
