-- `tape_crc::by_tables` meets its contract: what the pairs leave is taken further by the fours, and what these leave by the bytes that
-- are left. Assumes nothing.
use mathlib.Core.Path.{ap, ◌∙◌}
use Prim.Native.Nat.{◌*◌, ◌/◌, ◌-◌}
use lib.ListN.{length, take, drop}
use Rattle.slices.proofs.Cutting.{rest_part}
use Rattle.tape_crc.specs.Check.{running_of}
use Rattle.tape_crc.specs.Parts.{pair}
use Rattle.tape_crc.proofs.by_tables.Goals as goal

pub returns : goal.returns
returns c =
    let s = c.args.s.now in
    let paired = length s / pair * pair in
    let rest = take (length s - paired) (drop paired s) in
    c.by_bytes.ensures
    ∙ (ap (running_of c.by_fours-r.result) (rest_part rest (length rest / 4 * 4))
    ∙ (c.by_fours-r.ensures
    ∙ (ap (running_of c.by_pairs-p.result) (rest_part s paired) ∙ c.by_pairs-p.ensures)))
