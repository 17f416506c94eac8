-- The reader goes ahead with each object that it finds. Assumes nothing.
use mathlib.Core.Path.{sym, ◌∙◌}
use native.Mathlib.Omega.{arith}
use Rattle.tlv_list.proofs.Reading.{next_ahead}
use Rattle.bench_select.proofs.read.entries.Goals as goal

pub loop-tag-smaller : goal.loop-tag-smaller
loop-tag-smaller g c =
    let e = sym c.next.ensures ∙ c.in-Member.is in
    let ahead = next_ahead c.args.s.now c.loop-tag.p _ _ _ e in
    omega arith
