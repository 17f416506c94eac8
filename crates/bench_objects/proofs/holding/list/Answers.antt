-- The reader goes ahead with each object that it finds. Assumes nothing.
use mathlib.Core.Path.{sym, ◌∙◌}
use native.Mathlib.Omega.{arith}
use Rattle.tlv_list.proofs.Reading.{next_ahead}
use Rattle.bench_objects.proofs.holding.list.Goals as goal

pub loop-tag-smaller : goal.loop-tag-smaller
loop-tag-smaller g c =
    let e = sym c.next_from.ensures ∙ c.in-Member.is in
    let ahead = next_ahead c.args.s.now c.loop-tag.at _ _ _ e in
    omega arith
