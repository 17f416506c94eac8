-- `due::lab_due` meets its contract: what was found of the whole tape says whether anything is due, and `due` what.
-- Assumes nothing.
use mathlib.Core.Path.{◌∙◌}
use native.Mathlib.Omega.{arith}
use Rattle.tape_crc.proofs.Bytes.{bytes_each}
use Rattle.lab.proofs.Standing.{both, nothing_due, next_due}
use Rattle.lab.proofs.due.lab_due.Goals as goal

pub returns-then-why-ne0 : goal.returns-then-why-ne0
returns-then-why-ne0 c =
    let args = c.args in
    let both = both
    (nothing_due args.tape.now c.feed_all-u.result c.feed_all-u.ensures c.found-why.result c.found-why.ensures args.out.now
    c.if-why-ne0.true) in
    record { next_after = both.0; out_after = both.1 }

pub returns : goal.returns
returns c =
    let args = c.args in
    let t = args.tape.now in
    let bytes = bytes_each t (λ i h. omega (arith, c.type_inv.tape i)) in
    let both = both
    (next_due t c.feed_all-u.result c.feed_all-u.ensures c.found-why.result c.found-why.ensures args.out.now bytes
    c.if-why-ne0.false c.due.result _ c.due.ensures) in
    record { next_after = c.numbers.ensures ∙ both.0; out_after = both.1 }
