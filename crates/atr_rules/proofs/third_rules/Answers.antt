-- `third_rules` meets its contract: a bit for each rule of the third level.
-- Assumes nothing.
use mathlib.Core.Path.{◌≡◌}
use native.Mathlib.Omega.{arith}
use Rattle.atr_characters.specs.Data.{one_if}
use Rattle.atr_rules.specs.Tests.{ta3_broken, tb3_absent, bwi_broken, cwi_broken, guard_broken, tc3_broken}
use Rattle.atr_rules.specs.Lines.{third_lines, set_of}
use Rattle.atr_rules.proofs.Sums.{none_is, six}
use Rattle.atr_rules.proofs.third_rules.Goals as goal

pub returns : goal.returns
unfolding set_of third_lines
returns c =
    let l = c.args.l in
    let n = none_is c.is_none.result c.is_none.ensures in
    let e1 : c.one.result ≡ one_if (ta3_broken l.second.td l.third.ta) = cc in
    let e2 : c.one-2.result ≡ one_if (tb3_absent l.first.td l.second.td l.third.tb l.third.c l.size) = cc in
    let e3 : c.one-3.result ≡ one_if (bwi_broken l.second.td l.third.tb) = cc in
    let e4 : c.one-4.result ≡ one_if (cwi_broken l.second.td l.third.tb) = cc in
    let e5 : c.one-5.result ≡ one_if (guard_broken l.first.tc l.second.td l.third.tb) = cc in
    let e6 : c.one-6.result ≡ one_if (tc3_broken l.second.td l.third.tc) = cc in
    (six e1 e2 e3 e4 e5 e6, omega arith)
