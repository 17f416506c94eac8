-- `second_rules` meets its contract: a bit for each rule of the second level.
-- Assumes nothing.
use mathlib.Core.Path.{◌≡◌}
use native.Mathlib.Omega.{arith}
use Rattle.atr_characters.specs.Data.{one_if}
use Rattle.atr_rules.specs.Tests.{ta2_broken, tb2_broken, tc2_broken, td2_broken}
use Rattle.atr_rules.specs.Lines.{second_lines, set_of}
use Rattle.atr_rules.proofs.Sums.{four}
use Rattle.atr_rules.proofs.second_rules.Goals as goal

pub returns : goal.returns
unfolding set_of second_lines
returns c =
    let l = c.args.l in
    let e1 : c.one.result ≡ one_if (ta2_broken l.second.ta) = cc in
    let e2 : c.one-2.result ≡ one_if (tb2_broken l.second.tb) = cc in
    let e3 : c.one-3.result ≡ one_if (tc2_broken l.second.tc) = cc in
    let e4 : c.one-4.result ≡ one_if (td2_broken l.first.td l.second.td) = cc in
    (four e1 e2 e3 e4, omega arith)
