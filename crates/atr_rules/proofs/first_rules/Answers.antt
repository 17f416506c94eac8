-- `first_rules` meets its contract: a bit for each rule of the first level.
-- Assumes nothing.
use mathlib.Core.Path.{◌≡◌}
use native.Mathlib.Omega.{arith}
use Rattle.atr_characters.specs.Data.{one_if}
use Rattle.atr_rules.specs.Tests.{ta1_broken, tb1_absent, tb1_broken, td1_broken}
use Rattle.atr_rules.specs.Lines.{first_lines, set_of}
use Rattle.atr_rules.proofs.Sums.{none_is, four}
use Rattle.atr_rules.proofs.first_rules.Goals as goal

pub returns : goal.returns
unfolding set_of first_lines
returns c =
    let l = c.args.l in
    let n1 = none_is c.is_none.result c.is_none.ensures in
    let n2 = none_is c.is_none-2.result c.is_none-2.ensures in
    let e1 : c.one.result ≡ one_if (ta1_broken l.first.ta l.second.ta) = cc in
    let e2 : c.one-2.result ≡ one_if (tb1_absent c.args.warm l.first.tb l.first.c l.size) = cc in
    let e3 : c.one-3.result ≡ one_if (tb1_broken c.args.warm l.first.tb) = cc in
    let e4 : c.one-4.result ≡ one_if (td1_broken l.first.td) = cc in
    (four e1 e2 e3 e4, omega arith)
