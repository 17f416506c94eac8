-- `text_hex::pair_of` meets its contract: a byte that is no digit has the value 16.
-- Assumes nothing.
use mathlib.Core.Path.{sym}
use native.Mathlib.Omega.{arith}
use Rattle.text_hex.proofs.Reading.{a_pair, no_pair}
use Rattle.text_hex.proofs.pair_of.Goals as goal

pub returns-then-high-eq16 : goal.returns-then-high-eq16
returns-then-high-eq16 c =
    let a = c.args in
    (sym (no_pair a.a a.b (λ h k. omega arith)), omega arith)

pub returns-then-low-eq16 : goal.returns-then-low-eq16
returns-then-low-eq16 c =
    let a = c.args in
    (sym (no_pair a.a a.b (λ h k. omega arith)), omega arith)

pub returns : goal.returns
returns c =
    let a = c.args in
    let both = a_pair a.a a.b (omega arith) (omega arith) in
    (omega arith, omega arith)
