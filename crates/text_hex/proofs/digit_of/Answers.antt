-- `text_hex::digit_of` meets its contract: each arm lies in one range of the definition, or between two.
-- Assumes nothing.
use mathlib.Core.Path.{sym}
use native.Mathlib.Omega.{arith}
use Rattle.text_hex.proofs.Values.{decimal, upper_case, lower_case, no_digit}
use Rattle.text_hex.proofs.digit_of.Goals as goal

pub returns-in-48-to-57 : goal.returns-in-48-to-57
returns-in-48-to-57 c = (sym (decimal _ (omega arith) (omega arith)), omega arith)

pub returns-in-65-to-70 : goal.returns-in-65-to-70
returns-in-65-to-70 c = (sym (upper_case _ (omega arith) (omega arith)), omega arith)

pub returns-in-97-to-102 : goal.returns-in-97-to-102
returns-in-97-to-102 c = (sym (lower_case _ (omega arith) (omega arith)), omega arith)

pub returns-in_default : goal.returns-in_default
returns-in_default c = (sym (no_digit _ (λ h k. omega arith) (λ h k. omega arith) (λ h k. omega arith)), omega arith)

pub returns-in_default-2 : goal.returns-in_default-2
returns-in_default-2 c = (sym (no_digit _ (λ h k. omega arith) (λ h k. omega arith) (λ h k. omega arith)), omega arith)

pub returns-in_default-3 : goal.returns-in_default-3
returns-in_default-3 c = (sym (no_digit _ (λ h k. omega arith) (λ h k. omega arith) (λ h k. omega arith)), omega arith)

pub returns-in_default-4 : goal.returns-in_default-4
returns-in_default-4 c = (sym (no_digit _ (λ h k. omega arith) (λ h k. omega arith) (λ h k. omega arith)), omega arith)
