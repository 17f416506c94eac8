-- `resets::lab_atr` meets its contract: an arm is a clause of the two definitions.
-- Assumes nothing.
use Rattle.lab.proofs.Resetting.{accepted, refused}
use Rattle.lab.proofs.resets.lab_atr.Goals as goal

pub returns-in-Ok : goal.returns-in-Ok
returns-in-Ok c =
    let both = accepted c.read_reset-answer.result _ c.read_reset-answer.ensures c.number_of-inverse.result c.number_of-inverse.ensures _ _
    c.in-Ok.is c.told_numbers.ensures in
    record { value = both.0; told_after = both.1 }

pub returns-in-Err : goal.returns-in-Err
returns-in-Err c =
    let both = refused c.read_reset-answer.result _ c.read_reset-answer.ensures c.number_of-inverse.result c.number_of-inverse.ensures _ _
    c.in-Err.is c.broken_numbers.ensures in
    record { value = both.0; told_after = both.1 }
