-- `tapes::lab_append` meets its contract: it is what `append` promises, without the writer afterwards.
-- Assumes nothing.
use Rattle.lab.proofs.Appending.{refusal_told}
use Rattle.lab.proofs.tapes.lab_append.Goals as goal

pub returns : goal.returns
returns c =
    let appended = c.append-appended.ensures in
    record { value = refusal_told _ _ _ appended.value; tape_after = appended.tape_after }
