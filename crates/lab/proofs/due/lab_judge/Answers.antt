-- `due::lab_judge` meets its contract: the numbers of what `judge` finds.
-- Assumes nothing.
use Rattle.lab.proofs.due.lab_judge.Goals as goal

pub returns : goal.returns
returns c =
    let judged = c.judge in
    record {
      finding = judged.result;
      verdict = judged.ensures.verdict;
      zeros = judged.ensures.zeros;
      laid = c.laid.ensures;
    }
