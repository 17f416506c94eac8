-- `due::lab_judge_quick` meets its contract: the numbers of what the quick judge finds.
-- Assumes nothing.
use Rattle.lab.proofs.due.lab_judge_quick.Goals as goal

pub returns : goal.returns
returns c =
    let judged = c.judge in
    record {
      finding = judged.result;
      verdict = judged.ensures.verdict;
      zeros = judged.ensures.zeros;
      laid = c.laid.ensures;
    }
