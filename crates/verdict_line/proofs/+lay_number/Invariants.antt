-- `lay_number` calls itself with the tenth part. Assumes nothing.
use Rattle.verdict_line.proofs.+lay_number.Given as goal

abbrev pub decreases-lay_number : goal.decreases-lay_number
decreases-lay_number l = l.n
