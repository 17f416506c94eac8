-- `tape_read::four_bytes` meets its contract: the digits of the number, highest first. Assumes nothing.
use borrow.Author.Rules.{rules}
use Rattle.tape_read.specs.Numbers.{bytes_of}
use Rattle.tape_read.proofs.four_bytes.Goals as goal

pub returns : goal.returns
unfolding bytes_of
returns c = search rules
