-- `tape_read::no_kind` meets its contract: below the first kind, or above the last. Assumes nothing.
use borrow.Author.Rules.{rules}
use borrow.Author.Tests.{tests}
use Rattle.numbers.specs.Tables.{is_kind}
use Rattle.tape_read.proofs.no_kind.Goals as goal

pub returns-then-k-lt-START : goal.returns-then-k-lt-START
unfolding is_kind
returns-then-k-lt-START c = search (rules, tests)

pub returns-else-k-lt-START : goal.returns-else-k-lt-START
unfolding is_kind
returns-else-k-lt-START c = search (rules, tests)
