-- `text_lines::lines::word_end` meets its contract: a word ends at the first space or line feed.
-- Assumes nothing.
use Rattle.text_lines.proofs.lines.word_end.Goals as goal

pub returns : goal.returns
returns c = c.first_either.ensures
