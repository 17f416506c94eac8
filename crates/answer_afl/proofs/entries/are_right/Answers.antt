-- `answer_afl::entries::are_right` meets its contract: the chunks of four bytes are the entries.
-- Assumes nothing.
use mathlib.Core.Path.{sym, ◌∙◌}
use borrow.Author.Rules.{rules}
use borrow.Author.Tests.{tests}
use Rattle.std.proofs.lemmas.Iterator.Search.{all_from_yields_List}
use Rattle.answer_afl.specs.Entries.{entries, entry_right, entries_right}
use Rattle.answer_afl.proofs.Chunks.{chunks_give, every_all}
use Rattle.answer_afl.proofs.entries.are_right.Goals as goal

pub returns : goal.returns
unfolding entries_right
returns c =
    let v = c.args.locator.now in
    all_from_yields_List entry_right _ _ _ c.all.ensures.ran
    (chunks_give v _ c.chunks_exact.ensures.size c.chunks_exact.ensures.rest)
    (λ x b q k. search (rules, tests))
    ∙ sym (every_all (entries v))
