-- `book_open::reopen` meets its contract: the blocks are read one at a time, up to the first bad one. Assumes nothing.
use Rattle.std.proofs.Common.{sym, ap, ap₂, ◌∙◌, Ok, arith, rules}
use Rattle.book_block.specs.Blocks.{entry_in}
use Rattle.book_block.specs.declared.Entry.{Entry}
use Rattle.book.specs.Counting.{count_of, end_of, counted}
use Rattle.book.specs.Entering.{entries_in}
use Rattle.book_open.specs.Reopening.{opening_of}
use Rattle.book_open.proofs.Blockwise.{from_start, at_end_lem, at_fault, one_on, one_counted, too_long, torn, blockwise}
use Rattle.book_open.proofs.reopen.Goals as goal

pub returns-then-bytes-gt-MOST : goal.returns-then-bytes-gt-MOST
unfolding opening_of
returns-then-bytes-gt-MOST c = sym (ap opening_of (too_long _ c.if-bytes-gt-MOST.true))

pub returns-then-bytes-ne0 : goal.returns-then-bytes-ne0
unfolding opening_of
returns-then-bytes-ne0 c = sym (ap opening_of (torn _ c.if-bytes-gt-MOST.false c.if-bytes-ne0.true))

pub loop-k-init : goal.loop-k-init
unfolding end_of count_of entries_in
loop-k-init c =
    let t = c.args.bytes.now in
    record { rest = from_start t ∙ sym (blockwise t c.if-bytes-gt-MOST.false c.if-bytes-ne0.false); counted = c.new-book.ensures }

pub returns-in-Some : goal.returns-in-Some
unfolding opening_of
returns-in-Some c =
    let found = at_fault c.args.bytes.now c.loop-k.k (omega arith) _ (sym c.in-Some.ensures) in
    sym (ap opening_of (sym c.loop-k.invariant.rest ∙ found))

pub loop-k-preserved : goal.loop-k-preserved
loop-k-preserved c =
    let t = c.args.bytes.now in
    let k = c.loop-k.k in
    let e = c.entry_in.ensures ∙ ap entry_in c.block_at.ensures in
    record {
      rest = sym (one_on t k (omega arith) (search rules)) ∙ c.loop-k.invariant.rest;
      counted =
          c.count-book.ensures
          ∙ (ap₂ counted (ap (λ (x : Entry). x.verdict) e) c.loop-k.invariant.counted ∙ one_counted t k (omega arith));
    }

pub returns : goal.returns
unfolding opening_of
returns c =
    let at_end = at_end_lem c.args.bytes.now c.loop-k.k (omega arith) in
    ap Ok c.loop-k.invariant.counted ∙ sym (ap opening_of (sym c.loop-k.invariant.rest ∙ at_end))
