-- `next` meets its contract: each return is a case of the definition.
-- Assumes nothing.
use mathlib.Core.Path.{sym, ap, ◌∙◌}
use Prim.Native.Nat.{◌≤◌}
use native.Mathlib.Omega.{arith}
use Rattle.tape_read.specs.Entries.{blocks_most}
use Rattle.tape_feed.specs.Feeding.{unread, read}
use Rattle.tape_feed.proofs.Turns.{next_torn, next_full, next_ended, next_passed, next_looked}
use Rattle.tape_feed.proofs.next.Goals as goal

pub returns-then-reader : goal.returns-then-reader
returns-then-reader c =
    let a = c.args in
    c.unread.ensures ∙ sym (next_torn a.reader a.piece.now c.if-reader.true)

pub returns-then-reader-gt-BLOCKS : goal.returns-then-reader-gt-BLOCKS
returns-then-reader-gt-BLOCKS c =
    let a = c.args in
    c.unread-then-reader-gt-BLOCKS.ensures ∙ sym (next_full a.reader a.piece.now c.if-reader.false c.if-reader-gt-BLOCKS.true)

pub returns-then-piece-ne-BLOCK : goal.returns-then-piece-ne-BLOCK
returns-then-piece-ne-BLOCK c =
    let a = c.args in
    let few : a.reader.blocks ≤ blocks_most = omega (arith, c.if-reader-gt-BLOCKS.false) in
    c.unread-then-piece-ne-BLOCK.ensures
    ∙ (ap unread c.ended.ensures
    ∙ sym (next_ended a.reader a.piece.now c.if-reader.false few
    c.if-piece-ne-BLOCK.true))

pub returns-then-reader-ne0 : goal.returns-then-reader-ne0
returns-then-reader-ne0 c =
    let a = c.args in
    let few : a.reader.blocks ≤ blocks_most = omega (arith, c.if-reader-gt-BLOCKS.false) in
    let whole = c.if-piece-ne-BLOCK.false in
    c.unread-then-reader-ne0.ensures
    ∙ (ap unread c.passed.ensures
    ∙ sym (next_passed a.reader a.piece.now c.if-reader.false few whole
    c.if-reader-ne0.true))

pub returns : goal.returns
returns c =
    let a = c.args in
    let few : a.reader.blocks ≤ blocks_most = omega (arith, c.if-reader-gt-BLOCKS.false) in
    let whole = c.if-piece-ne-BLOCK.false in
    ap read c.look-after.ensures
    ∙ sym (next_looked a.reader a.piece.now c.if-reader.false few whole
    c.if-reader-ne0.false)
