-- `book::holds` meets its contract: the block at the place settles it, or those behind it do. Assumes nothing.
use Rattle.std.proofs.Common.{◌≡◌, sym, ap, ◌∙◌, ℕ, ◌-◌, ◌/◌, length, arith}
use Prim.Native.Nat.{min}
use Rattle.tape_read.specs.Entries.{block_size}
use Rattle.book.specs.Entering.{entries_in, stored, entered}
use Rattle.book.proofs.Searching.{search_over, search_found, search_on}
use Rattle.book.proofs.holds.Goals as goal

pub loop-k-init : goal.loop-k-init
unfolding stored
loop-k-init c =
    let a = c.args in
    let all : c.min-n.result - 0 ≡ min a.used (length a.bytes.now / block_size) = omega arith in
    ap (λ (m : ℕ). entered a.tape (entries_in m a.bytes.now)) all

pub returns-then-tape_in-tape : goal.returns-then-tape_in-tape
returns-then-tape_in-tape c =
    let a = c.args in
    sym (search_found a.tape c.loop-k.k c.min-n.result a.bytes.now (omega arith) cc) ∙ c.loop-k.invariant

pub loop-k-preserved : goal.loop-k-preserved
loop-k-preserved c =
    let a = c.args in
    sym (search_on a.tape c.loop-k.k c.min-n.result a.bytes.now (omega arith) (λ e. c.if-tape_in-tape.false cc)) ∙ c.loop-k.invariant

pub returns : goal.returns
returns c =
    let a = c.args in
    sym (search_over a.tape c.loop-k.k c.min-n.result a.bytes.now (omega arith)) ∙ c.loop-k.invariant
