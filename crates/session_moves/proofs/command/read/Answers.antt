-- `command::read` meets its contract: the record and its file are those at the cursor.
-- Assumes nothing.
use mathlib.Core.Path.{ap, ap₂, ◌∙◌}
use native.Mathlib.Omega.{arith}
use mathlib.Core.List.{List}
use Prim.Native.Nat.{ℕ}
use lib.ListN.{length}
use Rattle.slices.specs.Writing.{laid}
use Rattle.answer_afl.specs.Cursor.{record_at}
use Rattle.commands.specs.Commands.{record_command, size_in}
use Rattle.session_moves.proofs.Moving.{run_part, run_count}
use Rattle.session_moves.proofs.command.read.Goals as goal

pub slice_bounds-record-end : goal.slice_bounds-record-end
slice_bounds-record-end c =
    run_count c.args.s.locator c.size_of-n.result
    c.bytes_of-bytes.result c.bytes_of-bytes.ensures.0 c.size_of-n.ensures.0
    c.size_of-n.ensures.1 c.size_of-n.ensures.2

pub slice_bounds-file-end : goal.slice_bounds-file-end
slice_bounds-file-end c =
    run_count c.args.s.locator
    c.size_of-n.result c.bytes_of-bytes.result
    c.bytes_of-bytes.ensures.0 c.size_of-n.ensures.0
    c.size_of-n.ensures.1 c.size_of-n.ensures.2

pub overflow_cast-number : goal.overflow_cast-number
overflow_cast-number c = omega (arith, c.record-number.ensures.1)

pub overflow_cast-file : goal.overflow_cast-file
overflow_cast-file c = omega (arith, c.file-file.ensures.1)

pub returns : goal.returns
returns c =
    let args = c.args in
    let s = args.s in
    let buf = args.buf.now in
    let run = run_part s.locator c.size_of-n.result
    c.bytes_of-bytes.result
    c.bytes_of-bytes.ensures.0
    c.size_of-n.ensures.0 in
    let number = c.record-number.ensures.0 ∙ ap (λ (v : List ℕ). (record_at v s.cursor).0)
    run in
    let file = c.file-file.ensures.0 ∙ ap (λ (v : List ℕ). (record_at v s.cursor).1) run in
    let same = ap₂ record_command number file in record {
      size = c.«record».ensures.size
          ∙ ap (size_in (length buf)) same;
      buffer = c.«record».ensures.buffer
          ∙ ap (λ (x : List ℕ). laid x 0 buf) same;
    }
