-- The table's lines as tests, one after the other.
-- Assumes nothing.
use mathlib.Core.Path.{◌≡◌, refl}
use mathlib.Core.Bool.{not}
use mathlib.Core.List.{List}
use Prim.Native.Nat.{ℕ}
use lib.Dec.{eqb, ltb}
use lib.ListN.{length}
use Rattle.slices.specs.Choice.{pick, first_of}
use Rattle.numbers.specs.Tables.{refused_buffer, refused_over, refused_start, refused_event, refused_answer}
use Rattle.tape_read.specs.Entries.{Entry}
use Rattle.commands.specs.Commands.{longest}
use Rattle.session_phase.specs.Waiting.{awaited, is_over}
use Rattle.session_phase.specs.declared.Waiting.{Waiting}
use Rattle.kernel_refusals.specs.Refusals.{is_due, start_bad, answer_bad, word_lines, refusal_lines, call_refusal}

pub by_tests : (waiting : Waiting) (e : Entry) (buf : List ℕ)
    → call_refusal waiting e buf
    ≡ pick (ltb (length buf) longest) refused_buffer
    (pick (eqb (awaited waiting) 0) refused_over
    (pick (start_bad e) refused_start
    (pick (not (is_due waiting e)) refused_event
    (pick (answer_bad e) refused_answer (first_of (word_lines waiting e.payload))))))
unfolding call_refusal refusal_lines first_of is_over
by_tests waiting e buf = refl
