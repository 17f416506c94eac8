-- How what is due is told: the kind of its entry, the number of its bytes or of what is wanted, and its bytes in a lent buffer.
-- Assumes nothing.
use Rattle.std.specs.Prelude.{List, Option, None, Some, ℕ, leb, length}
use Rattle.slices.specs.Choice.{pick}
use Rattle.slices.specs.Writing.{put}
use Rattle.numbers.specs.Tables.{command, answer, decision}
use Rattle.rulebook.specs.Phase.{due_kind}
use Rattle.rulebook_due.specs.Due.{Due as Rule, asking, answering, saying, deciding, nothing, count_in}
use Rattle.judge_due.specs.declared.DueNext.{DueNext}

abbrev pub numbers : ℕ → ℕ → DueNext
numbers kind size = record { kind = kind; size = size }

-- the numbers, none where nothing is due; and the buffer afterwards
pub record Handed : Type 0 where
  pub due : Option DueNext
  pub buffer : List ℕ

abbrev pub handed : Option DueNext → List ℕ → Handed
handed due out = record { due = due; buffer = out }

-- the kind of no entry: the buffer is too short, and is left as it was
abbrev pub too_short : ℕ
too_short = 255

-- bytes at the start of the buffer, all of them or none
unfoldable pub with_bytes : ℕ → List ℕ → List ℕ → Handed
with_bytes kind bytes out =
    pick (leb (length bytes) (length out))
    (handed (Some (numbers kind (length bytes))) (put bytes 0 out))
    (handed (Some (numbers too_short (length bytes))) out)

-- what the rulebook has due, told
unfoldable pub told : Rule → List ℕ → Handed
told (asking c) out = with_bytes command c out
told answering out = handed (Some (numbers answer 0)) out
told (saying h) out = handed (Some (numbers (due_kind h) (count_in h))) out
told (deciding d) out = with_bytes decision d out
told nothing out = handed None out
