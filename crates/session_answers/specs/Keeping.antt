-- What an answer leaves in the state, before the session goes on.
-- Assumes nothing.
use Rattle.std.specs.Prelude.{List, ℕ, eqb}
use Rattle.slices.specs.Choice.{pick}
use Rattle.slices.specs.Tests.{is_some}
use Rattle.answer_common.specs.Content.{names_for}
use Rattle.answer_gpo.specs.Options.{options_reason}
use Rattle.answer_record.specs.Records.{record_reason}
use Rattle.decide_tvr.specs.Results.{tsi_after_first_answer}
use Rattle.rulebook.specs.Phase.{Asked, selecting, optioning, reading, first, second}
use Rattle.session_records.specs.Slots.{with_record}
use Rattle.session_state.specs.Keeping.{with_told, with_options, changed}
use Rattle.session_state.specs.declared.State.{State}

-- what a good answer tells is kept before the session goes on
unfoldable pub keeping : Asked → List ℕ → State → State
keeping (selecting z) a s = s
keeping (optioning z list) a s = pick (eqb (options_reason a) 0) (with_options a s) s
keeping (reading z number file rest) a s =
    pick (eqb (record_reason (names_for z.terminal) (λ name. is_some (z.facts name)) a) 0)
    (with_told (with_record (names_for z.terminal) a s.told) s) s
keeping (first z request) a s = s
keeping (second z request code) a s = s

-- an allowed first answer sets a bit of the TSI
unfoldable pub answered_state : State → State
answered_state s = changed s.waiting s.tvr (tsi_after_first_answer s.tsi) s.cursor s
