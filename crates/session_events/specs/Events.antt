-- An accepted event, by its payload: the rulebook's transition, read off the state, and the state that goes on from there. The kind of
-- the event is that of what the state waits for; whoever hands it in has seen to that.
-- Assumes nothing.
use Rattle.std.specs.Prelude.{List, ℕ}
use Rattle.rulebook.specs.Phase.{terminal, says}
use Rattle.rulebook.specs.Turn.{turn, after}
use Rattle.session_phase.specs.declared.Question.{Question}
use Rattle.session_phase.specs.declared.Speaker.{Speaker}
use Rattle.session_phase.specs.declared.Speaker.TheVariants.{Terminal, Says, Shopper}
use Rattle.session_phase.specs.declared.Waiting.{Waiting}
use Rattle.session_phase.specs.declared.Waiting.TheVariants.{Searching, ForCard, ForWord, Decided, Closed}
use Rattle.session_state.specs.Reading.{late, asked_by}
use Rattle.session_state.specs.Keeping.{begun}
use Rattle.session_state.specs.declared.State.{State}
use Rattle.session_moves.specs.Moves.{Moved, moved, unmoved, shut}
use Rattle.session_answers.specs.Keeping.{keeping}

-- an answer of the card's
unfoldable pub answer_step : Question → State → List ℕ → List ℕ → Moved
answer_step question s a buf = moved (turn (asked_by question s) a) (keeping (asked_by question s) a s) buf

-- somebody else's word: with START the state begins anew; the shopper has none in these rules
unfoldable pub word_step : Speaker → State → List ℕ → List ℕ → Moved
word_step Terminal s p buf = moved (after terminal p) (begun p) buf
word_step (Says word count) s p buf = moved (after (says word (late s)) p) s buf
word_step (Shopper shown) s p buf = shut s buf

-- by what the state waits for; nothing follows the end
unfoldable pub step_at : Waiting → State → List ℕ → List ℕ → Moved
step_at Searching s p buf = shut s buf
step_at (ForCard question) s p buf = answer_step question s p buf
step_at (ForWord speaker) s p buf = word_step speaker s p buf
step_at (Decided outcome reason) s p buf = unmoved s buf
step_at Closed s p buf = unmoved s buf

unfoldable pub step : State → List ℕ → List ℕ → Moved
step s p buf = step_at s.waiting s p buf
