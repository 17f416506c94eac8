-- One entry read by the judge, as its code does it. Nobody need believe it: that it finds the verdict is proved (proofs/Tracking).
-- Assumes nothing.
use Rattle.std.specs.Prelude.{Bool, List, ℕ, eqb, length, take}
use Rattle.slices.specs.Choice.{pick}
use Rattle.slices.specs.Tests.{alike}
use Rattle.slices.specs.Writing.{zeros}
use Rattle.numbers.specs.Tables.{command, answer, silence, decision}
use Rattle.dol_fill.specs.Filled.{summed}
use Rattle.commands.specs.Commands.{longest}
use Rattle.session_phase.specs.Waiting.{kind_of}
use Rattle.session_phase.specs.declared.Speaker.{Speaker}
use Rattle.session_phase.specs.declared.Waiting.{Waiting}
use Rattle.session_phase.specs.declared.Waiting.TheVariants.{Searching, ForCard, ForWord, Decided as DecidedKept, Closed as ClosedKept}
use Rattle.session_phase.specs.declared.Reply.{Reply}
use Rattle.session_phase.specs.declared.Reply.TheVariants.{Command as CommandReply, Due, Decided, Closed as ClosedReply, Refused}
use Rattle.session_state.specs.Results.{decision_in}
use Rattle.session_state.specs.Keeping.{fresh}
use Rattle.session_moves.specs.Moves.{Moved}
use Rattle.session_phase.specs.Saying.{allowed_by}
use Rattle.session_events.specs.Events.{step}
use Rattle.judge_stages.specs.declared.Stage.{Stage}
use Rattle.judge_stages.specs.declared.Stage.TheVariants.{Word, Command, Answer, Decision, Done, Closed, Broken}
use Rattle.judge_follow.specs.declared.Judgement.{Judgement}

unfoldable pub begun : Judgement
begun = record { stage = Word; state = fresh; command = zeros longest; zeros = 0 }

-- what is due after a step; one on a session that is over, which no tape leads to, leaves it closed
unfoldable pub stage_of : Reply → Stage
stage_of (CommandReply n) = Command n
stage_of (Due kind) = Word
stage_of Decided = Decision
stage_of ClosedReply = Closed
stage_of (Refused n) = Closed

unfoldable pub staged : Stage → Judgement → Judgement
staged stage j = record { stage = stage; state = j.state; command = j.command; zeros = j.zeros }

-- a step of the session, beside the entries filled with zeros before it
unfoldable pub moving : ℕ → Moved → Judgement
moving before m = record { stage = stage_of m.reply; state = m.state; command = m.buffer; zeros = summed before m.zeros }

unfoldable pub advanced : Judgement → List ℕ → Judgement
advanced j p = moving j.zeros (step j.state p j.command)

-- the entry at an index, by what is due
unfoldable pub at_command : ℕ → Judgement → ℕ → ℕ → List ℕ → Judgement
at_command n j index kind p =
    pick (eqb kind command) (pick (alike p (take n j.command)) (staged Answer j) (staged (Broken index) j)) (staged (Broken index) j)

unfoldable pub at_silence : Judgement → ℕ → ℕ → List ℕ → Judgement
at_silence j index kind p =
    pick (eqb kind silence) (pick (eqb (length p) 0) (staged Closed j) (staged (Broken index) j)) (staged (Broken index) j)

unfoldable pub at_answer : Judgement → ℕ → ℕ → List ℕ → Judgement
at_answer j index kind p = pick (eqb kind answer) (advanced j p) (at_silence j index kind p)

unfoldable pub at_decision : Judgement → ℕ → ℕ → List ℕ → Judgement
at_decision j index kind p =
    pick (eqb kind decision) (pick (alike p (decision_in j.state)) (staged Done j) (staged (Broken index) j)) (staged (Broken index) j)

unfoldable pub spoken : Speaker → Judgement → ℕ → ℕ → List ℕ → Judgement
spoken speaker j index kind p =
    pick (eqb kind (kind_of speaker)) (pick (allowed_by speaker p) (advanced j p) (staged (Broken index) j)) (staged (Broken index) j)

unfoldable pub word_at : Waiting → Judgement → ℕ → ℕ → List ℕ → Judgement
word_at (ForWord speaker) j index kind p = spoken speaker j index kind p
word_at Searching j index kind p = staged (Broken index) j
word_at (ForCard question) j index kind p = staged (Broken index) j
word_at (DecidedKept outcome reason) j index kind p = staged (Broken index) j
word_at ClosedKept j index kind p = staged (Broken index) j

unfoldable pub fed_at : Stage → Judgement → ℕ → ℕ → List ℕ → Judgement
fed_at Word j index kind p = word_at j.state.waiting j index kind p
fed_at (Command n) j index kind p = at_command n j index kind p
fed_at Answer j index kind p = at_answer j index kind p
fed_at Decision j index kind p = at_decision j index kind p
fed_at Done j index kind p = staged (Broken index) j
fed_at Closed j index kind p = staged (Broken index) j
fed_at (Broken place) j index kind p = j

abbrev pub fed : Judgement → ℕ → ℕ → List ℕ → Judgement
fed j index kind p = fed_at j.stage j index kind p

-- what a block holds that is not good is no entry
unfoldable pub led : Bool → Judgement → ℕ → ℕ → List ℕ → Judgement
led good j index kind p = pick good (fed j index kind p) j
