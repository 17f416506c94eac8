-- What a state that stands at a phase knows: the situation of what was asked is the state's own reading, and what the state does not
-- keep has no part in the turn.
-- Assumes nothing.
use mathlib.Core.Path.{◌≡◌, refl, sym, ap, ◌∙◌}
use mathlib.Core.List.{List, [], ◌∷◌, ◌++◌}
use Prim.Native.Nat.{ℕ}
use Rattle.start_fields.specs.Reading.{reading_of}
use Rattle.rulebook.specs.Situation.{Situation}
use Rattle.rulebook.specs.Phase.{Asked, selecting, optioning, reading, first, second}
use Rattle.rulebook.specs.Phase.{asks, decides, situation_of, decision_of, tvr_of, tsi_of}
use Rattle.rulebook.specs.Turn.{turn}
use Rattle.session_phase.specs.declared.Question.{Question}
use Rattle.session_phase.specs.declared.Question.TheVariants.{Select, Options, Record, First, Second}
use Rattle.session_state.specs.Reading.{start_in, situation_with, early, late, asked_by}
use Rattle.session_state.specs.declared.State.{State}
use Rattle.session_moves.specs.Moves.{question_of}
use Rattle.session_answers.specs.Keeping.{keeping}
use Rattle.session_laws.specs.Agreeing.{forgets, Knows, StandsAt}

-- what is forgotten has no part in the turn, nor in what is kept of the answer, nor in the situation
pub turn_forgets : (w : Asked) (a : List ℕ) → turn w a ≡ turn (forgets w) a
unfolding turn forgets
turn_forgets (selecting z) a = refl
turn_forgets (optioning z list) a = refl
turn_forgets (reading z number file rest) a = refl
turn_forgets (first z request) a = refl
turn_forgets (second z request code) a = refl

pub keeping_forgets : (w : Asked) (a : List ℕ) (s : State) → keeping w a s ≡ keeping (forgets w) a s
unfolding keeping forgets
keeping_forgets (selecting z) a s = refl
keeping_forgets (optioning z list) a s = refl
keeping_forgets (reading z number file rest) a s = refl
keeping_forgets (first z request) a s = refl
keeping_forgets (second z request code) a s = refl

pub situation_forgets : (w : Asked) → situation_of w ≡ situation_of (forgets w)
unfolding situation_of forgets
situation_forgets (selecting z) = refl
situation_forgets (optioning z list) = refl
situation_forgets (reading z number file rest) = refl
situation_forgets (first z request) = refl
situation_forgets (second z request code) = refl

-- the situation of what was asked is read off the state
asked_read : (question : Question) (s : State) → (profile : List ℕ) × (situation_of (asked_by question s) ≡ situation_with profile s)
unfolding asked_by situation_of early late
asked_read Select s = ([], refl)
asked_read Options s = ([], refl)
asked_read Record s = (s.profile, refl)
asked_read (First request) s = (s.profile, refl)
asked_read (Second request) s = (s.profile, refl)

pub asked_tvr : (question : Question) (s : State) → s.tvr ≡ (situation_of (asked_by question s)).tvr
unfolding situation_with
asked_tvr question s = sym (ap (λ (z : Situation). z.tvr) (asked_read question s).1)

pub asked_tsi : (question : Question) (s : State) → s.tsi ≡ (situation_of (asked_by question s)).tsi
unfolding situation_with
asked_tsi question s = sym (ap (λ (z : Situation). z.tsi) (asked_read question s).1)

-- START is the one that the state keeps
pub asked_terminal : (s : State) (w : Asked) → StandsAt s (asks w) → (situation_of w).terminal ≡ reading_of (start_in s)
unfolding Knows situation_with
asked_terminal s w h =
    ap (λ (z : Situation). z.terminal)
    (situation_forgets w ∙ (ap situation_of (sym h.knows) ∙ (asked_read (question_of w) s).1))

-- the decision is written from the state
pub stands_decision : (s : State) (outcome reason : ℕ) (z : Situation) → StandsAt s (decides outcome reason z)
    → decision_of outcome reason z ≡ outcome ∷ reason ∷ (s.tvr ++ s.tsi)
unfolding decision_of tvr_of tsi_of
stands_decision s outcome reason z h = λ i. outcome ∷ reason ∷ (sym h.tvr i ++ sym h.tsi i)
