-- Our rules keep what rules must keep (Kept of sessions), each for the reason given where it is proved; so every law of sessions holds of
-- them, and every phase can be finished.
-- Assumes nothing.
use mathlib.Core.Path.{refl}
use mathlib.Core.List.{List, ◌∷◌}
use Rattle.numbers.specs.Tables.{start}
use Rattle.tape_read.specs.Entries.{Entry, entry}
use Rattle.sessions.specs.Session as Under
use Rattle.sessions.specs.Kept.{Kept}
use Rattle.sessions.proofs.Ends.{finishes}
use Rattle.rulebook.specs.Phase.{terminal, due_kind}
use Rattle.rulebook.specs.Turn.{allowed, after}
use Rattle.rulebook.specs.Session.{rules, Session, heard}
use Rattle.rulebook.proofs.Said.{other_kinds, sample, sample_valid, sample_payload, can_say}
use Rattle.rulebook.proofs.Coming.{to_come, turn_fewer, after_fewer, decision_left}

unfoldable pub kept : Kept rules
kept =
    record {
      other_kinds = other_kinds;
      can_say = can_say;
      to_come = to_come;
      turn_fewer = turn_fewer;
      after_fewer = λ h p fits. after_fewer h p;
      decision_left = decision_left;
    }

-- some session begins with the START of Said
pub sample_session : (rest : List Entry) × Session (entry start sample ∷ rest)
unfolding Under.Session allowed due_kind
sample_session =
    let rest = finishes kept (after terminal sample) in
    (rest.0, heard refl sample_valid sample_payload rest.1)
