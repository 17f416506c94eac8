-- `result::decision` meets its contract: outcome, reason, and the bytes of TVR and TSI.
-- Assumes nothing.
use mathlib.Core.Path.{ap, ◌∙◌}
use mathlib.Core.List.{List, [], ◌∷◌}
use Prim.Native.Nat.{ℕ}
use lib.ListN.{get_or}
use Rattle.session_phase.specs.Waiting.{outcome_of, reason_of}
use Rattle.session_state.specs.Results.{decision_in}
use Rattle.session_state.proofs.Nine.{nine_bytes}
use Rattle.session_state.proofs.result.decision.Goals as goal

pub returns : goal.returns
unfolding decision_in
returns c =
    let t = c.tvr-bits in
    let u = c.tsi-status in
    let s = c.args.s in
    (λ i.
    c.outcome.ensures i
    ∷ c.reason.ensures i
    ∷ get_or (t.ensures.0 i) 0 0
    ∷ get_or (t.ensures.0 i) 1 0
    ∷ get_or (t.ensures.0 i) 2 0
    ∷ get_or (t.ensures.0 i) 3 0
    ∷ get_or (t.ensures.0 i) 4 0
    ∷ get_or (u.ensures.0 i) 0 0
    ∷ get_or (u.ensures.0 i) 1 0
    ∷ [])
    ∙ ap (λ (l : List ℕ). outcome_of s.waiting ∷ reason_of s.waiting ∷ l) (nine_bytes s.tvr s.tsi t.ensures.1 u.ensures.1)
