-- Every phase can be finished: there is something to say for whoever is to speak, any answer will do for the card, and each brings the
-- end nearer. So an unfinished beginning is never empty talk.
-- Assumes nothing.
use mathlib.Core.Path.{◌≡◌, refl}
use mathlib.Core.Bool.{true}
use mathlib.Core.List.{[], ◌∷◌}
use Prim.Native.Nat.{ℕ, zero, suc, ◌≤◌}
use native.Mathlib.Omega.{arith}
use Rattle.numbers.specs.Tables.{command, answer, decision}
use Rattle.tape_read.specs.Entries.{entry}
use Rattle.sessions.specs.Rules.{Phase, asks, hears, decides, Rules}
use Rattle.sessions.specs.Session.{is_payload, exchanged, heard, decided}
use Rattle.sessions.specs.Kept.{Kept}
use Rattle.sessions.specs.Stated.{Finished}
use Rattle.sessions.proofs.Bound.{some_come}

no_bytes : is_payload [] ≡ true
unfolding is_payload
no_bytes = refl

module _ {A H S : Type 0} {rules : Rules A H S} (kept : Kept rules) where
  open rules use {command_of, turn, due_kind, after, decision_of}
  open kept use {can_say, to_come, turn_fewer, after_fewer}

  finish : (n : ℕ) (p : Phase A H S) → to_come p ≤ n → Finished rules p
  finish zero p few = absurd (let h = some_come kept p in omega arith)
  finish (suc n) (asks w) few =
      let rest = finish n (turn w []) (let h = turn_fewer w [] in omega arith) in
      (entry command (command_of w) ∷ entry answer [] ∷ rest.0, exchanged refl no_bytes rest.1)
  finish (suc n) (hears h) few =
      let said = can_say h in
      let rest = finish n (after h said.0) (let f = after_fewer h said.0 said.1.0 in omega arith) in
      (entry (due_kind h) said.0 ∷ rest.0, heard refl said.1.0 said.1.1 rest.1)
  finish (suc n) (decides outcome reason s) few = (entry decision (decision_of outcome reason s) ∷ [], decided refl)

  -- from each phase some rest leads to a decision
  pub finishes : (p : Phase A H S) → Finished rules p
  finishes p = finish (to_come p) p (omega arith)
