-- What rules must keep so that every law of sessions holds of them: what is heard is told from all else by its kind, there is always
-- something to say, and each turn takes its entries off what can still come. Nothing else of the rules is asked by any law here.
-- Assumes nothing.
use Rattle.std.specs.Prelude.{◌≡◌, true, false, List, ℕ, ◌+◌, ◌≤◌, eqb}
use Rattle.numbers.specs.Tables.{command, answer, silence, decision}
use Rattle.sessions.specs.Rules.{Phase, asks, hears, decides, Rules}
use Rattle.sessions.specs.Session.{is_payload}

-- the kind of an entry that is neither the card's nor the kernel's
pub record OtherKind (k : ℕ) : Type 0 where
  pub no_command : eqb k command ≡ false
  pub no_answer : eqb answer k ≡ false
  pub no_silence : eqb silence k ≡ false
  pub no_decision : eqb k decision ≡ false

pub record Kept {Asked Heard Situation : Type 0} (rules : Rules Asked Heard Situation) : Type 0 where
  pub other_kinds : (h : Heard) → OtherKind (rules.due_kind h)
  pub can_say : (h : Heard) → (p : List ℕ) × ((rules.allowed h p ≡ true) × (is_payload p ≡ true))
  -- the most entries that can still come
  pub to_come : Phase Asked Heard Situation → ℕ
  pub turn_fewer : (w : Asked) (a : List ℕ) → 2 + to_come (rules.turn w a) ≤ to_come (asks w)
  pub after_fewer : (h : Heard) (p : List ℕ) → rules.allowed h p ≡ true → 1 + to_come (rules.after h p) ≤ to_come (hears h)
  pub decision_left : (outcome reason : ℕ) (s : Situation) → 1 ≤ to_come (decides outcome reason s)
