-- What a card can influence in calls and verdicts, as Theorem of specs/ states it.
-- Assumes nothing.
use mathlib.Core.Logic.{inr}
use Rattle.card_influence.specs.Theorem.{Influence}
use Rattle.card_influence.proofs.Calls.{same_made, all_same}
use Rattle.card_influence.proofs.Tapes.{judged_alike, zeroed_alike}

pub theorem : Influence
theorem = record {
  call = λ s c d o. same_made s c d (inr o);
  calls = all_same;
  verdict = judged_alike;
  zeros = zeroed_alike;
}
