-- What T=1 shares with T=0: the longest answer, and what a session is handed of one. Assumes nothing.
use mathlib.Core.Path.{◌≡◌, refl, ap}
use mathlib.Core.List.{List}
use Prim.Native.Nat.{ℕ, ◌+◌}
use Rattle.apdu.specs.Answers.{handed}
use Rattle.t0_turns.specs.Turns.{data_most}
use Rattle.t1_state.specs.Limits.{message_most}
use Rattle.t1_state.specs.declared.State.{State}
use Rattle.t1_laws.specs.Joined.{Pair}
use Rattle.t1_laws.proofs.Delivery.{Delivered}

-- a message has room for the longest answer that T=0 can bring: its data and two status bytes
pub longest_answer : message_most ≡ data_most + 2
longest_answer = refl

-- a session is handed of an answer that came by blocks what it is handed of the answer
pub handed_same : (m : List ℕ) (s r : State) (p : Pair) → Delivered m s r p → handed p.kept ≡ handed m
handed_same m s r p d = ap handed d.same
