-- What an end does with a block that comes where it awaits one: it sends a block and goes on waiting, keeps a field, has its message
-- whole, has its response, stops, or remains silent. Assumes nothing.
use mathlib.Core.Path.{◌≡◌, refl, sym, ap, ◌∙◌}
use mathlib.Core.Bool.{true, false, not, false≢true}
use mathlib.Core.List.{List}
use Prim.Native.Nat.{ℕ, ◌+◌, ◌<◌}
use native.Mathlib.Omega.{arith}
use Rattle.slices.proofs.Choice.{picked}
use Rattle.t1_block.specs.declared.What.{What}
use Rattle.t1_block.specs.declared.What.TheVariants.{Resynch, Ifs, Abort, Wtx}
use Rattle.t1_state.specs.Changes.{at_phase}
use Rattle.t1_state.specs.declared.Role.TheVariants.{Card}
use Rattle.t1_state.specs.declared.Phase.{Phase}
use Rattle.t1_state.specs.declared.Phase.TheVariants.{Start, Asking, Due, Sent, Receiving, Over}
use Rattle.t1_state.specs.declared.Last.TheVariants.{Ready}
use Rattle.t1_state.specs.declared.State.{State}
use Rattle.t1_state.specs.declared.End.{End}
use Rattle.t1_state.specs.declared.Act.TheVariants.{Send, Keep, Value, Whole, Nothing as Quiet, End as Ends}
use Rattle.t1_state.specs.declared.Turn.{Turn}
use Rattle.t1_again.specs.Again.{ready_for}
use Rattle.t1_line.specs.Line.{answers, sends_piece, sends_next, keeps}
use Rattle.t1_asking.specs.Asking.{settled}
use Rattle.t1_turns.specs.Turns.{on_block}
use Rattle.t1_laws.specs.Stopping.{awaits}
use Rattle.t1_laws.specs.Conduct.{listens, fits}
use Rattle.t1_laws.proofs.Stopping.{same_limit_lem}
use Rattle.t1_laws.proofs.Cases.{every_block}

-- of an end that listens
pub data Listened (s : State) (t : Turn) : Type 0 where
  says : t.act ≡ Send → t.state.phase ≡ s.phase → t.state.received ≡ s.received
      → t.state.numbers.expected ≡ s.numbers.expected → Listened s t
  replies : t.act ≡ Value → t.state.phase ≡ s.phase → t.state.received ≡ s.received
      → t.state.numbers.expected ≡ s.numbers.expected → Listened s t
  takes : t.act ≡ Keep → t.state.phase ≡ Receiving → t.state.numbers.expected ≡ not s.numbers.expected
      → t.state.counts.same ≡ 1 → (p : ℕ) → t.state.last ≡ Ready p → Listened s t
  whole : (n : ℕ) → t.act ≡ Whole n → t.state.phase ≡ Due → Listened s t
  stops : (e : End) → t.act ≡ Ends e → t.state.phase ≡ Over → Listened s t

-- of an end whose request is open: what does not move
pub record Unmoved (s x : State) : Type 0 where
  pub numbers : x.numbers ≡ s.numbers
  pub received : x.received ≡ s.received
  pub message : x.message ≡ s.message
  pub role : x.role ≡ s.role

pub data Asked (s : State) (t : Turn) : Type 0 where
  asks : t.act ≡ Send → t.state.phase ≡ Asking → Unmoved s t.state → s.counts.same < 3
      → t.state.counts.same ≡ s.counts.same + 1 → Asked s t
  settles : t.act ≡ Quiet → t.state.phase ≡ Due → Unmoved s t.state → Asked s t
  stops : (e : End) → t.act ≡ Ends e → t.state.phase ≡ Over → Unmoved s t.state → Asked s t
  remains : t.act ≡ Quiet → t.state ≡ s → s.role ≡ Card → Asked s t

module _ (s : State) (orderly : fits s.phase s.last ≡ true) (b : List ℕ) where
  -- nothing else can come of it
  pub listened : listens s.phase ≡ true → Listened s (on_block b s)
  unfolding ready_for answers sends_next sends_piece keeps
  listened =
      every_block s orderly (λ (t : Turn). listens s.phase ≡ true → Listened s t)
      (λ why e f. absurd (awaiting s.phase e f)) (λ e w f. stops e refl refl) (λ e f g h. absurd (false≢true (sym (ap listens e) ∙ h)))
      (λ code e f. says refl refl refl refl) (λ w i h f. says refl refl refl refl) (λ e f g. says refl refl refl refl)
      (λ w v e f. replies refl refl refl refl)
      (λ v e f g. replies refl refl refl refl) (λ e f g. says refl (sym e) refl refl)
      (λ more n e f g. picked (Listened s) more _ _ (λ h. takes refl refl refl refl _ refl) (λ h. whole (s.received + n) refl refl))
      (λ w v e f g. absurd (false≢true (sym (ap listens e) ∙ g))) b
    where
      awaiting : (p : Phase) → awaits p ≡ false → listens p ≡ true → ⊥
      awaiting Start e f = false≢true f
      awaiting Asking e f = false≢true f
      awaiting Due e f = false≢true f
      awaiting Sent e f = false≢true (sym e)
      awaiting Receiving e f = false≢true (sym e)
      awaiting Over e f = false≢true f

  pub asked : s.phase ≡ Asking → Asked s (on_block b s)
  asked =
      every_block s orderly (λ (t : Turn). s.phase ≡ Asking → Asked s t)
      (λ why e f. absurd (false≢true (sym e ∙ ap awaits f)))
      (λ e w f. stops e refl refl (record { numbers = refl; received = refl; message = refl; role = refl }))
      (λ e f g h. remains refl refl f)
      (λ code e f. absurd (false≢true (sym (ap listens f) ∙ e)))
      (λ w i h f. asks refl f (record { numbers = refl; received = refl; message = refl; role = refl })
      (let k = same_limit_lem s.role s.last in omega arith) refl)
      (λ e f g. absurd (not_sent (sym g ∙ e))) (λ w v e f. absurd (false≢true (sym (ap listens f) ∙ e)))
      (λ v e f g. absurd (false≢true (sym (ap listens g) ∙ e))) (λ e f g. absurd (not_sent (sym g ∙ e)))
      (λ more n e f g. absurd (false≢true (sym (ap listens g) ∙ e)))
      (λ w v e f g. settles refl refl (settled_moves w v)) b
    where
      not_sent : Asking ≡ Sent → ⊥
      not_sent e = let z : ◌≡◌ {A = ℕ} 0 1 = cc in omega arith

      settled_moves : (w : What) (v : ℕ) → Unmoved s (at_phase Due (settled w v s))
      settled_moves Resynch v = record { numbers = refl; received = refl; message = refl; role = refl }
      settled_moves Ifs v = record { numbers = refl; received = refl; message = refl; role = refl }
      settled_moves Abort v = record { numbers = refl; received = refl; message = refl; role = refl }
      settled_moves Wtx v = record { numbers = refl; received = refl; message = refl; role = refl }
