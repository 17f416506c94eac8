-- Where nothing is to be sent and nothing has ended, the exchange is not over and says what it waits for. Assumes nothing.
use mathlib.Core.Path.{◌≡◌, refl, sym, ap, ◌∙◌}
use mathlib.Core.Bool.{true, false, false≢true}
use Prim.Native.Nat.{ℕ}
use lib.Dec.{leb}
use Rattle.slices.proofs.Choice.{picked}
use Rattle.apdu.specs.Answers.{trailer_of}
use Rattle.apdu.specs.declared.Trailer.{Trailer}
use Rattle.t0_state.specs.declared.Phase.{Phase}
use Rattle.t0_state.specs.declared.Phase.TheVariants.{Over}
use Rattle.t0_state.specs.declared.State.{State}
use Rattle.t0_state.specs.declared.Turn.{Turn}
use Rattle.t0_begin.specs.declared.Reply.TheVariants.{Go}
use Rattle.t0_turns.specs.Turns.{on_length, ending_in, phase_after, on_data, after_byte}
use Rattle.t0_begin.specs.Begin.{wait_for}
use Rattle.t0.specs.Steps.{reply_to}
use Rattle.t0_pieces.specs.Pieces.{is_over, is_quiet}
use Rattle.t0_laws.specs.Outcomes.{settled}
use Rattle.t0_laws.proofs.Cases.{every_turn}
use Rattle.std.specs.Prelude.{Option, None, Some, Ok}

-- of a turn whose reply is quiet
abbrev Open : Turn → Type 0
Open t =
    (n r : ℕ) → is_quiet (reply_to t.act n r t.state.phase) ≡ true
    → (is_over t.state.phase ≡ false) × (settled (reply_to t.act n r t.state.phase) ≡ Ok (Go 0 (wait_for t.state.phase)))

never : (x : Option Trailer) (last : Trailer) (n r : ℕ) (p : Phase)
    → is_quiet (reply_to (Ok (ending_in x last)) n r p) ≡ false
unfolding ending_in reply_to is_quiet
never None last n r p = refl
never (Some kept) last n r p = refl

after_open : (n : ℕ) → is_over (phase_after n) ≡ false
unfolding phase_after is_over
after_open n = picked (λ (p : Phase). is_over p ≡ false) (leb n 1) _ _ (λ e. refl) (λ e. refl)

pub quiet_open : (s : State) (b : ℕ) → Open (after_byte s b)
unfolding reply_to is_quiet is_over settled on_length on_data
quiet_open s b =
    every_turn s b Open (λ why n r e. absurd (false≢true e)) (λ h n r e. absurd (false≢true e)) (λ h n r e. absurd (false≢true e))
    (λ n h i j k m r e. (refl, refl))
    (λ n h i j k m r e. (ap is_over h, refl))
    (λ h i n r e. (ap is_over h, refl))
    (λ h i j n r e. (refl, refl))
    (λ h i j n r e. (refl, refl))
    (λ h n r e. (refl, refl))
    (λ h n r e. (refl, refl))
    (λ h n r e. (refl, refl))
    (λ a h i n r e. (refl, refl))
    (λ a h n r e. absurd (false≢true (sym (never s.trailer (trailer_of a b) n r Over) ∙ e)))
    (λ n h m r e. (after_open n, refl))
