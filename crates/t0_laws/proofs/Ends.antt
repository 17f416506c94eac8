-- Every exchange ends: each byte takes at least one from what can still come. Assumes nothing.
use mathlib.Core.Path.{◌≡◌, refl, sym, ap, subst, ◌∙◌}
use mathlib.Core.Bool.{true, false, false≢true}
use mathlib.Core.List.{List, [], ◌∷◌}
use mathlib.Core.Logic.{⊎_elim}
use Prim.Native.Nat.{ℕ, ◌≤◌}
use native.Mathlib.Omega.{arith}
use lib.Dec.{ltb}
use lib.ListN.{length}
use Rattle.slices.proofs.Choice.{picked, either}
use Rattle.t0_state.specs.declared.Phase.{Phase}
use Rattle.t0_state.specs.declared.Phase.TheVariants.{Procedure, Length61, Length6C, Status, Data, Over}
use Rattle.t0_state.specs.declared.State.{State}
use Rattle.t0_state.specs.declared.Turn.{Turn}
use Rattle.t0_turns.specs.Turns.{data_most, closed_on, by_phase, after_byte}
use Rattle.t0_pieces.specs.Pieces.{is_over}
use Rattle.t0_laws.specs.Outcomes.{turned, Bytes}
use Rattle.t0_laws.specs.Bounds.{phase_cost, bytes_left, Sound}
use Rattle.t0_laws.proofs.Progress.{turn_good}

over : (p : Phase) → is_over p ≡ true → p ≡ Over
unfolding is_over
over Procedure e = absurd (false≢true e)
over Length61 e = absurd (false≢true e)
over Length6C e = absurd (false≢true e)
over (Status a) e = absurd (false≢true e)
over (Data n) e = absurd (false≢true e)
over Over e = refl

-- a byte after the end changes nothing
pub closed_turn : (s : State) (b : ℕ) → is_over s.phase ≡ true → after_byte s b ≡ closed_on s
unfolding after_byte by_phase
closed_turn s b e =
    picked (λ (t : Turn). t ≡ closed_on s) (ltb data_most s.received) _ _ (λ f. refl)
    (λ f. ap (λ (p : Phase). by_phase p s b) (over s.phase e))

pub stays_over : (bs : List ℕ) (s : State) → is_over s.phase ≡ true → turned s bs ≡ s
unfolding turned
stays_over [] s e = refl
stays_over (b ∷ bs) s e = ap (λ (t : Turn). turned t.state bs) (closed_turn s b e) ∙ stays_over bs s e

-- what is open can take a byte
open_cost : (p : Phase) → is_over p ≡ false → 1 ≤ phase_cost p
unfolding is_over phase_cost
open_cost Procedure e = omega arith
open_cost Length61 e = omega arith
open_cost Length6C e = omega arith
open_cost (Status a) e = omega arith
open_cost (Data n) e = omega arith
open_cost Over e = absurd (false≢true (sym e))

pub open_bytes : (s : State) → is_over s.phase ≡ false → 1 ≤ bytes_left s
unfolding bytes_left
open_bytes s e = let c = open_cost s.phase e in omega arith

pub sound_on : (bs : List ℕ) (s : State) → Bytes bs → Sound s → Sound (turned s bs)
unfolding turned
sound_on [] s bytes sound = sound
sound_on (b ∷ bs) s bytes sound =
    either (is_over s.phase)
    (λ e. sound_on bs (after_byte s b).state bytes.1 (subst (λ (t : Turn). Sound t.state) (sym (closed_turn s b e)) sound))
    (λ e. sound_on bs (after_byte s b).state bytes.1 (turn_good s b bytes.0 sound e).0)

pub ends_within : (bs : List ℕ) (s : State) → Bytes bs → Sound s → bytes_left s ≤ length bs → is_over (turned s bs).phase ≡ true
unfolding turned
ends_within [] s bytes sound few = either (is_over s.phase) (λ e. e) (λ e. absurd (let one = open_bytes s e in omega arith))
ends_within (b ∷ bs) s bytes sound few =
    either (is_over s.phase)
    (λ e. ap (λ (x : State). is_over x.phase) (stays_over (b ∷ bs) s e) ∙ e)
    (λ e. let good = turn_good s b bytes.0 sound e in
    ⊎_elim
    (λ f. ap (λ (x : State). is_over x.phase) (stays_over bs (after_byte s b).state f) ∙ f)
    (λ f. ends_within bs (after_byte s b).state bytes.1 good.0 (omega arith))
    good.1)
