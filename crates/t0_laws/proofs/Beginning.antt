-- An exchange that began with a command is sound, and so it ends within 9,252 bytes of the card's and its answer has at most 4,352
-- bytes of data. Assumes nothing.
use mathlib.Core.Path.{◌≡◌, refl, sym, ap, ◌∙◌}
use mathlib.Core.Bool.{true, false, false≢true}
use mathlib.Core.List.{List, [], ◌∷◌}
use Prim.Native.Nat.{ℕ, zero, suc, ◌≤◌, ◌<◌}
use native.Mathlib.Omega.{arith}
use lib.ListN.{length, get_or}
use Rattle.slices.specs.Choice.{pick}
use Rattle.slices.proofs.Choice.{picked}
use Rattle.apdu.specs.Commands.{length_byte, case_of, asked}
use Rattle.apdu.specs.Answers.{is_status}
use Rattle.apdu.specs.declared.Case.{Case}
use Rattle.apdu.specs.declared.Case.TheVariants.{One, Two, Three, Four}
use Rattle.t0_state.specs.declared.Sent.{Sent}
use Rattle.t0_state.specs.declared.Sent.TheVariants.{Own}
use Rattle.t0_state.specs.declared.Command.{Command}
use Rattle.t0_state.specs.declared.Phase.{Phase}
use Rattle.t0_state.specs.declared.Phase.TheVariants.{Procedure, Over}
use Rattle.t0_state.specs.declared.State.{State}
use Rattle.t0_begin.specs.Begin.{command_of, state_at, nowhere, Begun, begun, begun_as, begun_in, begun_by}
use Rattle.t0_turns.specs.Turns.{data_most}
use Rattle.t0_pieces.specs.Pieces.{is_over}
use Rattle.t0_laws.specs.Outcomes.{turned, Bytes}
use Rattle.t0_laws.specs.Bounds.{bytes_most, waits_left, gets_left, repeat_cost, size_most, header_cost}
use Rattle.t0_laws.specs.Bounds.{phase_cost, bytes_left, header_data, phase_data, data_left, is6_c, Sound}
use Rattle.t0_laws.proofs.Headers.{moved_none, asked_most}
use Rattle.t0_laws.proofs.Ends.{sound_on, ends_within}
use Rattle.std.specs.Prelude.{Option, None, Some}

pub byte_at : (l : List ℕ) (i : ℕ) → Bytes l → get_or l i 0 < 256
byte_at [] i h = omega arith
byte_at (b ∷ l) zero h = h.0
byte_at (b ∷ l) (suc i) h = byte_at l i h.1

-- sound, and not too long
abbrev pub Started : State → Type 0
Started s = Sound s × (bytes_left s ≤ bytes_most)

-- at the beginning, and where there is no exchange
module _ (k : Command) (sent : Sent) (size : ℕ) (fits : size ≤ size_most sent) (few : header_data sent 0 ≤ 256)
    (cheap : header_cost sent 0 ≤ 769) where
  at_first : (p : Phase) → is6_c p ≡ false → phase_data p ≡ 0 → phase_cost p ≤ 2 → Started (state_at k sent size p)
  unfolding data_left gets_left bytes_left waits_left repeat_cost pick
  at_first p not6_c none low =
      let d = ap (header_data sent) (moved_none sent size) in
      let h = ap (header_cost sent) (moved_none sent size) in
      (record { size = fits; left = omega arith; again = λ e. absurd (false≢true (sym not6_c ∙ e)); room = omega arith }, omega arith)

module _ (c : List ℕ) where
  nowhere_started : Started nowhere
  unfolding nowhere is6_c phase_data phase_cost size_most header_data header_cost
  nowhere_started = at_first _ (Own One) 0 (omega arith) (omega arith) (omega arith) Over refl refl (omega arith)

  begun_started : (sent : Sent) (size : ℕ) → size ≤ size_most sent → header_data sent 0 ≤ 256 → header_cost sent 0 ≤ 769
      → Started (begun sent size c)
  unfolding begun is6_c phase_data phase_cost
  begun_started sent size h d k = at_first (command_of c) sent size h d k Procedure refl refl (omega arith)

  -- INS is refused, or the exchange begins
  pub as_begun : (out : List ℕ) (P : State → Type 0) (sent : Sent) (size : ℕ) → P nowhere → P (begun sent size c)
      → P (begun_as sent size c out).state
  unfolding begun_as
  as_begun out P sent size none p = picked (λ (y : Begun). P y.state) (is_status (get_or c 1 0)) _ _ (λ e. none) (λ e. p)

  module _ (bytes : Bytes c) where
    pub started_one : Started (begun (Own One) 0 c)
    unfolding size_most header_data header_cost
    started_one = begun_started (Own One) 0 (omega arith) (omega arith) (omega arith)

    pub started_two : Started (begun (Own Two) (asked (length_byte c)) c)
    unfolding size_most header_data header_cost
    started_two = begun_started (Own Two) (asked (length_byte c)) (asked_most _ (byte_at c 4 bytes)) (omega arith) (omega arith)

    pub started_three : Started (begun (Own Three) (length_byte c) c)
    unfolding size_most header_data header_cost
    started_three = begun_started (Own Three) (length_byte c) (omega (arith, byte_at c 4 bytes)) (omega arith) (omega arith)

    pub started_four : Started (begun (Own Four) (length_byte c) c)
    unfolding size_most header_data header_cost
    started_four = begun_started (Own Four) (length_byte c) (omega (arith, byte_at c 4 bytes)) (omega arith) (omega arith)

    module _ (out : List ℕ) where
      in_case : (x : Option Case) → Started (begun_in x c out).state
      unfolding begun_in
      in_case None = nowhere_started
      in_case (Some One) = as_begun out Started (Own One) 0 nowhere_started started_one
      in_case (Some Two) = as_begun out Started (Own Two) (asked (length_byte c)) nowhere_started started_two
      in_case (Some Three) = as_begun out Started (Own Three) (length_byte c) nowhere_started started_three
      in_case (Some Four) = as_begun out Started (Own Four) (length_byte c) nowhere_started started_four

      pub started : Started (begun_by c out).state
      unfolding begun_by
      started = in_case (case_of c)

      pub ends_in_time : (bs : List ℕ) → Bytes bs → bytes_most ≤ length bs → is_over (turned (begun_by c out).state bs).phase ≡ true
      ends_in_time bs k long = let most = started.1 in ends_within bs (begun_by c out).state k started.0 (omega arith)

      pub answer_fits : (bs : List ℕ) → Bytes bs → (turned (begun_by c out).state bs).received ≤ data_most
      answer_fits bs k = let r = (sound_on bs (begun_by c out).state k started.0).room in omega arith
