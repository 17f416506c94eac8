-- An exchange's answer is what is kept of the card's bytes, from the first on. Assumes nothing.
use mathlib.Core.Path.{◌≡◌, refl, ap, ◌∙◌}
use mathlib.Core.List.{List, ◌++◌}
use Prim.Native.Nat.{ℕ, ◌≤◌}
use lib.ListN.{length, take, get_or}
use Rattle.slices.proofs.Choice.{picked}
use Rattle.apdu.specs.Commands.{length_byte, case_of, asked}
use Rattle.apdu.specs.Answers.{is_status}
use Rattle.apdu.specs.declared.Case.{Case}
use Rattle.apdu.specs.declared.Case.TheVariants.{One, Two, Three, Four}
use Rattle.t0_state.specs.declared.Sent.{Sent}
use Rattle.t0_state.specs.declared.Sent.TheVariants.{Own}
use Rattle.t0_begin.specs.Begin.{nowhere, Begun, begun, begun_as, begun_in, begun_by}
use Rattle.t0_laws.specs.Outcomes.{settled, opened, playing, Bytes}
use Rattle.t0_laws.specs.Moves.{kept, size_said, answered}
use Rattle.t0_laws.proofs.Beginning.{started}
use Rattle.t0_laws.proofs.Received.{answer_room, comes_in_order}
use Rattle.std.specs.Prelude.{Option, None, Some}

-- nothing has come yet
abbrev Empty : Begun → Type 0
Empty x = (x.state.received ≡ 0) × (size_said (settled x.reply) x.state.received ≡ x.state.received)

module _ (c out : List ℕ) where
  as_empty : (sent : Sent) (size : ℕ) → Empty (begun_as sent size c out)
  unfolding begun_as begun nowhere settled size_said
  as_empty sent size = picked Empty (is_status (get_or c 1 0)) _ _ (λ e. (refl, refl)) (λ e. (refl, refl))

  in_empty : (x : Option Case) → Empty (begun_in x c out)
  unfolding begun_in nowhere settled size_said
  in_empty None = (refl, refl)
  in_empty (Some One) = as_empty (Own One) 0
  in_empty (Some Two) = as_empty (Own Two) (asked (length_byte c))
  in_empty (Some Three) = as_empty (Own Three) (length_byte c)
  in_empty (Some Four) = as_empty (Own Four) (length_byte c)

  empty : Empty (begun_by c out)
  unfolding begun_by
  empty = in_empty (case_of c)

  pub whole_answer : (w bs : List ℕ) → Bytes c → Bytes bs → answer_room ≤ length w
      → answered (playing (opened c out w) bs) ≡ kept (begun_by c out).state bs
  unfolding opened answered
  whole_answer w bs bytes card room =
      comes_in_order bs (opened c out w) card (started c bytes out).0 room (λ e. empty.1)
      ∙ ap (λ (n : ℕ). take n w ++ kept (begun_by c out).state bs) (empty.1 ∙ empty.0)
