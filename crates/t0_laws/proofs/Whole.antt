-- What a command's exchange sends of its data is a beginning of the data: when it begins, all of it is left to send. Assumes nothing.
use mathlib.Core.Path.{◌≡◌, refl, sym, ap, ◌∙◌}
use mathlib.Core.Bool.{true, false}
use mathlib.Core.List.{List, [], ◌∷◌, ◌++◌}
use Prim.Native.Nat.{ℕ, ◌+◌, ◌-◌, ◌≤◌}
use native.Mathlib.Omega.{arith}
use lib.Dec.{eqb, ltb}
use lib.ListN.{length, take, drop, length-drop, drop_of_length-le}
use lib.Seq.{take-nil, take-append_seam, length-take-le}
use borrow.Author.Tests.{eqb-true}
use Rattle.slices.specs.Writing.{laid, zeros}
use Rattle.slices.proofs.Choice.{pick_yes, pick_no, picked}
use Rattle.slices.proofs.Writing.{put_start, laid_fits, zeros_length}
use Rattle.apdu.specs.Commands.{length_byte, case_of, data_of, asked}
use Rattle.apdu.specs.declared.Case.{Case}
use Rattle.apdu.specs.declared.Case.TheVariants.{One, Two, Three, Four}
use Rattle.t0_state.specs.Bytes.{comes_in}
use Rattle.t0_state.specs.declared.Sent.{Sent}
use Rattle.t0_state.specs.declared.Sent.TheVariants.{Own}
use Rattle.t0_state.specs.declared.State.{State}
use Rattle.t0_state.specs.declared.Turn.{Turn}
use Rattle.t0_begin.specs.Begin.{data_room, command_of, nowhere, begun, begun_in, begun_by}
use Rattle.t0_pieces.specs.Pieces.{is_over}
use Rattle.t0_laws.specs.Outcomes.{Bytes}
use Rattle.t0_laws.specs.Moves.{data_sent_by, data_out, unsent}
use Rattle.t0_laws.proofs.Ends.{closed_turn}
use Rattle.t0_laws.proofs.Beginning.{byte_at, Started, as_begun, started_one, started_two, started_three, started_four}
use Rattle.t0_laws.proofs.Given.{gives}
use Rattle.std.specs.Prelude.{Option, None, Some}

-- the case of a command, with what led to it
module _ (c : List ℕ) (P : Option Case → Type 0) (none : P None) (one : length c ≡ 4 → P (Some One)) (two : length c ≡ 5 → P (Some Two))
    (three : length c ≡ 5 + length_byte c → P (Some Three)) (four : length c ≡ 6 + length_byte c → P (Some Four)) where
  every_case : P (case_of c)
  unfolding case_of
  every_case =
      picked P (ltb (length c) 4) _ _ (λ e. none)
      (λ e. picked P (eqb (length c) 4) _ _ (λ f. one (eqb-true _ _ f))
      (λ f. picked P (eqb (length c) 5) _ _ (λ g. two (eqb-true _ _ g))
      (λ g. picked P (eqb (length_byte c) 0) _ _ (λ h. none)
      (λ h. picked P (eqb (length c) (5 + length_byte c)) _ _ (λ i. three (eqb-true _ _ i))
      (λ i. picked P (eqb (length c) (6 + length_byte c)) _ _ (λ j. four (eqb-true _ _ j)) (λ j. none))))))

-- without data
no_data : (c : List ℕ) → length c ≤ 5 → data_of c ≡ []
unfolding data_of
no_data c h = ap (take (length_byte c)) (drop_of_length-le c h) ∙ take-nil (length_byte c)

data_length : (c : List ℕ) → 5 + length_byte c ≤ length c → length (data_of c) ≡ length_byte c
unfolding data_of
data_length c h = length-take-le (length_byte c) (drop 5 c) (omega (arith, length-drop 5 c))

-- all of it is left at first
all_left : (c : List ℕ) (sent : Sent) → comes_in sent ≡ false → Bytes c → 5 + length_byte c ≤ length c
    → unsent (begun sent (length_byte c) c) ≡ data_of c
unfolding unsent begun command_of
all_left c sent out bytes h =
    let n = length_byte c in
    let d = data_of c in
    let size = data_length c h in
    let first : n - n ≡ 0 = omega arith in
    let room : 0 + length d ≤ length (zeros data_room) = omega (arith, zeros_length data_room, byte_at c 4 bytes) in
    pick_no _ _ _ out
    ∙ (ap (λ (k : ℕ). take n (drop k (laid d 0 (zeros data_room)))) first
    ∙ (ap (take n) (laid_fits d 0 (zeros data_room) room ∙ put_start d (zeros data_room))
    ∙ (ap (λ (k : ℕ). take k (d ++ drop (length d) (zeros data_room))) (sym size)
    ∙ take-append_seam d (drop (length d) (zeros data_room)))))

-- an exchange that is over sends nothing
over_gives : (bs : List ℕ) (s : State) → is_over s.phase ≡ true → data_out s bs ≡ []
unfolding data_out data_sent_by
over_gives [] s e = refl
over_gives (b ∷ bs) s e =
    ap (λ (t : Turn). data_sent_by t.act t.state ++ data_out t.state bs) (closed_turn s b e) ∙ over_gives bs s e

abbrev Prefix : List ℕ → List ℕ → Type 0
Prefix l m = (q : List ℕ) × (l ++ q ≡ m)

module _ (c out bs : List ℕ) (bytes : Bytes c) (card : Bytes bs) where
  nothing : Prefix (data_out nowhere bs) (data_of c)
  unfolding nowhere is_over
  nothing = (data_of c, ap (λ (l : List ℕ). l ++ data_of c) (over_gives bs nowhere refl))

  given : (sent : Sent) (size : ℕ) → Started (begun sent size c) → unsent (begun sent size c) ≡ data_of c
      → Prefix (data_out (begun sent size c) bs) (data_of c)
  given sent size ok left = let g = gives bs (begun sent size c) card ok.0 in (g.0, g.1 ∙ left)

  no_unsent : unsent (begun (Own One) 0 c) ≡ []
  unfolding unsent begun comes_in
  no_unsent = pick_no _ _ _ refl

  from_card_lem : unsent (begun (Own Two) (asked (length_byte c)) c) ≡ []
  unfolding unsent begun comes_in
  from_card_lem = pick_yes _ _ _ refl

  abbrev Sends : State → Type 0
  Sends s = Prefix (data_out s bs) (data_of c)

  -- the data sent is the command's, from its first byte on, each byte once and in its place
  pub data_sent : Sends (begun_by c out).state
  unfolding begun_by begun_in comes_in
  data_sent =
      every_case c (λ (x : Option Case). Sends (begun_in x c out).state) nothing
      (λ h. as_begun c out Sends (Own One) 0 nothing (given (Own One) 0 (started_one c bytes) (no_unsent ∙ sym (no_data c (omega arith)))))
      (λ h. as_begun c out Sends (Own Two) (asked (length_byte c)) nothing
      (given (Own Two) (asked (length_byte c)) (started_two c bytes) (from_card_lem ∙ sym (no_data c (omega arith)))))
      (λ h. as_begun c out Sends (Own Three) (length_byte c) nothing
      (given (Own Three) (length_byte c) (started_three c bytes) (all_left c (Own Three) refl bytes (omega arith))))
      (λ h. as_begun c out Sends (Own Four) (length_byte c) nothing
      (given (Own Four) (length_byte c) (started_four c bytes) (all_left c (Own Four) refl bytes (omega arith))))
