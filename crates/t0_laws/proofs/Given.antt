-- The data sent is the command's, in order and once: what is sent, with what is left behind it, is at each turn what was left before.
-- Assumes nothing.
use mathlib.Core.Path.{◌≡◌, refl, sym, ap, ◌∙◌}
use mathlib.Core.Bool.{true, false}
use mathlib.Core.List.{List, [], ◌∷◌, ◌++◌, append_assoc, append-nil}
use Prim.Native.Nat.{ℕ, ◌+◌, ◌-◌, ◌≤◌}
use native.Mathlib.Omega.{arith}
use lib.ListN.{take, drop}
use lib.Seq.{take-add, drop-drop}
use Rattle.slices.proofs.Choice.{pick_yes, pick_no}
use Rattle.apdu.specs.Commands.{asked}
use Rattle.t0_state.specs.Bytes.{comes_in}
use Rattle.t0_state.specs.declared.Sent.TheVariants.{GetResponse}
use Rattle.apdu.specs.declared.Trailer.{Trailer}
use Rattle.t0_state.specs.declared.State.{State}
use Rattle.t0_state.specs.declared.Turn.{Turn}
use Rattle.t0_state.specs.declared.Phase.TheVariants.{Data, Over}
use Rattle.t0_state.specs.Changes.{at_phase, with_trailer, asking}
use Rattle.t0_procedure.specs.Procedure.{less_left}
use Rattle.t0_turns.specs.Turns.{on_length, ending_in, on_data, after_byte}
use Rattle.t0.specs.Steps.{sent_by}
use Rattle.t0_laws.specs.Outcomes.{turned, Bytes}
use Rattle.t0_laws.specs.Bounds.{is6_c, Sound}
use Rattle.t0_laws.specs.Moves.{data_sent_by, data_out, unsent}
use Rattle.t0_laws.proofs.Cases.{every_turn}
use Rattle.t0_laws.proofs.Headers.{repeats_in}
use Rattle.t0_laws.proofs.Ends.{sound_on}
use Rattle.apdu.specs.Answers.{trailer_of}
use Rattle.std.specs.Prelude.{Option, None, Some, Ok}

abbrev Gives : State → Turn → Type 0
Gives s t = (q : List ℕ) × (data_sent_by t.act t.state ++ (unsent t.state ++ q) ≡ unsent s)

-- nothing is sent, and as much is left
still : {l m : List ℕ} → l ≡ m → (q : List ℕ) × (l ++ q ≡ m)
still {l} e = ([], append-nil l ∙ e)

-- nothing is left to send
none : {l m : List ℕ} → l ≡ [] → (q : List ℕ) × (l ++ q ≡ m)
none {l} {m} e = (m, ap (λ (x : List ℕ). x ++ m) e)

-- the same header, the same data
unsent_in : (s : State) → comes_in s.header.sent ≡ true → unsent s ≡ []
unfolding unsent
unsent_in s e = pick_yes _ _ _ e

module _ (s : State) (left : s.header.left ≤ s.header.size) where
  -- some bytes sent, and those behind them
  sent_on : (n : ℕ) → n ≤ s.header.left → comes_in s.header.sent ≡ false
      → take n (drop (s.header.size - s.header.left) s.command.body) ++ (unsent (less_left n s) ++ []) ≡ unsent s
  unfolding unsent
  sent_on n most out =
      let l = s.command.body in
      let at = s.header.size - s.header.left in
      let behind : s.header.size - (s.header.left - n) ≡ at + n = omega arith in
      let all : n + (s.header.left - n) ≡ s.header.left = omega arith in
      ap (λ (x : List ℕ). take n (drop at l) ++ x) (append-nil _ ∙ (pick_no _ _ _ out
      ∙ (ap (λ (k : ℕ). take (s.header.left - n) (drop k l)) behind ∙ ap (take (s.header.left - n)) (sym (drop-drop n at l)))))
      ∙ (sym (take-add n (s.header.left - n) (drop at l)) ∙ (ap (λ (k : ℕ). take k (drop at l)) all ∙ sym (pick_no _ _ _ out)))

ending_none : (x : Option Trailer) (last : Trailer) (t : State) → data_sent_by (Ok (ending_in x last)) t ≡ []
unfolding ending_in data_sent_by
ending_none None last t = refl
ending_none (Some kept) last t = refl

turn_gives : (s : State) (b : ℕ) → Sound s → Gives s (after_byte s b)
unfolding data_sent_by sent_by on_length on_data comes_in unsent is6_c
turn_gives s b sound =
    every_turn s b (Gives s) (λ why. still refl) (λ h. still refl) (λ h. still refl)
    (λ n h i j k. still (unsent_in (at_phase (Data n) (less_left n s)) k ∙ sym (unsent_in s k)))
    (λ n h i j k. ([], sent_on s sound.left n j k))
    (λ h i. still refl)
    (λ h i j. still refl)
    (λ h i j. still refl)
    (λ h. still refl)
    (λ h. none (unsent_in (asking GetResponse (asked b) s) refl))
    (λ h. none (unsent_in (asking s.header.sent (asked b) s) (repeats_in s.header (sound.again (ap is6_c h))).0))
    (λ a h i. none (unsent_in (asking GetResponse 256 (with_trailer (trailer_of a b) s)) refl))
    (λ a h. ([], ap (λ (l : List ℕ). l ++ (unsent s ++ [])) (ending_none s.trailer (trailer_of a b) (at_phase Over s)) ∙ append-nil (unsent s)))
    (λ n h. still refl)

-- the data sent over any bytes of the card's is a beginning of what was left
pub gives : (bs : List ℕ) (s : State) → Bytes bs → Sound s → (q : List ℕ) × (data_out s bs ++ q ≡ unsent s)
unfolding data_out turned
gives [] s bytes sound = (unsent s, refl)
gives (b ∷ bs) s bytes sound =
    let turn = turn_gives s b sound in
    let more = gives bs (after_byte s b).state bytes.1 (sound_on (b ∷ []) s (bytes.0, tt) sound) in
    let d = data_sent_by (after_byte s b).act (after_byte s b).state in
    let x = data_out (after_byte s b).state bs in (
      more.0 ++ turn.0,
      append_assoc d x (more.0 ++ turn.0)
          ∙ (ap (◌++◌ d) (sym (append_assoc x more.0 turn.0) ∙ ap (λ (l : List ℕ). l ++ turn.0) more.1) ∙ turn.1),
    )
