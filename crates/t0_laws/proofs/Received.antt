-- The answer is what came in, in order: each turn lays what it keeps behind what was kept before. Assumes nothing.
use mathlib.Core.Path.{◌≡◌, refl, sym, ap, ap₂, ◌∙◌}
use mathlib.Core.Bool.{true, false, false≢true}
use mathlib.Core.List.{List, [], ◌∷◌, ◌++◌, append_assoc, append-nil}
use Prim.Native.Nat.{ℕ, ◌+◌, ◌≤◌}
use native.Mathlib.Omega.{arith}
use lib.Dec.{leb}
use lib.ListN.{length, take}
use lib.Seq.{take-add}
use borrow.Author.Tests.{leb-true, le-ltb}
use Rattle.slices.specs.Writing.{put, laid}
use Rattle.slices.proofs.Choice.{pick_no, picked, either}
use Rattle.slices.proofs.Writing.{put_length, put_take, put_there, laid_fits}
use Rattle.apdu.specs.Answers.{answer_most}
use Rattle.apdu.specs.declared.Trailer.{Trailer}
use Rattle.t0_state.specs.declared.Phase.{Phase}
use Rattle.t0_state.specs.declared.Phase.TheVariants.{Data, Over}
use Rattle.t0_state.specs.declared.State.{State}
use Rattle.t0_state.specs.declared.Turn.{Turn}
use Rattle.t0_turns.specs.Turns.{data_most, on_length, ending_in, on_data, by_phase, after_byte}
use Rattle.t0.specs.Steps.{sent_by, kept_by, reply_to, done, step_of}
use Rattle.t0.proofs.Laying.{laid_nothing}
use Rattle.t0_pieces.specs.Pieces.{is_over, is_closed}
use Rattle.t0_laws.specs.Outcomes.{Outcome, settled, stepped_to, playing, turned, Bytes}
use Rattle.t0_laws.specs.Bounds.{Sound}
use Rattle.t0_laws.specs.Moves.{kept, size_said, answered}
use Rattle.t0_laws.proofs.Cases.{every_turn}
use Rattle.t0_laws.proofs.Cutting.{stopped, going}
use Rattle.t0_laws.proofs.Ends.{closed_turn, sound_on}
use Rattle.std.specs.Prelude.{Option, None, Some, Ok}
use Rattle.apdu.specs.Answers.{trailer_of}

-- room for the longest answer
abbrev pub answer_room : ℕ
answer_room = answer_most

pub laid_length : (x : List ℕ) (p : ℕ) (d : List ℕ) → length (laid x p d) ≡ length d
unfolding laid
laid_length x p d = picked (λ (l : List ℕ). length l ≡ length d) (leb (p + length x) (length d)) _ _
    (λ e. put_length x p d (leb-true _ _ e)) (λ e. refl)

-- what was laid stands behind what stood before it
take_laid : (x : List ℕ) (p : ℕ) (d : List ℕ) → p + length x ≤ length d → take (p + length x) (laid x p d) ≡ take p d ++ x
take_laid x p d h =
    ap (take (p + length x)) (laid_fits x p d h)
    ∙ (take-add p (length x) (put x p d) ∙ ap₂ ◌++◌ (put_take x p d (omega arith)) (put_there x p d (omega arith)))

module _ (s : State) (w : List ℕ) (room : answer_room ≤ length w) (few : s.received ≤ data_most) where
  -- the answer after a turn
  abbrev answer_after : Turn → ℕ → List ℕ
  answer_after t n = take (size_said (settled (reply_to t.act n s.received t.state.phase)) t.state.received)
      (laid (kept_by t.act) s.received w)

  abbrev Adds : Turn → Type 0
  Adds t =
      (n : ℕ)
      → (answer_after t n ≡ take s.received w ++ kept_by t.act)
      × (is_over t.state.phase ≡ false
      → size_said (settled (reply_to t.act n s.received t.state.phase)) t.state.received ≡ t.state.received)

  -- a turn that keeps nothing
  unchanged : take s.received (laid [] s.received w) ≡ take s.received w ++ []
  unchanged = ap (take s.received) (laid_nothing s.received w) ∙ sym (append-nil (take s.received w))

  ending : (x : Option Trailer) (last : Trailer) (n : ℕ) (p : Phase)
      → take (size_said (settled (reply_to (Ok (ending_in x last)) n s.received p)) s.received)
      (laid (kept_by (Ok (ending_in x last))) s.received w)
      ≡ take s.received w ++ kept_by (Ok (ending_in x last))
  unfolding ending_in kept_by reply_to settled size_said
  ending None last n p = take_laid (last.sw1 ∷ last.sw2 ∷ []) s.received w (omega arith)
  ending (Some kept') last n p = take_laid (kept'.sw1 ∷ kept'.sw2 ∷ []) s.received w (omega arith)

  turn_adds : (b : ℕ) → Adds (after_byte s b)
  unfolding kept_by reply_to settled size_said on_length on_data is_over
  turn_adds b =
      every_turn s b Adds (λ why n. (unchanged, λ e. refl)) (λ h n. (unchanged, λ e. refl)) (λ h n. (unchanged, λ e. refl))
      (λ n h i j k m. (unchanged, λ e. refl))
      (λ n h i j k m. (unchanged, λ e. refl))
      (λ h i n. (unchanged, λ e. refl))
      (λ h i j n. (unchanged, λ e. refl))
      (λ h i j n. (unchanged, λ e. refl))
      (λ h n. (unchanged, λ e. refl))
      (λ h n. (unchanged, λ e. refl))
      (λ h n. (unchanged, λ e. refl))
      (λ a h i n. (unchanged, λ e. refl))
      (λ a h n. (ending s.trailer (trailer_of a b) n Over, λ e. absurd (false≢true (sym e))))
      (λ n h m. (take_laid (b ∷ []) s.received w (omega arith), λ e. refl))

-- an exchange that is over keeps nothing more
over_keeps : (bs : List ℕ) (s : State) → is_over s.phase ≡ true → kept s bs ≡ []
unfolding kept kept_by
over_keeps [] s e = refl
over_keeps (b ∷ bs) s e = ap (λ (t : Turn). kept_by t.act ++ kept t.state bs) (closed_turn s b e) ∙ over_keeps bs s e

-- whatever bytes come, the answer grows by what is kept of them
pub comes_in_order : (bs : List ℕ) (o : Outcome) → Bytes bs → Sound o.state → answer_room ≤ length o.answer
    → (is_closed o.state ≡ false → size_said o.said o.state.received ≡ o.state.received)
    → answered (playing o bs) ≡ answered o ++ kept o.state bs
unfolding kept turned is_closed step_of done answered playing
comes_in_order [] o bytes sound room says = sym (append-nil (answered o))
comes_in_order (b ∷ bs) o bytes sound room says =
    let s = o.state in
    let t = after_byte s b in
    let next = stepped_to o (step_of s b o.out o.answer) in
    let few : s.received ≤ data_most = (let r = sound.room in omega arith) in
    let turn = turn_adds s o.answer room few b (length (sent_by t.act t.state)) in
    let longer : answer_room ≤ length next.answer = (let same = laid_length (kept_by t.act) s.received o.answer in omega arith) in
    either (is_closed s)
    (λ e. ap answered (stopped o (b ∷ bs) e) ∙ (sym (append-nil (answered o)) ∙ ap (◌++◌ (answered o)) (sym (over_keeps (b ∷ bs) s e))))
    (λ e. let so_far : take s.received o.answer ≡ answered o = ap (λ (n : ℕ). take n o.answer) (sym (says e)) in
    ap answered (going o b bs e)
    ∙ (comes_in_order bs next bytes.1 (sound_on (b ∷ []) s (bytes.0, tt) sound) longer turn.1
    ∙ (ap (λ (l : List ℕ). l ++ kept t.state bs) (turn.0 ∙ ap (λ (l : List ℕ). l ++ kept_by t.act) so_far)
    ∙ append_assoc (answered o) (kept_by t.act) (kept t.state bs))))

-- a byte of data is kept as it came
pub data_kept : (s : State) (b n : ℕ) → s.received ≤ data_most → s.phase ≡ Data n → kept_by (after_byte s b).act ≡ b ∷ []
unfolding after_byte by_phase on_data kept_by
data_kept s b n h e =
    ap (λ (t : Turn). kept_by t.act) (pick_no _ _ _ (le-ltb _ _ h) ∙ ap (λ (p : Phase). by_phase p s b) e)
