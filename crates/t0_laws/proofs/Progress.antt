-- Every byte brings the end nearer and keeps what holds of an exchange. Assumes nothing.
use mathlib.Core.Path.{◌≡◌, refl, sym, ap, ◌∙◌}
use mathlib.Core.Bool.{true, false, false≢true}
use mathlib.Core.Logic.{◌⊎◌, inl, inr}
use Prim.Native.Nat.{ℕ, ◌+◌, ◌-◌, ◌≤◌, ◌<◌}
use native.Mathlib.Omega.{arith}
use lib.Dec.{leb}
use borrow.Author.Tests.{leb-true, leb-false}
use Rattle.slices.proofs.Choice.{pick_yes, pick_no, picked}
use Rattle.apdu.specs.Commands.{asked}
use Rattle.t0_state.specs.Bytes.{comes_in, may_repeat, goes_on}
use Rattle.t0_state.specs.declared.Sent.{Sent}
use Rattle.t0_state.specs.declared.Sent.TheVariants.{GetResponse}
use Rattle.t0_state.specs.declared.Counts.{Counts}
use Rattle.t0_state.specs.declared.Phase.{Phase}
use Rattle.t0_state.specs.declared.Phase.TheVariants.{Procedure, Length61, Length6C, Status, Data, Over}
use Rattle.t0_state.specs.declared.State.{State}
use Rattle.t0_state.specs.declared.Turn.{Turn}
use Rattle.t0_state.specs.Changes.{at_phase, with_received, with_trailer, asking}
use Rattle.t0_procedure.specs.Procedure.{waits_most, gets_most, less_left, waited, got, repeats}
use Rattle.t0_turns.specs.Turns.{on_length, phase_after, on_data, after_byte}
use Rattle.t0_pieces.specs.Pieces.{is_over}
use Rattle.t0_laws.specs.Bounds.{waits_left, gets_left, repeat_cost, moved, size_most, header_cost}
use Rattle.t0_laws.specs.Bounds.{phase_cost, bytes_left, header_data, phase_data, data_left, is6_c, Sound}
use Rattle.t0_laws.proofs.Cases.{every_turn}
use Rattle.t0_laws.proofs.Headers.{comes_in_lem, goes_out_lem, goes_on_four, repeats_in, moved_left, moved_none, moved_more, asked_most}
use Rattle.apdu.specs.Answers.{trailer_of}

-- over, or nearer to the end
abbrev pub Good : State → State → Type 0
Good s t = Sound t × ((is_over t.phase ≡ true) ⊎ (bytes_left t < bytes_left s))

not6_c : (p : Phase) → p ≡ Procedure → is6_c p ≡ false
unfolding is6_c
not6_c p e = ap is6_c e

once : (k : Counts) → k.repeated ≡ true → repeat_cost k ≡ 0
unfolding repeat_cost
once k e = pick_yes _ _ _ e

not_yet : (k : Counts) → k.repeated ≡ false → repeat_cost k ≡ 2
unfolding repeat_cost
not_yet k e = pick_no _ _ _ e

module _ (s : State) (sound : Sound s) where
  -- the exchange ends as it stands
  stops : Good s (at_phase Over s)
  unfolding is_over is6_c data_left phase_data
  stops = (
    record {
      size = sound.size;
      left = sound.left;
      again = λ e. absurd (false≢true e);
      room = let r = sound.room in omega arith;
    },
    inl refl,
  )

  module _ (h : s.phase ≡ Procedure) where
    comes : (n : ℕ) → 1 ≤ n → n ≤ s.header.left → comes_in s.header.sent ≡ true → Good s (at_phase (Data n) (less_left n s))
    unfolding is_over is6_c bytes_left phase_cost data_left phase_data
    comes n one most into =
        let x = comes_in_lem s.header.sent into in
        let m = moved s.header in
        let all = moved_left s.header sound.left in
        let more = moved_more s.header n most sound.left in
        let size = sound.size in
        let left = sound.left in
        let p = ap phase_cost h in
        let q = ap phase_data h in
        let r = sound.room in (
          record {
            size = sound.size;
            left = omega arith;
            again = λ e. absurd (false≢true e);
            room =
                let d = ap (header_data s.header.sent) more in
                omega (arith, x.data' m, x.data' (m + n), x.size);
          },
          inr
              (let k = ap (header_cost s.header.sent) more in omega (arith, x.cost m, x.cost (m + n), x.size)),
        )

    sends : (n : ℕ) → 1 ≤ n → n ≤ s.header.left → comes_in s.header.sent ≡ false → Good s (less_left n s)
    unfolding bytes_left data_left
    sends n one most out =
        let x = goes_out_lem s.header.sent out in
        let m = moved s.header in
        let all = moved_left s.header sound.left in
        let more = moved_more s.header n most sound.left in
        let size = sound.size in
        let left = sound.left in
        let some' : 1 ≤ size_most s.header.sent = omega arith in
        let r = sound.room in (
          record {
            size = sound.size;
            left = omega arith;
            again = λ e. absurd (false≢true (sym (not6_c s.phase h) ∙ e));
            room =
                let d = ap (header_data s.header.sent) more in
                omega (arith, x.data' m (m + n));
          },
          inr
              (let k = ap (header_cost s.header.sent) more in omega (arith, x.cost some' m, x.cost some' (m + n), x.size)),
        )

    waits : s.counts.waits < waits_most → Good s (waited s)
    unfolding bytes_left waits_left gets_left repeat_cost data_left
    waits few = (
      record { size = sound.size; left = sound.left; again = λ e. sound.again e; room = sound.room },
      inr (omega arith),
    )

    gets : s.counts.gets < gets_most → Good s (at_phase Length61 (got s))
    unfolding is6_c bytes_left waits_left gets_left repeat_cost phase_cost data_left phase_data
    gets few =
        let p = ap phase_cost h in
        let q = ap phase_data h in
        let r = sound.room in (
          record { size = sound.size; left = sound.left; again = λ e. absurd (false≢true e); room = omega arith },
          inr (omega arith),
        )

    repeating : s.counts.repeated ≡ false → may_repeat s.header ≡ true → Good s (at_phase Length6C (repeats s))
    unfolding is6_c bytes_left waits_left gets_left phase_cost data_left phase_data
    repeating first place =
        let p = ap phase_cost h in
        let q = ap phase_data h in
        let r = sound.room in
        let two : repeat_cost s.counts ≡ 2 = not_yet s.counts first in
        let none : repeat_cost (repeats s).counts ≡ 0 = once (repeats s).counts refl in (
          record { size = sound.size; left = sound.left; again = λ e. place; room = omega arith },
          inr (omega arith),
        )

    begins : (b : ℕ) → Good s (at_phase (Status b) s)
    unfolding is6_c bytes_left phase_cost data_left phase_data
    begins b =
        let p = ap phase_cost h in
        let q = ap phase_data h in
        let r = sound.room in (
          record { size = sound.size; left = sound.left; again = λ e. absurd (false≢true e); room = omega arith },
          inr (omega arith),
        )

  -- GET RESPONSE goes out behind '61'
  fetches : (b : ℕ) → b < 256 → s.phase ≡ Length61 → Good s (asking GetResponse (asked b) s)
  unfolding is6_c size_most bytes_left header_cost phase_cost data_left header_data phase_data
  fetches b byte h =
      let p = ap phase_cost h in
      let q = ap phase_data h in
      let r = sound.room in
      let none = moved_none GetResponse (asked b) in (
        record { size = asked_most b byte; left = omega arith; again = λ e. absurd (false≢true e); room = omega arith },
        inr (omega arith),
      )

  -- the same header goes out again
  again : (b : ℕ) → b < 256 → s.phase ≡ Length6C → Good s (asking s.header.sent (asked b) s)
  unfolding is6_c bytes_left phase_cost data_left phase_data
  again b byte h =
      let p = ap phase_cost h in
      let q = ap phase_data h in
      let r = sound.room in
      let place = repeats_in s.header (sound.again (ap is6_c h)) in
      let x = comes_in_lem s.header.sent place.0 in
      let none = moved_none s.header.sent (asked b) in
      let before = moved_left s.header sound.left in
      let start : moved s.header ≡ 0 = omega (arith, place.1) in
      let c = ap (header_cost s.header.sent) none in
      let c₀ = ap (header_cost s.header.sent) start in
      let d = ap (header_data s.header.sent) none in
      let d₀ = ap (header_data s.header.sent) start in (
        record {
          size = omega (arith, x.size, asked_most b byte);
          left = omega arith;
          again = λ e. absurd
              (false≢true e);
          room = omega arith;
        },
        inr (omega arith),
      )

  -- GET RESPONSE goes out behind a warning
  warns : (a b : ℕ) → s.phase ≡ Status a → goes_on s.header (trailer_of a b) ≡ true → Good s (asking GetResponse 256 (with_trailer (trailer_of a b) s))
  unfolding is6_c size_most bytes_left header_cost phase_cost data_left header_data phase_data
  warns a b h on =
      let p = ap phase_cost h in
      let q = ap phase_data h in
      let r = sound.room in
      let four = goes_on_four s.header a b on in
      let c = ap (λ (x : Sent). header_cost x (moved s.header)) four in
      let d = ap (λ (x : Sent). header_data x (moved s.header)) four in
      let none = moved_none GetResponse 256 in (
        record { size = omega arith; left = omega arith; again = λ e. absurd (false≢true e); room = omega arith },
        inr (omega arith),
      )

  -- a byte of data
  keeps : (n b : ℕ) → s.phase ≡ Data n → Good s (on_data n s b).state
  unfolding on_data phase_after is6_c bytes_left phase_cost data_left phase_data
  keeps n b h =
      let p = ap phase_cost h in
      let q = ap phase_data h in
      let r = sound.room in
      picked (λ (x : Phase). Good s (at_phase x (with_received (s.received + 1) s))) (leb n 1) Procedure (Data (n - 1))
      (λ e. let few = leb-true n 1 e in
      (record { size = sound.size; left = sound.left; again = λ f. absurd (false≢true f); room = omega arith }, inr (omega arith)))
      (λ e. let many = leb-false n 1 e in
      (record { size = sound.size; left = sound.left; again = λ f. absurd (false≢true f); room = omega arith }, inr (omega arith)))

pub turn_good : (s : State) (b : ℕ) → b < 256 → Sound s → is_over s.phase ≡ false → Good s (after_byte s b).state
unfolding on_length is_over
turn_good s b byte sound open' =
    every_turn s b (λ (t : Turn). Good s t.state) (λ why. stops s sound) (λ h. absurd (let r = sound.room in omega arith))
    (λ h. absurd (false≢true (sym open' ∙ ap is_over h)))
    (λ n h i j k. comes s sound h n i j k)
    (λ n h i j k. sends s sound h n i j k)
    (λ h i. waits s sound h i)
    (λ h i j. gets s sound h i)
    (λ h i j. repeating s sound h i j)
    (λ h. begins s sound h b)
    (λ h. fetches s sound b byte h)
    (λ h. again s sound b byte h)
    (λ a h i. warns s sound a b h i)
    (λ a h. stops s sound)
    (λ n h. keeps s sound n b h)
