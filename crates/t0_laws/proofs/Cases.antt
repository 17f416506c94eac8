-- The turns that one byte can bring, each with what led to it: what holds of all of them holds of every turn.
-- Assumes nothing.
use mathlib.Core.Path.{◌≡◌, refl}
use mathlib.Core.Bool.{true, false}
use Prim.Native.Nat.{ℕ, ◌<◌, ◌≤◌, ◌-◌}
use native.Mathlib.Omega.{arith}
use lib.Dec.{eqb, leb, ltb}
use borrow.Author.Tests.{ltb-true, leb-false, eqb-false}
use Rattle.slices.proofs.Choice.{picked}
use Rattle.t0_state.specs.Bytes.{ins_of, meaning_of, comes_in, may_get, may_repeat, goes_on}
use Rattle.t0_state.specs.Changes.{at_phase, with_trailer, asking}
use Rattle.t0_state.specs.declared.Sent.TheVariants.{GetResponse}
use Rattle.t0_state.specs.declared.Phase.{Phase}
use Rattle.t0_state.specs.declared.Phase.TheVariants.{Procedure, Length61, Length6C, Status, Data, Over}
use Rattle.t0_state.specs.declared.State.{State}
use Rattle.t0_state.specs.declared.bytes.Meaning.{Meaning}
use Rattle.t0_state.specs.declared.bytes.Meaning.TheVariants.{All, Next, Wait, Get, Repeat, Strange, Status as Begins}
use Rattle.t0_state.specs.declared.Refusal.{Refusal}
use Rattle.t0_state.specs.declared.Refusal.TheVariants.{Byte, Place, Many60, Many61, Many6C}
use Rattle.t0_state.specs.declared.Act.TheVariants.{Nothing, Header, Send}
use Rattle.t0_state.specs.declared.Turn.{Turn}
use Rattle.t0_procedure.specs.Procedure.{waits_most, gets_most, refused, onward, less_left, moving, on_all, on_next}
use Rattle.t0_procedure.specs.Procedure.{waited, on_wait, got, on_get, repeats, on_six_c, by_meaning, on_procedure}
use Rattle.t0_turns.specs.Turns.{data_most, closed_on, on_length, on_repeat, ending_in, on_status, on_data, by_phase, after_byte}
use Rattle.apdu.specs.Answers.{trailer_of}
use Rattle.std.specs.Prelude.{Ok}

module _ (s : State) (b : ℕ) (P : Turn → Type 0)
    (refuses : (why : Refusal) → P (refused why s))
    (long : data_most < s.received → P (closed_on s))
    (over : s.phase ≡ Over → P (closed_on s))
    (comes : (n : ℕ) → s.phase ≡ Procedure → 1 ≤ n → n ≤ s.header.left → comes_in s.header.sent ≡ true
    → P (onward (Data n) (less_left n s)))
    (sends : (n : ℕ) → s.phase ≡ Procedure → 1 ≤ n → n ≤ s.header.left → comes_in s.header.sent ≡ false
    → P (record { state = less_left n s; act = Ok (Send (s.header.size - s.header.left) n) }))
    (waits : s.phase ≡ Procedure → s.counts.waits < waits_most → P (record { state = waited s; act = Ok Nothing }))
    (gets : s.phase ≡ Procedure → s.counts.gets < gets_most → may_get s.header ≡ true → P (onward Length61 (got s)))
    (repeating : s.phase ≡ Procedure → s.counts.repeated ≡ false → may_repeat s.header ≡ true → P (onward Length6C (repeats s)))
    (begins : s.phase ≡ Procedure → P (onward (Status b) s))
    (fetches : s.phase ≡ Length61 → P (on_length GetResponse s b))
    (again : s.phase ≡ Length6C → P (on_length s.header.sent s b))
    (warns : (a : ℕ) → s.phase ≡ Status a → goes_on s.header (trailer_of a b) ≡ true
    → P (record { state = asking GetResponse 256 (with_trailer (trailer_of a b) s); act = Ok (Header 0) }))
    (finishes : (a : ℕ) → s.phase ≡ Status a → P (record { state = at_phase Over s; act = Ok (ending_in s.trailer (trailer_of a b)) }))
    (keeps : (n : ℕ) → s.phase ≡ Data n → P (on_data n s b))
  where
    moving_cases : (n : ℕ) → s.phase ≡ Procedure → n ≤ s.header.left → P (moving n s)
    unfolding moving
    moving_cases n e h =
        picked P (eqb n 0) _ _ (λ f. refuses Place)
        (λ f. let some' = eqb-false n 0 f in
        let one : 1 ≤ n = omega arith in
        picked P (comes_in s.header.sent) _ _ (λ g. comes n e one h g) (λ g. sends n e one h g))

    next_cases : s.phase ≡ Procedure → P (on_next s)
    unfolding on_next
    next_cases e =
        picked (λ (n : ℕ). P (moving n s)) (eqb s.header.left 0) 0 1 (λ f. moving_cases 0 e (omega arith))
        (λ f. let some' = eqb-false s.header.left 0 f in moving_cases 1 e (omega arith))

    by_meaning_lem : (m : Meaning) → s.phase ≡ Procedure → P (by_meaning m s b)
    unfolding by_meaning on_all on_wait on_get on_six_c
    by_meaning_lem All e = moving_cases s.header.left e (omega arith)
    by_meaning_lem Next e = next_cases e
    by_meaning_lem Wait e = picked P (ltb s.counts.waits waits_most) _ _ (λ f. waits e (ltb-true _ _ f)) (λ f. refuses Many60)
    by_meaning_lem Get e =
        picked P (leb gets_most s.counts.gets) _ _ (λ f. refuses Many61)
        (λ f. picked P (may_get s.header) _ _ (λ g. gets e (leb-false _ _ f) g) (λ g. refuses Place))
    by_meaning_lem Repeat e =
        picked P s.counts.repeated _ _ (λ f. refuses Many6C)
        (λ f. picked P (may_repeat s.header) _ _ (λ g. repeating e f g) (λ g. refuses Place))
    by_meaning_lem Begins e = begins e
    by_meaning_lem Strange e = refuses Byte

    by_phase_lem : (p : Phase) → s.phase ≡ p → P (by_phase p s b)
    unfolding by_phase on_procedure on_repeat on_status
    by_phase_lem Procedure e = by_meaning_lem (meaning_of (ins_of s) b) e
    by_phase_lem Length61 e = fetches e
    by_phase_lem Length6C e = again e
    by_phase_lem (Status a) e = picked P (goes_on s.header (trailer_of a b)) _ _ (λ f. warns a e f) (λ f. finishes a e)
    by_phase_lem (Data n) e = keeps n e
    by_phase_lem Over e = over e

    pub every_turn : P (after_byte s b)
    unfolding after_byte
    every_turn = picked P (ltb data_most s.received) _ _ (λ f. long (ltb-true _ _ f)) (λ f. by_phase_lem s.phase refl)
