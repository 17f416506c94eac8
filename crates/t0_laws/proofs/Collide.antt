-- At every point of an exchange that began with a command, a byte that a status can begin with is taken for that and never for INS or
-- its complement: INS was accepted at the beginning, and the command stays. Assumes nothing.
use mathlib.Core.Path.{◌≡◌, refl, sym, subst}
use mathlib.Core.Bool.{true, false}
use mathlib.Core.List.{List, [], ◌∷◌}
use Prim.Native.Nat.{ℕ, ◌<◌}
use native.Mathlib.Omega.{arith}
use lib.Dec.{eqb}
use lib.ListN.{get_or}
use Rattle.slices.specs.Choice.{pick}
use Rattle.slices.proofs.Choice.{picked}
use Rattle.apdu.specs.Commands.{length_byte, case_of, asked}
use Rattle.apdu.specs.Answers.{is_status}
use Rattle.apdu.specs.declared.Case.{Case}
use Rattle.apdu.specs.declared.Case.TheVariants.{One, Two, Three, Four}
use Rattle.t0_state.specs.Bytes.{ins_for, ins_of, meaning_of}
use Rattle.t0_state.specs.declared.Sent.{Sent}
use Rattle.t0_state.specs.declared.Sent.TheVariants.{Own, GetResponse}
use Rattle.t0_state.specs.declared.Command.{Command}
use Rattle.t0_state.specs.declared.State.{State}
use Rattle.t0_state.specs.declared.bytes.Meaning.TheVariants.{Wait, Get, Repeat, Status}
use Rattle.t0_begin.specs.Begin.{command_of, nowhere, Begun, begun, begun_as, begun_in, begun_by}
use Rattle.t0_turns.specs.Turns.{after_byte}
use Rattle.t0_laws.specs.Outcomes.{turned, Bytes}
use Rattle.t0_laws.proofs.Apart.{status_read, command_kept, ins_accepted}
use Rattle.t0_laws.proofs.Beginning.{byte_at}
use Rattle.std.specs.Prelude.{Option, None, Some}

abbrev pub Accepted : Command → Type 0
Accepted c = (c.ins < 256) × (is_status c.ins ≡ false)

pub ins_byte : (x : Sent) (c : Command) → c.ins < 256 → ins_for x c < 256
unfolding ins_for
ins_byte (Own One) c h = h
ins_byte (Own Two) c h = h
ins_byte (Own Three) c h = h
ins_byte (Own Four) c h = h
ins_byte GetResponse c h = omega arith

pub stays : (bs : List ℕ) (s : State) → Accepted s.command → Accepted (turned s bs).command
unfolding turned
stays [] s h = h
stays (b ∷ bs) s h = stays bs (after_byte s b).state (subst Accepted (sym (command_kept s b)) h)

module _ (c out : List ℕ) (bytes : Bytes c) where
  none : Accepted nowhere.command
  unfolding nowhere is_status pick
  none = (omega arith, refl)

  as_accepted : (sent : Sent) (size : ℕ) → Accepted (begun_as sent size c out).state.command
  unfolding begun_as begun command_of
  as_accepted sent size =
      picked (λ (x : Begun). Accepted x.state.command) (is_status (get_or c 1 0)) _ _ (λ e. none) (λ e. (byte_at c 1 bytes, e))

  in_accepted : (x : Option Case) → Accepted (begun_in x c out).state.command
  unfolding begun_in
  in_accepted None = none
  in_accepted (Some One) = as_accepted (Own One) 0
  in_accepted (Some Two) = as_accepted (Own Two) (asked (length_byte c))
  in_accepted (Some Three) = as_accepted (Own Three) (length_byte c)
  in_accepted (Some Four) = as_accepted (Own Four) (length_byte c)

  pub accepted : Accepted (begun_by c out).state.command
  unfolding begun_by
  accepted = in_accepted (case_of c)

  pub status_taken : (bs : List ℕ) (b : ℕ) → is_status b ≡ true
      → meaning_of (ins_of (turned (begun_by c out).state bs)) b ≡ pick (eqb b 0x60) Wait
      (pick (eqb b 0x61) Get (pick (eqb b 0x6C) Repeat Status))
  unfolding ins_of
  status_taken bs b h =
      let s = turned (begun_by c out).state bs in
      let ok = stays bs (begun_by c out).state accepted in
      status_read (ins_of s) (ins_byte s.header.sent s.command ok.0) (ins_accepted s ok.1) b h
