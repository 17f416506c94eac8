-- Once INS is accepted, INS, its complement and the bytes that a status begins with are all different: the upper half of the
-- complement is 15 less that of INS, and 6 and 9 make 15. Assumes nothing.
use mathlib.Core.Path.{◌≡◌, refl, sym, ap, ◌∙◌}
use mathlib.Core.Bool.{Bool, true, false, false≢true}
use mathlib.Core.Logic.{◌⊎◌, inl, inr, ⊎_elim}
use Prim.Native.Nat.{ℕ, ◌/◌, ◌<◌}
use native.Mathlib.Omega.{arith}
use lib.Dec.{eqb}
use borrow.Author.Tests.{eqb-true, eqb-false, ne_eqb}
use Rattle.slices.specs.Choice.{pick}
use Rattle.slices.proofs.Choice.{pick_yes, pick_no, picked}
use Rattle.apdu.specs.Answers.{is_status}
use Rattle.t0_state.specs.Bytes.{ins_for, ins_of, complement, meaning_of}
use Rattle.t0_state.specs.declared.Sent.{Sent}
use Rattle.t0_state.specs.declared.Sent.TheVariants.{Own, GetResponse}
use Rattle.t0_state.specs.declared.Command.{Command}
use Rattle.t0_state.specs.declared.State.{State}
use Rattle.t0_state.specs.declared.Turn.{Turn}
use Rattle.t0_state.specs.declared.bytes.Meaning.{Meaning}
use Rattle.t0_state.specs.declared.bytes.Meaning.TheVariants.{Wait, Get, Repeat, Status}
use Rattle.t0_turns.specs.Turns.{on_length, on_data, after_byte}
use Rattle.t0_laws.proofs.Cases.{every_turn}
use Rattle.apdu.specs.declared.Case.TheVariants.{One, Two, Three, Four}

-- the upper half of a byte that is no status
not_six_nine : (b : ℕ) → is_status b ≡ false → (b / 16 ≡ 6 → ⊥) × (b / 16 ≡ 9 → ⊥)
unfolding is_status
not_six_nine b =
    picked (λ (t : Bool). t ≡ false → (b / 16 ≡ 6 → ⊥) × (b / 16 ≡ 9 → ⊥)) (eqb (b / 16) 6) _ _
    (λ e f. absurd (false≢true (sym f)))
    (λ e f. (eqb-false _ _ e, eqb-false _ _ f))

six_or_nine : (b : ℕ) → is_status b ≡ true → (b / 16 ≡ 6) ⊎ (b / 16 ≡ 9)
unfolding is_status
six_or_nine b =
    picked (λ (t : Bool). t ≡ true → (b / 16 ≡ 6) ⊎ (b / 16 ≡ 9)) (eqb (b / 16) 6) _ _
    (λ e f. inl (eqb-true _ _ e))
    (λ e f. inr (eqb-true _ _ f))

module _ (ins : ℕ) (byte : ins < 256) (accepted : is_status ins ≡ false) where
  pub apart : ins ≡ complement ins → ⊥
  unfolding complement
  apart e = omega arith

  pub status_not_ins : (b : ℕ) → is_status b ≡ true → b ≡ ins → ⊥
  status_not_ins b h e = false≢true (sym accepted ∙ (ap is_status (sym e) ∙ h))

  pub status_not_complement : (b : ℕ) → is_status b ≡ true → b ≡ complement ins → ⊥
  unfolding complement
  status_not_complement b h e =
      let n = not_six_nine ins accepted in
      ⊎_elim (λ f. n.1 (omega arith)) (λ f. n.0 (omega arith)) (six_or_nine b h)

  -- so a status byte means what it means whatever INS is
  pub status_read : (b : ℕ) → is_status b ≡ true
      → meaning_of ins b ≡ pick (eqb b 0x60) Wait (pick (eqb b 0x61) Get (pick (eqb b 0x6C) Repeat Status))
  unfolding meaning_of
  status_read b h =
      pick_no _ _ _ (ne_eqb _ _ (status_not_ins b h))
      ∙ (pick_no _ _ _ (ne_eqb _ _ (status_not_complement b h))
      ∙ ap (λ (x : Meaning). pick (eqb b 0x60) Wait (pick (eqb b 0x61) Get (pick (eqb b 0x6C) Repeat x))) (pick_yes _ _ _ h))

-- INS is accepted once for the whole exchange: the command never changes, and INS of GET RESPONSE is no status
pub command_kept : (s : State) (b : ℕ) → (after_byte s b).state.command ≡ s.command
unfolding on_length on_data
command_kept s b =
    every_turn s b (λ (t : Turn). t.state.command ≡ s.command) (λ why. refl) (λ h. refl) (λ h. refl) (λ n h i j k. refl)
    (λ n h i j k. refl)
    (λ h i. refl) (λ h i j. refl) (λ h i j. refl) (λ h. refl) (λ h. refl) (λ h. refl) (λ a h i. refl) (λ a h. refl) (λ n h. refl)

for_any : (x : Sent) (c : Command) → is_status c.ins ≡ false → is_status (ins_for x c) ≡ false
unfolding ins_for is_status pick
for_any (Own One) c e = e
for_any (Own Two) c e = e
for_any (Own Three) c e = e
for_any (Own Four) c e = e
for_any GetResponse c e = refl

pub ins_accepted : (s : State) → is_status s.command.ins ≡ false → is_status (ins_of s) ≡ false
unfolding ins_of
ins_accepted s e = for_any s.header.sent s.command e
