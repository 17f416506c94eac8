-- What one entry does in each state of the machine, for a judge that goes by the entry's kind and payload: the one entry that is due
-- leads on, a silence closes where the card owes an answer, and anything else breaks the rules there.
-- Assumes nothing.
use mathlib.Core.Path.{◌≡◌, refl, ap, ap₂, ◌∙◌}
use mathlib.Core.Bool.{Bool, true, false, ◌&&◌}
use mathlib.Core.List.{List, [], ◌∷◌}
use mathlib.Core.Option.{none, some}
use Prim.Native.Nat.{ℕ, ◌+◌}
use native.Mathlib.Omega.{arith}
use lib.Dec.{eqb}
use borrow.Author.Tests.{ne_eqb}
use Rattle.slices.specs.Tests.{alike}
use Rattle.slices.proofs.Choice.{pick_yes, pick_no, either, and_both}
use Rattle.slices.proofs.Comparing.{alike_same}
use Rattle.numbers.specs.Tables.{command, answer, silence, decision}
use Rattle.tape_read.specs.Entries.{Entry, entry}
use Rattle.sessions.specs.Rules.{asks, hears, decides, Rules}
use Rattle.sessions.specs.Session.{is_payload}
use Rattle.sessions.specs.Machine.{Machine, at, owes, done, due, sayable, next}
use Rattle.sessions.proofs.Running.{takes_command, takes_answer, takes_heard, takes_decision}
use Rattle.sessions.proofs.Reading.{other_kind}
use Rattle.verdict_under.specs.Progress.{reached, closed, broken, empty, closes, onward, reads}

-- an entry of another kind than the one due, and one of that kind with another payload
pub not_due : (k j : ℕ) (test : Bool) (p : List ℕ) → (j ≡ k → ⊥) → due k test (entry j p) ≡ false
not_due k j test p h = other_kind k j test p (ne_eqb j k h)

not_passed : (k j : ℕ) (test : Bool) (p : List ℕ) → test ≡ false → due k test (entry j p) ≡ false
unfolding due
not_passed k j test p h = either (eqb j k) (λ y. ap₂ ◌&&◌ y h) (λ n. ap (λ (b : Bool). b && test) n)

not_empty : (q : List ℕ) → (q ≡ [] → ⊥) → empty q ≡ false
unfolding empty
not_empty [] h = absurd (h refl)
not_empty (b ∷ q) h = refl

module _ {A H S : Type 0} (rules : Rules A H S) where
  open rules use {command_of, turn, due_kind, allowed, after, decision_of}

  -- ---- by what the machine does

  module _ (σ : Machine A H S) (n : ℕ) (e : Entry) where
    pub reads_taken : (τ : Machine A H S) → next rules σ e ≡ some τ → reads rules (reached σ n) e ≡ reached τ (n + 1)
    unfolding reads onward
    reads_taken τ h = ap (onward σ n e) h

    pub reads_refused : next rules σ e ≡ none → closes σ e ≡ false → reads rules (reached σ n) e ≡ broken n
    unfolding reads onward
    reads_refused h f = ap (onward σ n e) h ∙ pick_no _ _ _ f

  -- ---- by what is due

  module _ (n : ℕ) where
    -- what somebody other than the card says
    module _ (h : H) (p : List ℕ) where
      pub reads_heard : allowed h p ≡ true → is_payload p ≡ true
          → reads rules (reached (at (hears h)) n) (entry (due_kind h) p) ≡ reached (at (after h p)) (n + 1)
      reads_heard fits ok = reads_taken (at (hears h)) n (entry (due_kind h) p) (at (after h p)) (takes_heard rules h p fits ok)

      pub heard_invalid : allowed h p ≡ false → reads rules (reached (at (hears h)) n) (entry (due_kind h) p) ≡ broken n
      unfolding next closes sayable
      heard_invalid f =
          reads_refused (at (hears h)) n (entry (due_kind h) p)
          (pick_no _ _ _ (not_passed (due_kind h) (due_kind h) _ p (ap (λ (b : Bool). b && is_payload p) f))) refl

      pub heard_missing : (k : ℕ) → (k ≡ due_kind h → ⊥) → reads rules (reached (at (hears h)) n) (entry k p) ≡ broken n
      unfolding next closes
      heard_missing k other = reads_refused (at (hears h)) n (entry k p) (pick_no _ _ _ (not_due (due_kind h) k _ p other)) refl

    -- a command
    module _ (w : A) (p : List ℕ) where
      pub reads_command : p ≡ command_of w → reads rules (reached (at (asks w)) n) (entry command p) ≡ reached (owes w) (n + 1)
      reads_command h =
          ap (λ (c : List ℕ). reads rules (reached (at (asks w)) n) (entry command c)) h
          ∙ reads_taken (at (asks w)) n (entry command (command_of w)) (owes w) (takes_command rules w)

      pub command_wrong : (k : ℕ) → (p ≡ command_of w → ⊥) → reads rules (reached (at (asks w)) n) (entry k p) ≡ broken n
      unfolding next closes
      command_wrong k h =
          reads_refused (at (asks w)) n (entry k p)
          (pick_no _ _ _
          (not_passed command k _ p (either (alike p (command_of w)) (λ y. absurd (h (alike_same p (command_of w) y))) (λ f. f)))) refl

      pub command_missing : (k : ℕ) → (k ≡ command → ⊥) → reads rules (reached (at (asks w)) n) (entry k p) ≡ broken n
      unfolding next closes
      command_missing k h = reads_refused (at (asks w)) n (entry k p) (pick_no _ _ _ (not_due command k _ p h)) refl

    -- an answer, or a closing silence
    module _ (w : A) (p : List ℕ) where
      pub reads_answer : is_payload p ≡ true → reads rules (reached (owes w) n) (entry answer p) ≡ reached (at (turn w p)) (n + 1)
      reads_answer ok = reads_taken (owes w) n (entry answer p) (at (turn w p)) (takes_answer rules w p ok)

      pub reads_silence : p ≡ [] → reads rules (reached (owes w) n) (entry silence p) ≡ closed (n + 1)
      unfolding reads onward next closes empty
      reads_silence h =
          ap (onward (owes w) n (entry silence p)) (pick_no _ _ _ (not_due answer silence _ p (λ e. omega arith)))
          ∙ pick_yes _ _ _ (and_both (eqb silence silence) (empty p) refl (ap empty h))

      pub silence_wrong : (p ≡ [] → ⊥) → reads rules (reached (owes w) n) (entry silence p) ≡ broken n
      unfolding next closes
      silence_wrong h =
          reads_refused (owes w) n (entry silence p) (pick_no _ _ _ (not_due answer silence _ p (λ e. omega arith))) (not_empty p h)

      pub answer_missing : (k : ℕ) → (k ≡ answer → ⊥) → (k ≡ silence → ⊥) → reads rules (reached (owes w) n) (entry k p) ≡ broken n
      unfolding next closes
      answer_missing k h s =
          reads_refused (owes w) n (entry k p) (pick_no _ _ _ (not_due answer k _ p h))
          (ap (λ (b : Bool). b && empty p) (ne_eqb k silence s))

    -- DECISION
    module _ (outcome reason : ℕ) (s : S) (p : List ℕ) where
      pub reads_decision : p ≡ decision_of outcome reason s
          → reads rules (reached (at (decides outcome reason s)) n) (entry decision p) ≡ reached done (n + 1)
      reads_decision h =
          let d = decides outcome reason s in
          ap (λ (x : List ℕ). reads rules (reached (at d) n) (entry decision x)) h
          ∙ reads_taken (at d) n (entry decision (decision_of outcome reason s)) done (takes_decision rules outcome reason s)

      pub decision_wrong : (k : ℕ) → (p ≡ decision_of outcome reason s → ⊥)
          → reads rules (reached (at (decides outcome reason s)) n) (entry k p) ≡ broken n
      unfolding next closes
      decision_wrong k h =
          let d = decision_of outcome reason s in
          reads_refused (at (decides outcome reason s)) n (entry k p)
          (pick_no _ _ _ (not_passed decision k _ p (either (alike p d) (λ y. absurd (h (alike_same p d y))) (λ f. f)))) refl

      pub decision_missing : (k : ℕ) → (k ≡ decision → ⊥) → reads rules (reached (at (decides outcome reason s)) n) (entry k p) ≡ broken n
      unfolding next closes
      decision_missing k h = reads_refused (at (decides outcome reason s)) n (entry k p) (pick_no _ _ _ (not_due decision k _ p h)) refl

    -- nothing follows the end, a closing silence or a break
    module _ (e : Entry) where
      pub reads_after_end : reads rules (reached done n) e ≡ broken n
      unfolding next closes
      reads_after_end = reads_refused done n e refl refl

      pub reads_after_silence : reads rules (closed n) e ≡ broken n
      unfolding reads
      reads_after_silence = refl

      pub reads_after_break : reads rules (broken n) e ≡ broken n
      unfolding reads
      reads_after_break = refl
