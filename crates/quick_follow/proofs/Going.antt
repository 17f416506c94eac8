-- What is found where a session goes on, put together of what was met: a command and its answer, somebody else's word, a reason that
-- ends it.
-- Assumes nothing.
use mathlib.Core.Path.{◌≡◌, sym, ap, ◌∙◌}
use mathlib.Core.Bool.{true, false}
use mathlib.Core.List.{List, ◌∷◌, ◌++◌}
use Prim.Native.Nat.{ℕ, ◌+◌, ◌/◌, ◌%◌, ◌^◌, ◌≤◌, ◌<◌}
use native.Mathlib.Nat.{mod-eq_of_lt}
use lib.ListN.{length}
use lib.Pow.{are_bytes}
use borrow.Author.Tests.{eq-eqb, ne_eqb}
use Rattle.slices.proofs.Choice.{pick_yes, pick_no}
use Rattle.tape_read.specs.Entries.{block_size}
use Rattle.start_fields.specs.Reading.{Terminal}
use Rattle.facts.specs.Facts.{Facts}
use Rattle.dol_fill.specs.Filled.{filling, unsupplied, summed}
use Rattle.commands.specs.Commands.{cryptogram_command}
use Rattle.rulebook.specs.Situation.{Situation}
use Rattle.numbers.specs.Tables.{terminated}
use Rattle.rulebook.specs.Phase.{Asked, Heard, Phase, asks, hears, command_of, due_kind, decision_of, decided, ended}
use Rattle.rulebook.specs.Turn.{goes_on, turn, allowed, after}
use Rattle.rulebook_zeros.specs.Zeros.{unsupplied_asking}
use Rattle.verdict.specs.Saying.{says, finds}
use Rattle.std.proofs.Common.{Err}
use Rattle.verdict.specs.declared.Verdict.TheVariants.{Fail}
use Rattle.verdict.specs.declared.Ruling.{Ruling}
use Rattle.quick_said.specs.Said.{found_from}
use Rattle.quick_meet.specs.Meeting.{Met, payload_at, word_met, exchange_met, decision_met}
use Rattle.quick_meet.proofs.Tests.{there, as_going, as_stopped, word_inside, exchange_inside}
use Rattle.quick_meet.proofs.Found.{asks_found, hears_found, decides_found}

-- ---- a list filled from what is known

module _ (t : Terminal) {k l : Facts} {a b : List ℕ} (e : k ≡ l) (f : a ≡ b) where
  pub asked_as : (request : ℕ) → cryptogram_command request (filling t k a) ≡ cryptogram_command request (filling t l b)
  asked_as request = λ i. cryptogram_command request (filling t (e i) (f i))

  pub filled_as : filling t k a ≡ filling t l b
  filled_as = λ i. filling t (e i) (f i)

  pub lacks_as : unsupplied t k a ≡ unsupplied t l b
  lacks_as = λ i. unsupplied t (e i) (f i)

-- ---- a command and its answer

module _ (t : List ℕ) (bytes : are_bytes t ≡ true) (k z : ℕ) (w : Asked) (m : Met) (c : List ℕ) (u filled : ℕ)
    (met : m ≡ exchange_met c k t) (due : c ≡ command_of w) (sum : filled ≡ summed z u) (lacks : u ≡ unsupplied_asking w) where
  met_due : m ≡ exchange_met (command_of w) k t
  met_due = met ∙ ap (λ (x : List ℕ). exchange_met x k t) due

  filled_due : filled ≡ summed z (unsupplied_asking w)
  filled_due = sum ∙ ap (summed z) lacks

  pub asked_stops : (said : Ruling) → m ≡ Err said → finds said filled ≡ found_from (asks w) k z t
  asked_stops said f =
      ap (finds said) filled_due ∙ (as_stopped m _ met_due _ _ said f ∙ sym (asks_found t bytes k z w))

  pub asked_goes : (p : List ℕ) → p ≡ payload_at (k + 1) t → there m ≡ true
      → found_from (turn w p) (k + 2) filled t ≡ found_from (asks w) k z t
  asked_goes p e y =
      (λ i. found_from (turn w (e i)) (k + 2) (filled_due i) t) ∙ (as_going m _ met_due _ _ y ∙ sym (asks_found t bytes k z w))

pub asked_inside : (t : List ℕ) (k : ℕ) (m : Met) (c : List ℕ) → m ≡ exchange_met c k t → there m ≡ true → k + 2 ≤ length t / block_size
asked_inside t k m c met y = exchange_inside t k c (ap there (sym met) ∙ y)

pub heard_inside : (t : List ℕ) (k kind : ℕ) (m : Met) → m ≡ word_met kind k t → there m ≡ true → k + 1 ≤ length t / block_size
heard_inside t k kind m met y = word_inside t k kind (ap there (sym met) ∙ y)

module _ (t : List ℕ) (bytes : are_bytes t ≡ true) (k z : ℕ) (small : z < 2 ^ 64) where
  -- ---- somebody else's word

  module _ (h : Heard) (m : Met) (met : m ≡ word_met (due_kind h) k t) where
    pub heard_stops : (said : Ruling) → m ≡ Err said → finds said z ≡ found_from (hears h) k z t
    heard_stops said f = as_stopped m _ met z _ said f ∙ sym (hears_found t bytes k z small h)

    pub heard_fails : there m ≡ true → allowed h (payload_at k t) ≡ false → finds (says Fail k 0) z ≡ found_from (hears h) k z t
    heard_fails y f = sym (pick_no _ _ _ f) ∙ (as_going m _ met z _ y ∙ sym (hears_found t bytes k z small h))

    pub heard_goes : there m ≡ true → allowed h (payload_at k t) ≡ true
        → found_from (after h (payload_at k t)) (k + 1) z t ≡ found_from (hears h) k z t
    heard_goes y f = sym (pick_yes _ _ _ f) ∙ (as_going m _ met z _ y ∙ sym (hears_found t bytes k z small h))

  -- ---- decided

  module _ (s : Situation) where
    pub decided_found : (outcome : ℕ) → decision_met (outcome ∷ 0 ∷ (s.tvr ++ s.tsi)) k z t ≡ found_from (decided outcome s) k z t
    unfolding decided decision_of
    decided_found outcome = sym (decides_found t bytes k z small outcome 0 s)

    pub ended_found : (reason : ℕ) → decision_met (terminated ∷ reason ∷ (s.tvr ++ s.tsi)) k z t ≡ found_from (ended reason s) k z t
    unfolding ended decision_of
    ended_found reason = sym (decides_found t bytes k z small terminated reason s)

    -- a bad answer ends the session with its reason; otherwise it goes on
    module _ (why reason : ℕ) (next : Phase) (same : why ≡ reason) where
      pub reason_ends : reason < 256 → (why ≡ 0 → ⊥)
          → decision_met (terminated ∷ why % 256 ∷ (s.tvr ++ s.tsi)) k z t ≡ found_from (goes_on reason s next) k z t
      unfolding goes_on
      reason_ends few bad =
          ap (λ (x : ℕ). decision_met (terminated ∷ x ∷ (s.tvr ++ s.tsi)) k z t) (ap (λ (x : ℕ). x % 256) same ∙ mod-eq_of_lt few)
          ∙ (ended_found reason
          ∙ sym (ap (λ (p : Phase). found_from p k z t) (pick_no _ _ _ (ne_eqb reason 0 (λ e. bad (same ∙ e))))))

      pub reason_goes : why ≡ 0 → found_from next k z t ≡ found_from (goes_on reason s next) k z t
      unfolding goes_on
      reason_goes good = sym (ap (λ (p : Phase). found_from p k z t) (pick_yes _ _ _ (eq-eqb reason 0 (sym same ∙ good))))
