-- The fourth number of a tape is found beside the verdict: each entry adds what the progress that it makes adds. Every tape has one, and
-- no other.
-- Assumes nothing.
use mathlib.Core.Path.{◌≡◌, refl, sym, ap, ◌∙◌, subst}
use mathlib.Core.List.{List, [], ◌∷◌, ◌++◌}
use mathlib.Core.Option.{Option, none, some}
use Prim.Native.Nat.{ℕ, ◌+◌}
use native.Mathlib.Nat.{add-zero}
use native.Mathlib.Omega.{arith}
use lib.Seq.{take-append-le}
use Rattle.slices.proofs.Choice.{picked}
use Rattle.tape_read.specs.Entries.{Entry}
use Rattle.tape_read.specs.Tapes.{Reading, entries, unreadable, read_tape}
use Rattle.sessions.specs.Rules.{Phase, Rules}
use Rattle.sessions.specs.Session.{BreaksAt}
use Rattle.sessions.specs.Kept.{Kept}
use Rattle.sessions.specs.Machine.{Machine, at, next}
use Rattle.sessions.proofs.Breaks.{break_within, break_stays}
use Rattle.verdict_under.specs.Zeroed.{ZeroedUnder, readable, damaged}
use Rattle.verdict_under.specs.Summing.{new_in, count_on, zeros_from, zeros_of}
use Rattle.verdict_under.specs.Progress.{Progress, reached, closed, broken, closes, onward, reads, new_by, progress_of}
use Rattle.verdict_under.proofs.Meaning.{Means, progress_means}
use Rattle.verdict_under.proofs.Summing.{zeros_on, after_closed, break_zeros, zeros_found, zeros_is}

module _ {A H S : Type 0} (rules : Rules A H S) (count : Phase A H S → ℕ) where
  -- the number of what a tape reads as
  unfoldable pub zeros_in : Reading → ℕ
  zeros_in (entries es) = zeros_of rules count es
  zeros_in (unreadable place code) = 0

module _ {A H S : Type 0} {rules : Rules A H S} (kept : Kept rules) (count : Phase A H S → ℕ) where
  open rules use {opens}

  abbrev sum_of : List Entry → ℕ
  sum_of = zeros_of rules count

  abbrev Zeroed : List ℕ → ℕ → Type 0
  Zeroed = ZeroedUnder rules count

  -- ---- one entry further

  module _ (e : Entry) where
    -- an entry that the machine takes adds what its state says; any other nothing
    by_next : (σ : Machine A H S) (n : ℕ) (o : Option (Machine A H S))
        → count_on count (zeros_from rules count []) o ≡ new_by count (onward σ n e o)
    unfolding count_on zeros_from onward new_by
    by_next σ n (some τ) = add-zero (new_in count τ)
    by_next σ n none = picked (λ (m : Progress A H S). 0 ≡ new_by count m) (closes σ e) _ _ (λ y. refl) (λ f. refl)

    broken_on : (es : List Entry) (k : ℕ) → BreaksAt rules es k → sum_of (es ++ (e ∷ [])) ≡ sum_of es
    broken_on es k b =
        let inside = break_within kept es k b in
        break_zeros kept count (es ++ (e ∷ [])) k (break_stays kept es k (e ∷ []) b)
        ∙ (ap sum_of (take-append-le k es (e ∷ []) (omega arith)) ∙ sym (break_zeros kept count es k b))

    by_progress : (es : List Entry) (m : Progress A H S) → Means rules m es
        → sum_of (es ++ (e ∷ [])) ≡ sum_of es + new_by count (reads rules m e)
    unfolding Means reads zeros_from count_on new_by
    by_progress es (reached σ n) h =
        zeros_on rules count es (e ∷ []) (at opens) σ h.0 ∙ ap (λ (x : ℕ). sum_of es + x) (by_next σ n (next rules σ e))
    by_progress es (closed n) h = after_closed kept count es e [] h.0 ∙ sym (add-zero (sum_of es))
    by_progress es (broken k) h = broken_on es k h ∙ sym (add-zero (sum_of es))

  pub zeros_more : (es : List Entry) (e : Entry) → sum_of (es ++ (e ∷ [])) ≡ sum_of es + new_by count (reads rules (progress_of rules es) e)
  zeros_more es e = by_progress e es (progress_of rules es) (progress_means kept es)

  -- ---- the tape

  by_reading : (t : List ℕ) (r : Reading) → read_tape t ≡ r → Zeroed t (zeros_in rules count r)
  unfolding zeros_in
  by_reading t (entries es) h = readable es h (zeros_found kept count es)
  by_reading t (unreadable place code) h = damaged place code h refl

  pub zeroed_found : (t : List ℕ) → Zeroed t (zeros_in rules count (read_tape t))
  zeroed_found t = by_reading t (read_tape t) refl

  pub zeroed_right : (t : List ℕ) (n : ℕ) → n ≡ zeros_in rules count (read_tape t) → Zeroed t n
  zeroed_right t n e = subst (Zeroed t) (sym e) (zeroed_found t)

  right_zeroed : (t : List ℕ) (n : ℕ) → Zeroed t n → n ≡ zeros_in rules count (read_tape t)
  unfolding zeros_in
  right_zeroed t n (readable es h z) = zeros_is kept count es n z ∙ sym (ap (zeros_in rules count) h)
  right_zeroed t n (damaged place code h z) = z ∙ sym (ap (zeros_in rules count) h)

  -- a tape has one fourth number
  pub zeroed_once : (t : List ℕ) (n m : ℕ) → Zeroed t n → Zeroed t m → n ≡ m
  zeroed_once t n m a b = right_zeroed t n a ∙ sym (right_zeroed t m b)
