-- What the machine's progress says of the entries that were read, kept entry by entry; so that its conclusion is the verdict.
-- Assumes nothing.
use mathlib.Core.Path.{◌≡◌, refl, sym, ap, ap₂, ◌∙◌, subst}
use mathlib.Core.Bool.{Bool, true, false}
use mathlib.Core.List.{List, [], ◌∷◌, ◌++◌, append-nil, append_assoc}
use mathlib.Core.Logic.{inl, inr}
use mathlib.Core.Option.{Option, none, some}
use Prim.Native.Nat.{ℕ, ◌+◌}
use native.Mathlib.Omega.{arith}
use lib.Dec.{eqb}
use lib.ListN.{length, length-append}
use borrow.Author.Tests.{eqb-true}
use Rattle.slices.proofs.Choice.{picked, and_left, and_right}
use Rattle.numbers.specs.Tables.{silence}
use Rattle.tape_read.specs.Entries.{Entry, entry}
use Rattle.tape_read.specs.Tapes.{Reading, entries, unreadable, read_tape}
use Rattle.sessions.specs.Rules.{Rules}
use Rattle.sessions.specs.Session.{Closed, Open, Lawful, BreaksAt}
use Rattle.sessions.specs.Kept.{Kept}
use Rattle.sessions.specs.Machine.{Machine, at, owes, done, next, run}
use Rattle.sessions.proofs.Running.{run_session}
use Rattle.sessions.proofs.Sorting.{run_beginning}
use Rattle.sessions.proofs.Breaks.{after_closed, break_here, break_stays}
use Rattle.sessions.proofs.States.{state_lawful, silence_closes, state_next, refused_breaks}
use Rattle.verdict.specs.Saying.{says}
use Rattle.verdict_under.specs.Judged.{JudgesUnder, passes, undecided, fails, JudgedUnder, readable, damaged}
use Rattle.verdict.specs.declared.Verdict.TheVariants.{Pass, Inconclusive}
use Rattle.verdict.specs.declared.Ruling.{Ruling}
use Rattle.verdict_under.proofs.Once.{judged_once}
use Rattle.verdict_under.specs.Progress.{Progress, reached, closed, broken, begun, empty, closes, onward}
use Rattle.verdict_under.specs.Progress.{reads, reads_all, progress_of, concluded, finally, verdict_of}

-- what is known of the entries that were read
module _ {A H S : Type 0} (rules : Rules A H S) where
  unfoldable pub Means : Progress A H S → List Entry → Type 0
  Means (reached σ n) es = (run rules es (at rules.opens) ≡ some σ) × (n ≡ length es)
  Means (closed n) es = Closed rules es × (n ≡ length es)
  Means (broken k) es = BreaksAt rules es k

-- ---- one entry further

empty_is : (p : List ℕ) → empty p ≡ true → p ≡ []
unfolding empty
empty_is [] h = refl
empty_is (b ∷ p) h = absurd (let z : ◌≡◌ {A = ℕ} 0 1 = cc in omega arith)

module _ {A H S : Type 0} where
  -- an entry that closes is a silence without payload, after a command that is owed an answer
  pub closes_is : (σ : Machine A H S) (e : Entry) → closes σ e ≡ true → (w : A) × ((σ ≡ owes w) × (e ≡ entry silence []))
  unfolding closes
  closes_is (at p) e h = absurd (let z : ◌≡◌ {A = ℕ} 0 1 = cc in omega arith)
  closes_is done e h = absurd (let z : ◌≡◌ {A = ℕ} 0 1 = cc in omega arith)
  closes_is (owes w) e h =
      let kind = eqb-true e.kind silence (and_left (eqb e.kind silence) (empty e.payload) h) in
      let none_left = empty_is e.payload (and_right (eqb e.kind silence) (empty e.payload) h) in
      (w, (refl, ap₂ entry kind none_left))

  closes_silence : (σ : Machine A H S) (w : A) → σ ≡ owes w → closes σ (entry silence []) ≡ true
  unfolding closes empty
  closes_silence σ w there = ap (λ (x : Machine A H S). closes x (entry silence [])) there

module _ {A H S : Type 0} {rules : Rules A H S} (kept : Kept rules) where
  open rules use {opens}

  module _ (es : List Entry) (e : Entry) where
    abbrev longer : List Entry
    longer = es ++ (e ∷ [])

    one_more_lem : (n : ℕ) → n ≡ length es → n + 1 ≡ length longer
    one_more_lem n h = sym (length-append es (e ∷ []) ∙ ap (λ (k : ℕ). k + 1) (sym h))

    module _ (σ : Machine A H S) (n : ℕ) (read : run rules es (at opens) ≡ some σ) (count : n ≡ length es) where
      closed_here : closes σ e ≡ true → Means rules (closed (n + 1)) longer
      unfolding Means
      closed_here y =
          let c = closes_is σ e y in
          let owed : run rules es (at opens) ≡ some (owes c.0) = read ∙ ap some c.1.0 in (
            subst (λ (x : Entry). Closed rules (es ++ (x ∷ []))) (sym c.1.1) (silence_closes kept es c.0 owed),
            one_more_lem n count,
          )

      broken_here : next rules σ e ≡ none → closes σ e ≡ false → Means rules (broken n) longer
      unfolding Means
      broken_here h no-close =
          subst (BreaksAt rules longer) (sym count)
          (break_here kept es e [] (state_lawful kept es σ read)
          (refused_breaks kept es σ e read h
          (λ w there silent.
          let z : ◌≡◌ {A = Bool} true false = sym (closes_silence σ w there) ∙ (sym (ap (closes σ) silent) ∙ no-close) in
          let zero_one : ◌≡◌ {A = ℕ} 0 1 = cc in
          omega arith)))

      by_next : (o : Option (Machine A H S)) → next rules σ e ≡ o → Means rules (onward σ n e o) longer
      unfolding onward Means
      by_next (some τ) h = (state_next kept es σ e read τ h, one_more_lem n count)
      by_next none h = picked (λ (m : Progress A H S). Means rules m longer) (closes σ e) _ _ closed_here (broken_here h)

    pub means_next : (m : Progress A H S) → Means rules m es → Means rules (reads rules m e) longer
    unfolding reads Means Lawful Open
    means_next (reached σ n) h = by_next σ n h.0 h.1 (next rules σ e) refl
    means_next (closed n) h =
        subst (BreaksAt rules longer) (sym h.1)
        (break_here kept es e [] (inr (inr h.0)) (after_closed kept es e [] h.0))
    means_next (broken k) h = break_stays kept es k (e ∷ []) h

-- ---- all entries

module _ {A H S : Type 0} (rules : Rules A H S) where
  pub reads_append : (m : Progress A H S) (es fs : List Entry) → reads_all rules m (es ++ fs) ≡ reads_all rules (reads_all rules m es) fs
  unfolding reads_all
  reads_append m [] fs = refl
  reads_append m (e ∷ es) fs = reads_append (reads rules m e) es fs

  pub progress_more : (es : List Entry) (e : Entry) → progress_of rules (es ++ (e ∷ [])) ≡ reads rules (progress_of rules es) e
  unfolding reads_all
  progress_more es e = reads_append (begun rules) es (e ∷ [])

module _ {A H S : Type 0} {rules : Rules A H S} (kept : Kept rules) where
  means_all : (fs es : List Entry) (m : Progress A H S) → Means rules m es → Means rules (reads_all rules m fs) (es ++ fs)
  unfolding reads_all
  means_all [] es m h = subst (Means rules m) (sym (append-nil es)) h
  means_all (f ∷ fs) es m h =
      subst (Means rules (reads_all rules (reads rules m f) fs)) (append_assoc es (f ∷ []) fs)
      (means_all fs (es ++ (f ∷ [])) (reads rules m f) (means_next kept es f m h))

  pub progress_means : (es : List Entry) → Means rules (progress_of rules es) es
  unfolding Means run
  progress_means es = means_all es [] (begun rules) (refl, refl)

  -- ---- the verdict

  pub concluded_judges : (es : List Entry) (m : Progress A H S) → Means rules m es → JudgesUnder rules es (concluded m)
  unfolding Means concluded Open
  concluded_judges es (reached (at p) n) h =
      undecided (inl (run_beginning kept es (at p) h.0 (λ e. let z : ◌≡◌ {A = ℕ} 0 1 = cc in omega arith)))
      (ap (λ (k : ℕ). says Inconclusive k 0) h.1)
  concluded_judges es (reached (owes w) n) h =
      undecided (inl (run_beginning kept es (owes w) h.0 (λ e. let z : ◌≡◌ {A = ℕ} 0 1 = cc in omega arith)))
      (ap (λ (k : ℕ). says Inconclusive k 0) h.1)
  concluded_judges es (reached done n) h = passes (run_session rules es h.0) (ap (λ (k : ℕ). says Pass k 0) h.1)
  concluded_judges es (closed n) h = undecided (inr h.0) (ap (λ (k : ℕ). says Inconclusive k 0) h.1)
  concluded_judges es (broken k) h = fails k h refl

  pub progress_judges : (es : List Entry) → JudgesUnder rules es (concluded (progress_of rules es))
  progress_judges es = concluded_judges es (progress_of rules es) (progress_means es)

  of_reading : (t : List ℕ) (r : Reading) → read_tape t ≡ r → JudgedUnder rules t (finally rules (begun rules) r)
  unfolding finally
  of_reading t (entries es) h = readable es h (progress_judges es)
  of_reading t (unreadable place code) h = damaged place code h refl

  -- the machine finds the verdict of every tape
  pub verdict_judged : (t : List ℕ) → JudgedUnder rules t (verdict_of rules t)
  unfolding verdict_of
  verdict_judged t = of_reading t (read_tape t) refl

  -- so an answer is right exactly where it is the one that the machine finds
  pub verdict_right : (t : List ℕ) (a : Ruling) → a ≡ verdict_of rules t → JudgedUnder rules t a
  verdict_right t a e = subst (JudgedUnder rules t) (sym e) (verdict_judged t)

  pub right_verdict : (t : List ℕ) (a : Ruling) → JudgedUnder rules t a → a ≡ verdict_of rules t
  right_verdict t a j = judged_once kept j (verdict_judged t)
