-- Two editions over the same questions, words and situations that agree in each phase of a sort go alike there: such a phase stands for
-- itself.
-- Assumes nothing.
use mathlib.Core.Path.{◌≡◌, refl, ap, ◌∙◌, subst}
use Prim.Native.Nat.{ℕ}
use Rattle.sessions.specs.Rules.{Phase, asks, hears, decides, Rules}
use Rattle.verdict_editions.specs.Editions.{Alike, GoAlike, CountAlike, itself, Agree}

module _ {A H S : Type 0} (P : Phase A H S → Type 0) where
  pub itself_alike : (q : Phase A H S) → P q → Alike (itself P) q q
  itself_alike (asks w) h = (refl, h)
  itself_alike (hears x) h = (refl, h)
  itself_alike (decides outcome reason s) h = (refl, (refl, (refl, h)))

  pub agree_goes : {new old : Rules A H S} → Agree P new old → GoAlike (itself P) new old
  agree_goes {new} {old} agree =
      record {
        commands = λ w v h. agree.commands w h.1 ∙ ap old.command_of h.0;
        turns =
            λ w v a h.
            subst (λ (q : Phase A H S). Alike (itself P) (new.turn w a) q)
            (agree.turns w a h.1 ∙ ap (λ (x : A). old.turn x a) h.0)
            (itself_alike (new.turn w a) (agree.turned w a h.1));
        kinds = λ x i h. agree.kinds x h.1 ∙ ap old.due_kind h.0;
        allows = λ x i p h. agree.allows x p h.1 ∙ ap (λ (y : H). old.allowed y p) h.0;
        afters =
            λ x i p h.
            subst (λ (q : Phase A H S). Alike (itself P) (new.after x p) q)
            (agree.afters x p h.1 ∙ ap (λ (y : H). old.after y p) h.0)
            (itself_alike (new.after x p) (agree.heeded x p h.1));
        decisions =
            λ outcome reason s outcome' reason' t h.
            agree.decisions outcome reason s
            ∙ (ap (λ (n : ℕ). old.decision_of n reason s) h.0
            ∙ (ap (λ (n : ℕ). old.decision_of outcome' n s) h.1.0 ∙ ap (old.decision_of outcome' reason') h.1.1.0));
      }

  pub itself_counts : (c d : Phase A H S → ℕ) → ((q : Phase A H S) → P q → c q ≡ d q) → CountAlike (itself P) c d
  itself_counts c d same (asks w) (asks v) h = same (asks w) h.1 ∙ ap (λ (x : A). d (asks x)) h.0
  itself_counts c d same (asks w) (hears i) h = absurd h
  itself_counts c d same (asks w) (decides outcome reason t) h = absurd h
  itself_counts c d same (hears x) (asks v) h = absurd h
  itself_counts c d same (hears x) (hears i) h = same (hears x) h.1 ∙ ap (λ (y : H). d (hears y)) h.0
  itself_counts c d same (hears x) (decides outcome reason t) h = absurd h
  itself_counts c d same (decides outcome reason s) (asks v) h = absurd h
  itself_counts c d same (decides outcome reason s) (hears i) h = absurd h
  itself_counts c d same (decides outcome reason s) (decides outcome' reason' t) h =
      same (decides outcome reason s) h.1.1.1
      ∙ (ap (λ (n : ℕ). d (decides n reason s)) h.0
      ∙ (ap (λ (n : ℕ). d (decides outcome' n s)) h.1.0 ∙ ap (λ (x : S). d (decides outcome' reason' x)) h.1.1.0))
