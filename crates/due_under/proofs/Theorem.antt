-- What is due, as Theorem of specs/ states it: each field is a law of the files beside this one, or follows from them and from where the
-- rulebook says that the rules are broken.
-- Assumes nothing.
use mathlib.Core.Path.{◌≡◌, refl, sym, ap, subst}
use mathlib.Core.List.{List, ◌∷◌, ◌++◌}
use Prim.Native.Nat.{ℕ}
use lib.ListN.{length}
use lib.Seq.{take-append-add}
use Rattle.numbers.specs.Tables.{command, decision}
use Rattle.tape_read.specs.Entries.{Entry, entry}
use Rattle.sessions.specs.Rules.{Phase, hears, Rules}
use Rattle.sessions.specs.Session.{Lawful, BreaksAt}
use Rattle.sessions.specs.Kept.{Kept}
use Rattle.sessions.specs.Machine.{at, run}
use Rattle.sessions.proofs.Reading.{not_both, not_begun}
use Rattle.sessions.proofs.Breaks.{break_here}
use Rattle.due_under.specs.Due.{Due, asking, deciding, Fits}
use Rattle.due_under.specs.After.{due_at, due_in, due_after}
use Rattle.due_under.specs.Theorem.{OnlyOne, MayFollow}
use Rattle.due_under.proofs.After.{found, only, none_due}
use Rattle.due_under.proofs.Following.{may_fits, fits_follows, something}

module _ {A H S : Type 0} {rules : Rules A H S} (kept : Kept rules) where
  open rules use {opens}

  -- where one entry fits, it may follow and no other
  only_one : (es : List Entry) (e : Entry) (d : Due H) → due_after rules es ≡ d → Fits rules d e
      → ((f : Entry) → Fits rules d f → f ≡ e) → OnlyOne rules es e
  only_one es e d h fit one =
      record {
        may = fits_follows kept es e (subst (λ (x : Due H). Fits rules x e) (sym h) fit);
        no_other = λ f l. one f (subst (λ (x : Due H). Fits rules x f) h (may_fits kept es f l));
      }

  one_command : (es : List Entry) (c : List ℕ) → due_after rules es ≡ asking c → OnlyOne rules es (entry command c)
  unfolding Fits
  one_command es c h = only_one es (entry command c) (asking c) h refl (λ f e. e)

  one_decision : (es : List Entry) (d : List ℕ) → due_after rules es ≡ deciding d → OnlyOne rules es (entry decision d)
  unfolding Fits
  one_decision es d h = only_one es (entry decision d) (deciding d) h refl (λ f e. e)

  broken_unfit : (es : List Entry) (e : Entry) (more : List Entry) → BreaksAt rules (es ++ (e ∷ more)) (length es)
      → Fits rules (due_after rules es) e → ⊥
  broken_unfit es e more b f = b.broken (subst (Lawful rules) (sym (take-append-add es (e ∷ more) 1)) (fits_follows kept es e f))

  pub may_follow : (start : H) → opens ≡ hears start → MayFollow rules start
  unfolding due_after due_in due_at run
  may_follow start word =
      record {
        opening = ap (λ (p : Phase A H S). due_at rules (at p)) word;
        due = found kept;
        one_due = only kept;
        fits = may_fits kept;
        follows = fits_follows kept;
        something = something kept;
        after_session = λ es s. none_due kept es (not_both rules es s);
        after_silence = λ es c. none_due kept es (λ b. not_begun kept es b c);
        one_command = one_command;
        one_decision = one_decision;
        breaks = broken_unfit;
        first_unfit = λ es e more l never. break_here kept es e more l (λ k. never (may_fits kept es e k));
      }
