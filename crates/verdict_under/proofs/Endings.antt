-- What a tape's last entries settle: a finished session with anything after it fails there, and since a session ends with its DECISION,
-- a tape that ends with another entry is never a pass.
-- Assumes nothing.
use mathlib.Core.Path.{◌≡◌, refl, subst}
use mathlib.Core.List.{List, [], ◌∷◌, ◌++◌}
use mathlib.Core.Logic.{inl, inr}
use Prim.Native.Nat.{ℕ}
use native.Mathlib.Omega.{arith}
use lib.ListN.{length}
use Rattle.numbers.specs.Tables.{command, silence, decision}
use Rattle.tape_read.specs.Entries.{Entry}
use Rattle.tape_read.specs.Tapes.{entries, read_tape}
use Rattle.sessions.specs.Rules.{Rules}
use Rattle.sessions.specs.Session.{Session, Closed, Open, Lawful}
use Rattle.sessions.specs.Kept.{Kept}
use Rattle.sessions.proofs.Breaks.{after_session, after_closed, break_here}
use Rattle.sessions.proofs.LastEntry.{last_is_decision}
use Rattle.verdict.specs.Saying.{says}
use Rattle.verdict_under.specs.Judged.{JudgesUnder, passes, undecided, fails, JudgedUnder, readable, damaged}
use Rattle.verdict.specs.declared.Verdict.TheVariants.{Pass, Fail}
use Rattle.verdict.specs.declared.Ruling.{Ruling}

module _ {A H S : Type 0} {rules : Rules A H S} (kept : Kept rules) where
  -- ---- one entry too many

  module _ (es : List Entry) (e : Entry) (more : List Entry) where
    -- whatever follows a lawful list that nothing may follow
    pub one_too_many : Lawful rules es → (Lawful rules (es ++ (e ∷ [])) → ⊥)
        → JudgesUnder rules (es ++ (e ∷ more)) (says Fail (length es) 0)
    one_too_many l never = fails (length es) (break_here kept es e more l never) refl

    -- after a DECISION
    pub after_decision : Session rules es → JudgesUnder rules (es ++ (e ∷ more)) (says Fail (length es) 0)
    unfolding Lawful
    after_decision s = one_too_many (inl s) (after_session kept es e [] s)

    -- after a closing silence, another silence too
    pub after_silence : Closed rules es → JudgesUnder rules (es ++ (e ∷ more)) (says Fail (length es) 0)
    unfolding Lawful Open
    after_silence c = one_too_many (inr (inr c)) (after_closed kept es e [] c)

  -- ---- the last entry

  module _ (t : List ℕ) (es : List Entry) (e : Entry) (r : read_tape t ≡ entries (es ++ (e ∷ []))) where
    -- a session ends with its DECISION, so a tape that ends with any other entry is no pass
    pub no_pass : (a : Ruling) → (e.kind ≡ decision → ⊥) → JudgedUnder rules t a → a.verdict ≡ Pass → ⊥
    no_pass a other (readable fs q (passes s v)) p =
        let same : fs ≡ es ++ (e ∷ []) = cc in
        other (last_is_decision rules es e (subst (Session rules) same s))
    no_pass a other (readable fs q (undecided o v)) p = let z : ◌≡◌ {A = ℕ} 0 1 = cc in omega arith
    no_pass a other (readable fs q (fails k b v)) p = let z : ◌≡◌ {A = ℕ} 0 1 = cc in omega arith
    no_pass a other (damaged place code q v) p = let z : ◌≡◌ {A = ℕ} 0 1 = cc in omega arith

    -- not one that ends after a COMMAND,
    pub command_last : (a : Ruling) → e.kind ≡ command → JudgedUnder rules t a → a.verdict ≡ Pass → ⊥
    command_last a k = no_pass a (λ d. omega arith)

    -- nor one that ends with a silence
    pub silence_last : (a : Ruling) → e.kind ≡ silence → JudgedUnder rules t a → a.verdict ≡ Pass → ⊥
    silence_last a k = no_pass a (λ d. omega arith)
