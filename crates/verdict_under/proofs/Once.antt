-- A tape has exactly one verdict: what any bytes read as is a function of them, each list of entries is one of session, open and
-- neither, and one that is neither has one place where the rules are first broken.
-- Assumes nothing.
use mathlib.Core.Path.{◌≡◌, refl, sym, ap, ◌∙◌, subst}
use mathlib.Core.List.{List}
use mathlib.Core.Logic.{inl, inr, ⊎_elim}
use Prim.Native.Nat.{ℕ}
use native.Mathlib.Omega.{arith}
use Rattle.tape_read.specs.Entries.{Entry}
use Rattle.tape_read.specs.Tapes.{Reading, entries, unreadable, read_tape}
use Rattle.sessions.specs.Rules.{Rules}
use Rattle.sessions.specs.Session.{Lawful}
use Rattle.sessions.specs.Kept.{Kept}
use Rattle.sessions.specs.Stated.{Sort, finished, unfinished, neither}
use Rattle.sessions.proofs.Trichotomy.{sorted, one_sort}
use Rattle.sessions.proofs.Breaks.{one_break, break_unlawful, break_found}
use Rattle.verdict.specs.Saying.{says}
use Rattle.verdict.specs.declared.Verdict.TheVariants.{Fail}
use Rattle.verdict.specs.declared.Ruling.{Ruling}
use Rattle.verdict_under.specs.Judged.{JudgesUnder, passes, undecided, fails, JudgedUnder, readable, damaged}

module _ {A H S : Type 0} {rules : Rules A H S} (kept : Kept rules) where
  -- ---- at most one

  judges_same : (es : List Entry) (a b : Ruling) → JudgesUnder rules es a → JudgesUnder rules es b → a ≡ b
  unfolding Lawful
  judges_same es a b (passes s e) (passes r f) = e ∙ sym f
  judges_same es a b (passes s e) (undecided o f) = absurd (one_sort kept es s o)
  judges_same es a b (passes s e) (fails k x f) = absurd (break_unlawful kept es k x (inl s))
  judges_same es a b (undecided o e) (passes s f) = absurd (one_sort kept es s o)
  judges_same es a b (undecided o e) (undecided r f) = e ∙ sym f
  judges_same es a b (undecided o e) (fails k x f) = absurd (break_unlawful kept es k x (inr o))
  judges_same es a b (fails k x e) (passes s f) = absurd (break_unlawful kept es k x (inl s))
  judges_same es a b (fails k x e) (undecided o f) = absurd (break_unlawful kept es k x (inr o))
  judges_same es a b (fails k x e) (fails m y f) = e ∙ (ap (λ (n : ℕ). says Fail n 0) (one_break kept es k m x y) ∙ sym f)

  judged_same : (t : List ℕ) (a b : Ruling) → JudgedUnder rules t a → JudgedUnder rules t b → a ≡ b
  judged_same t a b (readable es r j) (readable fs q k) =
      let same : fs ≡ es = cc in
      judges_same es a b j (subst (λ (l : List Entry). JudgesUnder rules l b) same k)
  judged_same t a b (readable es r j) (damaged place code q f) = absurd (let z : ◌≡◌ {A = ℕ} 0 1 = cc in omega arith)
  judged_same t a b (damaged place code r e) (readable fs q k) = absurd (let z : ◌≡◌ {A = ℕ} 0 1 = cc in omega arith)
  judged_same t a b (damaged place code r e) (damaged other number q f) = cc

  pub judges_once : {es : List Entry} {a b : Ruling} → JudgesUnder rules es a → JudgesUnder rules es b → a ≡ b
  judges_once {es} {a} {b} j k = judges_same es a b j k

  pub judged_once : {t : List ℕ} {v w : Ruling} → JudgedUnder rules t v → JudgedUnder rules t w → v ≡ w
  judged_once {t} {v} {w} j k = judged_same t v w j k

  -- ---- at least one

  of_sort : (es : List Entry) → Sort rules es → (a : Ruling) × JudgesUnder rules es a
  unfolding Lawful
  of_sort es (finished s) = (_, passes s refl)
  of_sort es (unfinished o) = (_, undecided o refl)
  of_sort es (neither s o) = let f = break_found kept es (⊎_elim s o) in (_, fails f.0 f.1 refl)

  pub judges_some : (es : List Entry) → (a : Ruling) × JudgesUnder rules es a
  judges_some es = of_sort es (sorted kept es)

  of_reading : (t : List ℕ) (r : Reading) → read_tape t ≡ r → (a : Ruling) × JudgedUnder rules t a
  of_reading t (entries es) h = let j = judges_some es in (j.0, readable es h j.1)
  of_reading t (unreadable place code) h = (_, damaged place code h refl)

  -- every byte string has one
  pub judged_some : (t : List ℕ) → (v : Ruling) × JudgedUnder rules t v
  judged_some t = of_reading t (read_tape t) refl
