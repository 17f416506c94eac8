-- Demand 3 in one theorem, from the verdict to the entries and back: a readable tape has one verdict, each verdict is defined by what the
-- entries are, and these leave nothing out.
-- Assumes nothing.
use mathlib.Core.Path.{◌≡◌, refl, sym, ap, subst}
use mathlib.Core.List.{List}
use Prim.Native.Nat.{ℕ}
use native.Mathlib.Omega.{arith}
use Rattle.tape_read.specs.Entries.{Entry}
use Rattle.tape_read.specs.Tapes.{entries, unreadable, read_tape}
use Rattle.sessions.specs.Rules.{Rules}
use Rattle.sessions.specs.Session.{Session, Open, BreaksAt}
use Rattle.sessions.specs.Kept.{Kept}
use Rattle.verdict.specs.Saying.{says}
use Rattle.verdict_under.specs.Exactly.{Exactly}
use Rattle.verdict_under.specs.Judged.{JudgesUnder, passes, undecided, fails, JudgedUnder, readable, damaged}
use Rattle.verdict.specs.declared.Verdict.TheVariants.{Pass, Fail, Inconclusive, Unreadable}
use Rattle.verdict.specs.declared.Ruling.{Ruling}
use Rattle.verdict_under.proofs.Once.{judges_once, judged_once}

module _ {A H S : Type 0} {rules : Rules A H S} (kept : Kept rules) where
  module _ (es : List Entry) (a : Ruling) where
    is_session : JudgesUnder rules es a → a.verdict ≡ Pass → Session rules es
    is_session (passes s e) v = s
    is_session (undecided o e) v = absurd (let z : ◌≡◌ {A = ℕ} 0 1 = cc in omega arith)
    is_session (fails k b e) v = absurd (let z : ◌≡◌ {A = ℕ} 0 1 = cc in omega arith)

    is_open : JudgesUnder rules es a → a.verdict ≡ Inconclusive → Open rules es
    is_open (passes s e) v = absurd (let z : ◌≡◌ {A = ℕ} 0 1 = cc in omega arith)
    is_open (undecided o e) v = o
    is_open (fails k b e) v = absurd (let z : ◌≡◌ {A = ℕ} 0 1 = cc in omega arith)

    breaks_there : JudgesUnder rules es a → a.verdict ≡ Fail → BreaksAt rules es a.place
    breaks_there (passes s e) v = absurd (let z : ◌≡◌ {A = ℕ} 0 1 = cc in omega arith)
    breaks_there (undecided o e) v = absurd (let z : ◌≡◌ {A = ℕ} 0 1 = cc in omega arith)
    breaks_there (fails k b e) v = subst (BreaksAt rules es) (sym (ap (λ (x : Ruling). x.place) e)) b

    is_read : JudgesUnder rules es a → a.verdict ≡ Unreadable → ⊥
    is_read (passes s e) v = let z : ◌≡◌ {A = ℕ} 0 1 = cc in omega arith
    is_read (undecided o e) v = let z : ◌≡◌ {A = ℕ} 0 1 = cc in omega arith
    is_read (fails k b e) v = let z : ◌≡◌ {A = ℕ} 0 1 = cc in omega arith

    no_code : JudgesUnder rules es a → a.code ≡ 0
    no_code (passes s e) = ap (λ (x : Ruling). x.code) e
    no_code (undecided o e) = ap (λ (x : Ruling). x.code) e
    no_code (fails k b e) = ap (λ (x : Ruling). x.code) e

    otherwise : JudgesUnder rules es a → (Session rules es → ⊥) → (Open rules es → ⊥) → a.verdict ≡ Fail
    otherwise (passes s e) not_session not_open = absurd (not_session s)
    otherwise (undecided o e) not_session not_open = absurd (not_open o)
    otherwise (fails k b e) not_session not_open = ap (λ (x : Ruling). x.verdict) e

    judges_exactly : JudgesUnder rules es a → Exactly rules es a
    judges_exactly j =
        record {
          pass = is_session j;
          passed = λ s. judges_once kept j (passes s refl);
          inconclusive = is_open j;
          left_open = λ o. judges_once kept j (undecided o refl);
          fail = breaks_there j;
          failed = otherwise j;
          read = is_read j;
          code = no_code j;
        }

  -- demand 3, for every readable tape
  pub readable_exactly : (t : List ℕ) (es : List Entry) (a : Ruling) → read_tape t ≡ entries es → JudgedUnder rules t a → Exactly rules es a
  readable_exactly t es a r (readable fs q j) =
      let same : fs ≡ es = cc in
      subst (λ (l : List Entry). Exactly rules l a) same (judges_exactly fs a j)
  readable_exactly t es a r (damaged place code q e) = absurd (let z : ◌≡◌ {A = ℕ} 0 1 = cc in omega arith)

  -- and for every other: its place and code
  pub unreadable_exactly : (t : List ℕ) (place code : ℕ) (a : Ruling) → read_tape t ≡ unreadable place code → JudgedUnder rules t a
      → a ≡ says Unreadable place code
  unreadable_exactly t place code a r j = judged_once kept j (damaged place code r refl)
