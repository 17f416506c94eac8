-- Where the rules are broken: whatever comes before the last entry of a lawful list is an unfinished beginning, so what is broken
-- stays broken however the list goes on, and the shortest broken beginning is found by trying each in turn.
-- Assumes nothing.
use mathlib.Core.Path.{◌≡◌, refl, sym, ap, ◌∙◌, subst}
use mathlib.Core.List.{List, [], ◌∷◌, ◌++◌, append-nil, append_assoc}
use mathlib.Core.Logic.{◌⊎◌, inl, inr, ⊎_elim}
use Prim.Native.Nat.{ℕ, zero, suc, ◌+◌, ◌≤◌, ◌<◌}
use native.Mathlib.Omega.{arith}
use lib.Dec.{ltb}
use lib.ListN.{length, take}
use lib.Seq.{split_at, take_all, take-length, take-append-le, take-append-add}
use borrow.Author.Tests.{ltb-true, ltb-false}
use Rattle.slices.proofs.Choice.{either}
use Rattle.numbers.specs.Tables.{answer}
use Rattle.tape_read.specs.Entries.{Entry, entry}
use Rattle.sessions.specs.Rules.{Rules}
use Rattle.sessions.specs.Session.{Session, Beginning, AwaitsCard, Closed, Open, Lawful, BreaksAt}
use Rattle.sessions.specs.Kept.{Kept}
use Rattle.sessions.specs.Stated.{Sort, finished, unfinished, neither}
use Rattle.sessions.specs.Machine.{at, run}
use Rattle.sessions.proofs.Lists.{snoc_same, Last, no_entry, last, last_of}
use Rattle.sessions.proofs.Reading.{not_both, not_begun}
use Rattle.sessions.proofs.Sorting.{run_beginning}
use Rattle.sessions.proofs.Trichotomy.{sorted}

module _ {A H S : Type 0} {rules : Rules A H S} (kept : Kept rules) where
  open rules use {opens, turn}

  -- ---- what comes before the last entry

  -- no entries are a beginning
  pub begins_empty : Beginning rules []
  unfolding run
  begins_empty = run_beginning kept [] (at opens) refl (λ e. let z : ◌≡◌ {A = ℕ} 0 1 = cc in omega arith)

  awaits_begins : (es : List Entry) → AwaitsCard rules es → Beginning rules es
  unfolding AwaitsCard Beginning
  awaits_begins es a = (entry answer a.0, a.1)

  pub begins_shorter : (es rest : List Entry) → Beginning rules (es ++ rest) → Beginning rules es
  unfolding Beginning
  begins_shorter es [] b = subst (Beginning rules) (append-nil es) b
  begins_shorter es (e ∷ rest) b =
      let more = b.0 ∷ b.1.0 in
      (e, (rest ++ more, subst (Session rules) (append_assoc es (e ∷ rest) more) b.1.1))

  pub closed_shorter : (es : List Entry) (e : Entry) (rest : List Entry) → Closed rules (es ++ (e ∷ rest)) → Beginning rules es
  unfolding Closed
  closed_shorter es e rest c = by_last (last_of (e ∷ rest))
    where
      by_last : Last (e ∷ rest) → Beginning rules es
      by_last (no_entry h) = absurd (let z : ◌≡◌ {A = ℕ} 0 1 = cc in omega arith)
      by_last (last before x h) =
          let joined = append_assoc es before (x ∷ []) ∙ (ap (λ (l : List Entry). es ++ l) (sym h) ∙ c.1.1) in
          let same : es ++ before ≡ c.0 = (snoc_same (es ++ before) c.0 x _ joined).0 in
          begins_shorter es before (subst (Beginning rules) (sym same) (awaits_begins c.0 c.1.0))

  -- whatever a lawful list begins with is unfinished
  pub lawful_shorter : (es : List Entry) (e : Entry) (rest : List Entry) → Lawful rules (es ++ (e ∷ rest)) → Beginning rules es
  unfolding Lawful Open Beginning
  lawful_shorter es e rest l = ⊎_elim (λ s. (e, (rest, s))) (λ o. ⊎_elim (begins_shorter es (e ∷ rest)) (closed_shorter es e rest) o) l

  begins_lawful : (es : List Entry) → Beginning rules es → Lawful rules es
  unfolding Lawful Open
  begins_lawful es b = inr (inl b)

  -- the same by the number of entries taken
  pub part_begins : (es : List Entry) (n : ℕ) → n < length es → Lawful rules es → Beginning rules (take n es)
  part_begins es n h l = lawful_shorter (take n es) _ _ (subst (Lawful rules) (split_at es n (entry 0 []) h) l)

  pub session_part : (es : List Entry) (n : ℕ) → n < length es → Session rules es → Beginning rules (take n es)
  unfolding Lawful
  session_part es n h s = part_begins es n h (inl s)

  pub lawful_part : (es : List Entry) (n : ℕ) → Lawful rules es → Lawful rules (take n es)
  lawful_part es n l =
      either (ltb n (length es)) (λ y. begins_lawful (take n es) (part_begins es n (ltb-true n (length es) y) l))
      (λ f. subst (Lawful rules) (sym (take_all n es (ltb-false n (length es) f))) l)

  -- what is broken stays broken, however it goes on
  pub broken_longer : (es rest : List Entry) → (Lawful rules es → ⊥) → Lawful rules (es ++ rest) → ⊥
  broken_longer es [] never l = never (subst (Lawful rules) (append-nil es) l)
  broken_longer es (e ∷ rest) never l = never (begins_lawful es (lawful_shorter es e rest l))

  -- nothing follows a decision or a closing silence
  pub after_session : (es : List Entry) (e : Entry) (rest : List Entry) → Session rules es → Lawful rules (es ++ (e ∷ rest)) → ⊥
  after_session es e rest s l = not_both rules es s (lawful_shorter es e rest l)

  pub after_closed : (es : List Entry) (e : Entry) (rest : List Entry) → Closed rules es → Lawful rules (es ++ (e ∷ rest)) → ⊥
  after_closed es e rest c l = not_begun kept es (lawful_shorter es e rest l) c

  -- ---- the place of the break

  module _ (es : List Entry) where
    -- a list has one place at most
    pub one_break : (k m : ℕ) → BreaksAt rules es k → BreaksAt rules es m → k ≡ m
    one_break k m a b =
        either (ltb k m) (λ y. absurd (a.broken (b.before (k + 1) (omega (arith, ltb-true k m y)))))
        (λ n.
        either (ltb m k) (λ y. absurd (b.broken (a.before (m + 1) (omega (arith, ltb-true m k y)))))
        (λ f. omega (arith, ltb-false k m n, ltb-false m k f)))

    -- it lies in the list
    pub break_within : (k : ℕ) → BreaksAt rules es k → k < length es
    break_within k b =
        either (ltb k (length es)) (ltb-true k (length es))
        (λ f.
        let past : length es ≤ k = ltb-false k (length es) f in
        let same : take k es ≡ take (k + 1) es = take_all k es past ∙ sym (take_all (k + 1) es (omega arith)) in
        absurd (b.broken (subst (Lawful rules) same (b.before k (omega arith)))))

    -- only lists that are neither finished nor open have one
    pub break_unlawful : (k : ℕ) → BreaksAt rules es k → Lawful rules es → ⊥
    break_unlawful k b l = b.broken (lawful_part es (k + 1) l)

    -- and it stays where it is, however the list goes on
    pub break_stays : (k : ℕ) (more : List Entry) → BreaksAt rules es k → BreaksAt rules (es ++ more) k
    break_stays k more b =
        let inside = break_within k b in
        record {
          before = λ n h. subst (Lawful rules) (sym (take-append-le n es more (omega arith))) (b.before n h);
          broken = λ l. b.broken (subst (Lawful rules) (take-append-le (k + 1) es more (omega arith)) l);
        }

    -- the first entry that breaks a lawful list
    pub break_here : (e : Entry) (more : List Entry) → Lawful rules es → (Lawful rules (es ++ (e ∷ [])) → ⊥)
        → BreaksAt rules (es ++ (e ∷ more)) (length es)
    break_here e more l never =
        record {
          before = λ n h. subst (Lawful rules) (sym (take-append-le n es (e ∷ more) h)) (lawful_part es n l);
          broken = λ k. never (subst (Lawful rules) (take-append-add es (e ∷ more) 1) k);
        }

    abbrev AllLawful : ℕ → Type 0
    AllLawful k = (n : ℕ) → n ≤ k → Lawful rules (take n es)

    one_more_lem : (k : ℕ) → AllLawful k → Lawful rules (take (k + 1) es) → AllLawful (suc k)
    one_more_lem k all l n h =
        either (ltb k n)
        (λ y. let e : k + 1 ≡ n = omega (arith, ltb-true k n y) in subst (λ (m : ℕ). Lawful rules (take m es)) e l)
        (λ f. all n (ltb-false k n f))

    -- each beginning in turn, up to the first that is broken
    tried : (k : ℕ) → AllLawful k → Sort rules (take (k + 1) es) → AllLawful (suc k) ⊎ ((j : ℕ) × BreaksAt rules es j)
    unfolding Lawful
    tried k all (finished s) = inl (one_more_lem k all (inl s))
    tried k all (unfinished o) = inl (one_more_lem k all (inr o))
    tried k all (neither s o) = inr (k, record { before = all; broken = λ l. ⊎_elim s o l })

    up_to : (k : ℕ) → AllLawful k ⊎ ((j : ℕ) × BreaksAt rules es j)
    up_to zero =
        inl (λ n h. let e : 0 ≡ n = omega arith in subst (λ (m : ℕ). Lawful rules (take m es)) e (begins_lawful [] begins_empty))
    up_to (suc k) = ⊎_elim (λ all. tried k all (sorted kept (take (k + 1) es))) (λ found. inr found) (up_to k)

    -- and every such list has one
    pub break_found : (Lawful rules es → ⊥) → (k : ℕ) × BreaksAt rules es k
    break_found never =
        ⊎_elim (λ all. absurd (never (subst (Lawful rules) (take-length es) (all (length es) (omega arith)))))
        (λ found. found) (up_to (length es))
