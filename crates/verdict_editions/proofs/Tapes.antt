-- Where two editions go alike from the first entry on, a tape that begins so is judged alike by both, and the number beside the verdict is
-- the same: both are said of its entries with what Sessions shows to be the same.
-- Assumes nothing.
use mathlib.Core.Path.{sym, ap, ◌∙◌, subst}
use mathlib.Core.List.{List, [], ◌∷◌}
use Prim.Native.Nat.{ℕ}
use lib.ListN.{length, take}
use Rattle.tape_read.specs.Entries.{Entry}
use Rattle.sessions.specs.Rules.{Phase, Rules}
use Rattle.sessions.specs.Session.{Session}
use Rattle.verdict_under.specs.Counted.{sum, Summed, SummedClosed, SumOf, Counts, lawful, broken}
use Rattle.verdict.specs.declared.Ruling.{Ruling}
use Rattle.verdict_under.specs.Judged.{JudgesUnder, passes, undecided, fails, JudgedUnder, readable, damaged}
use Rattle.verdict_under.specs.Zeroed.{ZeroedUnder, readable as counted, damaged as uncounted}
use Rattle.verdict_editions.specs.Editions.{Same, First, FirstOf, Pairing, GoAlike, OpenAlike, CountAlike, Some}
use Rattle.verdict_editions.proofs.Playing.{around, counts_around, goes_around, opens_around, session_over}
use Rattle.verdict_editions.proofs.Sessions.{first_front, first_longer, first_part, either_same, session_same, some_old}
use Rattle.verdict_editions.proofs.Sessions.{awaits_same, open_same, breaks_same}

-- ---- the verdict, one way

-- what is the same of entries that begin so
module _ {A H S B I T : Type 0} (pairing : Pairing A H S B I T) {new : Rules A H S} {old : Rules B I T} (goes : GoAlike pairing new old)
    {Q : List ℕ → Type 0} (opens : OpenAlike pairing new old Q) (some : Some new Q) where
  judges_over : (es : List Entry) (a : Ruling) → First Q es → Same (JudgesUnder new es a) (JudgesUnder old es a)
  judges_over es a first = (over, back)
    where
      over : JudgesUnder new es a → JudgesUnder old es a
      over (passes s e) = passes ((session_same pairing goes opens es first).0 s) e
      over (undecided o e) = undecided ((open_same pairing goes opens some es first).0 o) e
      over (fails k b e) = fails k ((breaks_same pairing goes opens some es k first).0 b) e

      back : JudgesUnder old es a → JudgesUnder new es a
      back (passes s e) = passes ((session_same pairing goes opens es first).1 s) e
      back (undecided o e) = undecided ((open_same pairing goes opens some es first).1 o) e
      back (fails k b e) = fails k ((breaks_same pairing goes opens some es k first).1 b) e

  -- a tape whose first entry is such is judged alike by both
  pub judged_same : (t : List ℕ) (a : Ruling) → FirstOf Q t → Same (JudgedUnder new t a) (JudgedUnder old t a)
  unfolding FirstOf
  judged_same t a first = (over, back)
    where
      over : JudgedUnder new t a → JudgedUnder old t a
      over (readable es e j) = readable es e ((judges_over es a (first es e)).0 j)
      over (damaged place code e same) = damaged place code e same

      back : JudgedUnder old t a → JudgedUnder new t a
      back (readable es e j) = readable es e ((judges_over es a (first es e)).1 j)
      back (damaged place code e same) = damaged place code e same

  -- ---- the number beside it

  module _ (c : Phase A H S → ℕ) (d : Phase B I T → ℕ) (counts : CountAlike pairing c d) where
    -- with no entry nothing is counted
    summed_same : (es : List Entry) (n : ℕ) → First Q es → Same (Summed new c es n) (Summed old d es n)
    unfolding Summed sum Session
    summed_same [] n first = (λ s. (some.0, (some_old pairing goes opens some, s.1.1)), λ s. (some.0, (some.1.1, s.1.1)))
    summed_same (x ∷ es) n first = (
      λ s.
          let there = session_over pairing goes c d counts opens s.1.0 (first_longer Q x es s.0 first) in
          (s.0, (there.0, s.1.1 ∙ ap (λ (ns : List ℕ). sum (take (length (x ∷ es)) ns)) (sym there.1))),
      λ s.
          let there =
          session_over (around pairing) (goes_around pairing goes) d c (counts_around pairing c d counts) (opens_around pairing opens)
          s.1.0 (first_longer Q x es s.0 first) in
          (s.0, (there.0, s.1.1 ∙ ap (λ (ns : List ℕ). sum (take (length (x ∷ es)) ns)) (sym there.1))),
    )

    closed_sum_same : (es : List Entry) (n : ℕ) → First Q es → Same (SummedClosed new c es n) (SummedClosed old d es n)
    unfolding SummedClosed
    closed_sum_same es n first = (
      λ x.
          let front = first_front Q x.0 _ (subst (First Q) x.1.1.1 first) in
          let awaits = (awaits_same pairing goes opens some x.0 front).0 x.1.1.0 in
          (x.0, ((summed_same x.0 n front).0 x.1.0, (awaits, x.1.1.1))),
      λ x.
          let front = first_front Q x.0 _ (subst (First Q) x.1.1.1 first) in
          let awaits = (awaits_same pairing goes opens some x.0 front).1 x.1.1.0 in
          (x.0, ((summed_same x.0 n front).1 x.1.0, (awaits, x.1.1.1))),
    )

    sum_same : (es : List Entry) (n : ℕ) → First Q es → Same (SumOf new c es n) (SumOf old d es n)
    unfolding SumOf
    sum_same es n first = either_same (summed_same es n first) (closed_sum_same es n first)

    counts_same : (es : List Entry) (n : ℕ) → First Q es → Same (Counts new c es n) (Counts old d es n)
    counts_same es n first = (over, back)
      where
        over : Counts new c es n → Counts old d es n
        over (lawful s) = lawful ((sum_same es n first).0 s)
        over (broken k b s) =
            broken k ((breaks_same pairing goes opens some es k first).0 b) ((sum_same (take k es) n (first_part Q k es first)).0 s)

        back : Counts old d es n → Counts new c es n
        back (lawful s) = lawful ((sum_same es n first).1 s)
        back (broken k b s) =
            broken k ((breaks_same pairing goes opens some es k first).1 b) ((sum_same (take k es) n (first_part Q k es first)).1 s)

    -- and its number is the same
    pub zeroed_same : (t : List ℕ) (n : ℕ) → FirstOf Q t → Same (ZeroedUnder new c t n) (ZeroedUnder old d t n)
    unfolding FirstOf
    zeroed_same t n first = (over, back)
      where
        over : ZeroedUnder new c t n → ZeroedUnder old d t n
        over (counted es e z) = counted es e ((counts_same es n (first es e)).0 z)
        over (uncounted place code e same) = uncounted place code e same

        back : ZeroedUnder old d t n → ZeroedUnder new c t n
        back (counted es e z) = counted es e ((counts_same es n (first es e)).1 z)
        back (uncounted place code e same) = uncounted place code e same
