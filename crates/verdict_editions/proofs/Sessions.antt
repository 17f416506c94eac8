-- Where two editions go alike from the first entry on, entries that begin so are finished, open, or broken at a place by the one exactly
-- where they are by the other: each of these is said with sessions that begin with the same entry. Where there is no entry both have a
-- session to come.
-- Assumes nothing.
use mathlib.Core.Path.{◌≡◌, refl, sym, ◌∙◌, subst}
use mathlib.Core.Bool.{false≢true}
use mathlib.Core.List.{List, [], ◌∷◌, ◌++◌}
use mathlib.Core.Logic.{◌⊎◌, inl, inr, ⊎_elim}
use Prim.Native.Nat.{ℕ, zero, suc, ◌+◌}
use lib.ListN.{take}
use borrow.Author.Tests.{eq-eqb}
use Rattle.numbers.specs.Tables.{answer}
use Rattle.tape_read.specs.Entries.{Entry, entry}
use Rattle.sessions.specs.Rules.{Phase, hears, Rules}
use Rattle.sessions.specs.Session.{Plays, heard, Session, Beginning, AwaitsCard, Closed, Open, Lawful, BreaksAt}
use Rattle.sessions.specs.Kept.{OtherKind}
use Rattle.sessions.proofs.Running.{no_play}
use Rattle.verdict_editions.specs.Editions.{Same, First, Pairing, GoAlike, OpenAlike, Some}
use Rattle.verdict_editions.proofs.Playing.{around, goes_around, opens_around, session_over}

-- ---- the first entry of a list

module _ (Q : List ℕ → Type 0) where
  pub first_front : (es more : List Entry) → First Q (es ++ more) → First Q es
  unfolding First
  first_front [] more h = tt
  first_front (e ∷ es) more h = h

  pub first_longer : (e : Entry) (es more : List Entry) → First Q (e ∷ es) → First Q ((e ∷ es) ++ more)
  unfolding First
  first_longer e es more h = h

  pub first_part : (n : ℕ) (es : List Entry) → First Q es → First Q (take n es)
  unfolding First
  first_part zero es h = tt
  first_part (suc n) [] h = tt
  first_part (suc n) (e ∷ es) h = h

-- ---- no entries

module _ {A H S : Type 0} (rules : Rules A H S) where
  -- where there is a session they are an unfinished beginning,
  nothing_yet : (es : List Entry) → Session rules es → Beginning rules []
  unfolding Session Beginning
  nothing_yet [] play = absurd (no_play rules play refl)
  nothing_yet (e ∷ es) play = (e, (es, play))

  -- and no session begins with an answer
  not_answer : (x : H) → rules.opens ≡ hears x → OtherKind (rules.due_kind x) → (a : List ℕ) (es : List Entry)
      → Session rules (entry answer a ∷ es) → ⊥
  unfolding Session
  not_answer x opens other a es play =
      by_word (subst (λ (q : Phase A H S). Plays rules q (entry answer a ∷ es)) opens play)
    where
      by_word : Plays rules (hears x) (entry answer a ∷ es) → ⊥
      by_word (heard f fits ok play) = false≢true (sym other.no_answer ∙ eq-eqb answer (rules.due_kind x) f)

-- ---- any entries

pub either_same : {X Y Z W : Type 0} → Same X Z → Same Y W → Same (X ⊎ Y) (Z ⊎ W)
either_same f g = (λ e. ⊎_elim (λ a. inl (f.0 a)) (λ b. inr (g.0 b)) e, λ e. ⊎_elim (λ c. inl (f.1 c)) (λ d. inr (g.1 d)) e)

module _ {A H S B I T : Type 0} (pairing : Pairing A H S B I T) {new : Rules A H S} {old : Rules B I T} (goes : GoAlike pairing new old)
    {Q : List ℕ → Type 0} (opens : OpenAlike pairing new old Q) where
  -- finished
  pub session_same : (es : List Entry) → First Q es → Same (Session new es) (Session old es)
  unfolding Session
  session_same es first = (
    λ play. (session_over pairing goes (λ q. 0) (λ q. 0) (λ q q' h. refl) opens play first).0,
    λ play.
        (session_over (around pairing) (goes_around pairing goes) (λ q. 0) (λ q. 0) (λ q q' h. refl)
        (opens_around pairing opens) play first).0,
  )

  module _ (some : Some new Q) where
    pub some_old : Session old some.0
    some_old = (session_same some.0 some.1.0).0 some.1.1

    -- unfinished
    pub beginning_same : (es : List Entry) → First Q es → Same (Beginning new es) (Beginning old es)
    unfolding Beginning
    beginning_same [] first = (λ b. nothing_yet old some.0 some_old, λ b. nothing_yet new some.0 some.1.1)
    beginning_same (x ∷ es) first = (
      λ b. (b.0, (b.1.0, (session_same _ (first_longer Q x es (b.0 ∷ b.1.0) first)).0 b.1.1)),
      λ b. (b.0, (b.1.0, (session_same _ (first_longer Q x es (b.0 ∷ b.1.0) first)).1 b.1.1)),
    )

    pub awaits_same : (es : List Entry) → First Q es → Same (AwaitsCard new es) (AwaitsCard old es)
    unfolding AwaitsCard
    awaits_same [] first = (
      λ a. absurd (not_answer new opens.now opens.new_opens opens.other a.0 a.1.0 a.1.1),
      λ a.
          absurd (not_answer old opens.then opens.old_opens (subst OtherKind opens.kind opens.other) a.0
          a.1.0 a.1.1),
    )
    awaits_same (x ∷ es) first = (
      λ a. (a.0, (a.1.0, (session_same _ (first_longer Q x es (entry answer a.0 ∷ a.1.0) first)).0 a.1.1)),
      λ a. (a.0, (a.1.0, (session_same _ (first_longer Q x es (entry answer a.0 ∷ a.1.0) first)).1 a.1.1)),
    )

    pub closed_same : (es : List Entry) → First Q es → Same (Closed new es) (Closed old es)
    unfolding Closed
    closed_same es first = (
      λ x. (x.0, ((awaits_same x.0 (first_front Q x.0 _ (subst (First Q) x.1.1 first))).0 x.1.0, x.1.1)),
      λ x. (x.0, ((awaits_same x.0 (first_front Q x.0 _ (subst (First Q) x.1.1 first))).1 x.1.0, x.1.1)),
    )

    pub open_same : (es : List Entry) → First Q es → Same (Open new es) (Open old es)
    unfolding Open
    open_same es first = either_same (beginning_same es first) (closed_same es first)

    pub lawful_same : (es : List Entry) → First Q es → Same (Lawful new es) (Lawful old es)
    unfolding Lawful
    lawful_same es first = either_same (session_same es first) (open_same es first)

    -- where the rules are broken
    pub breaks_same : (es : List Entry) (k : ℕ) → First Q es → Same (BreaksAt new es k) (BreaksAt old es k)
    breaks_same es k first = (
      λ b.
          record {
            before = λ n h. (lawful_same (take n es) (first_part Q n es first)).0 (b.before n h);
            broken = λ l. b.broken ((lawful_same (take (k + 1) es) (first_part Q (k + 1) es first)).1 l);
          },
      λ b.
          record {
            before = λ n h. (lawful_same (take n es) (first_part Q n es first)).1 (b.before n h);
            broken = λ l. b.broken ((lawful_same (take (k + 1) es) (first_part Q (k + 1) es first)).0 l);
          },
    )
