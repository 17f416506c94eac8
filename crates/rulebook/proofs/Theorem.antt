-- What holds of the rulebook, in one place: no session is the beginning of a longer one, and a beginning has one reading, of
-- sessions that there are; each list is exactly one of session, open and neither, and a list that is neither has one place where
-- the rules are first broken; every phase can be finished; no bit of the TVR or the TSI is cleared along the way; and 01's most
-- entries are reached and never passed.
-- Assumes nothing.
use mathlib.Core.Path.{◌≡◌}
use mathlib.Core.List.{List, [], ◌++◌}
use Prim.Native.Nat.{ℕ, ◌≤◌}
use lib.ListN.{length}
use Rattle.tape_read.specs.Entries.{Entry}
use Rattle.sessions.specs.Session as Under
use Rattle.sessions.specs.Stated.{Finished, Sort}
use Rattle.sessions.proofs.Single.{prefix_free, reads_once, session_reads, beginning_reads, reads_lawful}
use Rattle.sessions.proofs.Ends.{finishes}
use Rattle.sessions.proofs.Trichotomy.{sorted, one_sort}
use Rattle.sessions.proofs.Breaks.{one_break, break_unlawful, break_found}
use Rattle.rulebook.specs.Phase.{Phase, opens}
use Rattle.rulebook.specs.Session.{rules, longest, Session, Beginning, Open, Lawful, BreaksAt, Reads}
use Rattle.rulebook.specs.Stated.{Growing}
use Rattle.rulebook.proofs.Growing.{reading_grows}
use Rattle.rulebook.proofs.Bound.{session_bound}
use Rattle.rulebook.proofs.Longest.{fullest, bound_reached}
use Rattle.rulebook.proofs.Kept.{kept}

pub record Rulebook : Type 0 where
  pub inhabited : (es : List Entry) × Session es
  pub no_longer : (es rest : List Entry) → Session es → Session (es ++ rest) → rest ≡ []
  pub one_reading : (es : List Entry) (ps qs : List Phase) → Reads es ps → Reads es qs → ps ≡ qs
  pub session_read : (es : List Entry) → Session es → (ps : List Phase) × Reads es ps
  pub beginning_read : (es : List Entry) → Beginning es → (ps : List Phase) × Reads es ps
  pub read_lawful : (es : List Entry) (ps : List Phase) → Reads es ps → Lawful es
  pub finished : (p : Phase) → Finished rules p
  pub sort : (es : List Entry) → Sort rules es
  pub apart : (es : List Entry) → Session es → Open es → ⊥
  pub place : (es : List Entry) → (Lawful es → ⊥) → (k : ℕ) × BreaksAt es k
  pub one_place : (es : List Entry) (k m : ℕ) → BreaksAt es k → BreaksAt es m → k ≡ m
  pub no_place : (es : List Entry) (k : ℕ) → BreaksAt es k → Lawful es → ⊥
  pub growing : (es : List Entry) (ps : List Phase) → Reads es ps → Growing ps
  pub bounded : (es : List Entry) → Session es → length es ≤ longest
  pub bound_met : (es : List Entry) × (Session es × (length es ≡ longest))

pub rulebook : Rulebook
unfolding Under.Session
rulebook =
    record {
      inhabited = finishes kept opens;
      no_longer = prefix_free rules;
      one_reading = reads_once rules;
      session_read = session_reads rules;
      beginning_read = beginning_reads rules;
      read_lawful = reads_lawful rules;
      finished = finishes kept;
      sort = sorted kept;
      apart = one_sort kept;
      place = break_found kept;
      one_place = one_break kept;
      no_place = break_unlawful kept;
      growing = reading_grows;
      bounded = session_bound;
      bound_met = (fullest, bound_reached);
    }
