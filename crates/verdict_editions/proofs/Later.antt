-- Whatever an edition adds to today's rules, a tape whose START is of an earlier edition is judged as today: from such a START on a session
-- meets questions and words that were, and none that is new.
-- Assumes nothing.
use mathlib.Core.Path.{◌≡◌, refl, sym, ap, ◌∙◌, subst}
use mathlib.Core.List.{List}
use Prim.Native.Nat.{ℕ}
use Rattle.sessions.specs.Rules.{asks, hears, decides}
use Rattle.verdict.specs.declared.Ruling.{Ruling}
use Rattle.rulebook.specs.Situation.{Situation}
use Rattle.rulebook.specs.Phase.{Asked, Heard, terminal, says, Phase}
use Rattle.rulebook.specs.Turn.{after, opened}
use Rattle.rulebook.specs.Session.{rules}
use Rattle.rulebook.specs.Later.{AskedLater, HeardLater, PhaseLater, Added, as_was, command_later, turn_later, kind_later, allowed_later}
use Rattle.rulebook.specs.Later.{after_later, later, Earlier}
use Rattle.rulebook.proofs.Later.{said_allows, start_allows, start_after}
use Rattle.rulebook.proofs.Said.{other_kinds}
use Rattle.rulebook.proofs.Passing.{Holds, anything_lasts, turn_holds, after_holds}
use Rattle.rulebook_zeros.specs.Zeros.{unsupplied_in}
use Rattle.verdict_under.specs.Judged.{JudgedUnder}
use Rattle.verdict_under.specs.Zeroed.{ZeroedUnder}
use Rattle.verdict_judged.specs.Judged.{Judged}
use Rattle.verdict_judged.specs.Zeroed.{Zeroed}
use Rattle.verdict_editions.specs.Editions.{Same, FirstOf, Pairing, Alike, GoAlike, OpenAlike, CountAlike, Some}
use Rattle.verdict_editions.proofs.Sessions.{session_same}
use Rattle.verdict_editions.proofs.Tapes.{judged_same, zeroed_same}

-- a word of today's other than START
abbrev Spoken : Heard → Type 0
Spoken h = Holds (λ s. Unit {0}) (hears h)

-- what was stands for itself
abbrev forerunner : (A H : Type 0) → Pairing (AskedLater A) (HeardLater H) Situation Asked Heard Situation
forerunner A H =
    record {
      asked = λ q w. q ≡ AskedLater.was w;
      said = λ x h. (x ≡ HeardLater.was h) × Spoken h;
      made = λ outcome reason s outcome' reason' t. (outcome ≡ outcome') × ((reason ≡ reason') × (s ≡ t));
    }

module _ (A H : Type 0) where
  alike_was : (q : Phase) → Holds (λ s. Unit {0}) q → Alike (forerunner A H) (as_was q) q
  unfolding as_was
  alike_was (asks w) h = refl
  alike_was (hears x) h = (refl, h)
  alike_was (decides outcome reason s) h = (refl, (refl, refl))

  is_was : (q : PhaseLater A H) (q' : Phase) → Alike (forerunner A H) q q' → q ≡ as_was q'
  unfolding as_was
  is_was (asks x) (asks w) h = ap asks h
  is_was (asks x) (hears i) h = absurd h
  is_was (asks x) (decides outcome reason t) h = absurd h
  is_was (hears x) (asks w) h = absurd h
  is_was (hears x) (hears i) h = ap hears h.0
  is_was (hears x) (decides outcome reason t) h = absurd h
  is_was (decides outcome reason s) (asks w) h = absurd h
  is_was (decides outcome reason s) (hears i) h = absurd h
  is_was (decides outcome reason s) (decides outcome' reason' t) h =
      ap (λ (n : ℕ). decides n reason s) h.0
      ∙ (ap (λ (n : ℕ). decides outcome' n s) h.1.0 ∙ ap (λ (x : Situation). decides outcome' reason' x) h.1.1)

  was_counted : (c : PhaseLater A H → ℕ) → ((q : Phase) → c (as_was q) ≡ unsupplied_in q) → CountAlike (forerunner A H) c unsupplied_in
  was_counted c same q q' h = ap c (is_was q q' h) ∙ same q'

module _ {A H : Type 0} (added : Added A H) where
  -- ---- from what was to what was

  asked_on : (w : Asked) (a : List ℕ) → Alike (forerunner A H) (turn_later added (AskedLater.was w) a) (rules.turn w a)
  unfolding turn_later
  asked_on w a = alike_was A H (rules.turn w a) (turn_holds (λ s. Unit {0}) anything_lasts w a tt)

  said_on : (h : Heard) (p : List ℕ) → Spoken h → Alike (forerunner A H) (after_later added (HeardLater.was h) p) (rules.after h p)
  unfolding after_later Holds
  said_on terminal p never = absurd never
  said_on (says word s) p spoken = alike_was A H (rules.after (says word s) p) (after_holds (λ t. Unit {0}) word s p tt)

  spoken_allows : (h : Heard) (p : List ℕ) → Spoken h → allowed_later added (HeardLater.was h) p ≡ rules.allowed h p
  unfolding Holds
  spoken_allows terminal p never = absurd never
  spoken_allows (says word s) p spoken = said_allows added word s p

  goes : GoAlike (forerunner A H) (later added) rules
  unfolding command_later kind_later
  goes =
      record {
        commands = λ q w e. ap (command_later added) e;
        turns =
            λ q w a e.
            subst (λ (x : AskedLater A). Alike (forerunner A H) (turn_later added x a) (rules.turn w a)) (sym e) (asked_on w a);
        kinds = λ x h e. ap (kind_later added) e.0;
        allows = λ x h p e. ap (λ (y : HeardLater H). allowed_later added y p) e.0 ∙ spoken_allows h p e.1;
        afters =
            λ x h p e.
            subst (λ (y : HeardLater H). Alike (forerunner A H) (after_later added y p) (rules.after h p)) (sym e.0)
            (said_on h p e.1);
        decisions =
            λ outcome reason s outcome' reason' t h.
            ap (λ (n : ℕ). rules.decision_of n reason s) h.0
            ∙ (ap (λ (n : ℕ). rules.decision_of outcome' n s) h.1.0 ∙ ap (rules.decision_of outcome' reason') h.1.1);
      }

  -- ---- a START of an earlier edition

  start_on : (p : List ℕ) → Earlier added p
      → Alike (forerunner A H) (after_later added (HeardLater.was terminal) p) (rules.after terminal p)
  unfolding after opened Holds
  start_on p e =
      subst (λ (q : PhaseLater A H). Alike (forerunner A H) q (rules.after terminal p)) (sym (start_after added p e))
      (alike_was A H (rules.after terminal p) tt)

  opens : OpenAlike (forerunner A H) (later added) rules (Earlier added)
  unfolding kind_later
  opens =
      record {
        now = HeardLater.was terminal;
        then = terminal;
        new_opens = refl;
        old_opens = refl;
        kind = refl;
        other = other_kinds terminal;
        allows = start_allows added;
        afters = λ p e fits. start_on p e;
      }

  -- ---- tapes

  module _ (some : Some rules (Earlier added)) where
    some_later : Some (later added) (Earlier added)
    some_later = (some.0, (some.1.0, (session_same (forerunner A H) goes opens some.0 some.1.0).1 some.1.1))

    -- where some session of today's has such a START, a tape that begins so is judged as today
    pub judged_as_it_was : (t : List ℕ) (a : Ruling) → FirstOf (Earlier added) t → Same (JudgedUnder (later added) t a) (Judged t a)
    judged_as_it_was = judged_same (forerunner A H) goes opens some_later

    -- and where what was is counted as it was, its fourth number is today's
    pub zeroed_as_it_was : (c : PhaseLater A H → ℕ) → ((q : Phase) → c (as_was q) ≡ unsupplied_in q) → (t : List ℕ) (n : ℕ)
        → FirstOf (Earlier added) t → Same (ZeroedUnder (later added) c t n) (Zeroed t n)
    zeroed_as_it_was c same = zeroed_same (forerunner A H) goes opens some_later c unsupplied_in (was_counted A H c same)
