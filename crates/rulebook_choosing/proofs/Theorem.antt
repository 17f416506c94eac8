-- What holds of the rules with choosing, in one place. 02, R-12: all that holds of today's rules. That a tape whose START has an earlier
-- length is judged by its own is shown above, where verdicts are (verdict_choosing).
-- Assumes nothing.
use mathlib.Core.Path.{◌≡◌}
use mathlib.Core.Bool.{Bool, true}
use mathlib.Core.List.{List, [], ◌∷◌, ◌++◌}
use Prim.Native.Nat.{ℕ, ◌≤◌}
use lib.ListN.{length}
use Rattle.numbers.specs.Tables.{start}
use Rattle.tape_read.specs.Entries.{Entry, entry}
use Rattle.select_names.specs.Names.{supported}
use Rattle.select_list.specs.Kept.{candidate_at}
use Rattle.select_search.specs.declared.Step.TheVariants.{Final}
use Rattle.select_laws.specs.Repeated.{missing}
use Rattle.sessions.specs.Session as Under
use Rattle.sessions.specs.Stated.{Finished, Sort, InRow}
use Rattle.sessions.proofs.Bound as Any
use Rattle.sessions.proofs.Single.{prefix_free, reads_once, session_reads, beginning_reads, reads_lawful}
use Rattle.sessions.proofs.Ends.{finishes}
use Rattle.sessions.proofs.Trichotomy.{sorted, one_sort}
use Rattle.sessions.proofs.Breaks.{one_break, break_unlawful, break_found}
use Rattle.start_choosing.specs.Start.{is_listing}
use Rattle.rulebook.specs.Phase.{Phase}
use Rattle.rulebook.specs.Later.{as_was}
use Rattle.rulebook.specs.Session as today
use Rattle.rulebook_choosing.specs.Choosing.{Choosing, ChoosingPhase, searched, chose}
use Rattle.rulebook_choosing.specs.Session.{rules, longest, Plays, Session, Beginning, Open, Lawful, BreaksAt, Reads}
use Rattle.rulebook_choosing.specs.Stated.{GoesOn, Takes, acts_of, Hundred, Growing}
use Rattle.rulebook_choosing.specs.Sent.{Each, Sound, SoundAt, Worded}
use Rattle.rulebook_choosing.specs.Nobody.{AnswersAll, NobodyFound}
use Rattle.rulebook_choosing.specs.Endless.{Endless, Exhausted}
use Rattle.rulebook_choosing.specs.Untouched.{Untouched}
use Rattle.rulebook_choosing.specs.Unlooked.{phase_with, FromOptions, Unlooked}
use Rattle.rulebook_choosing.proofs.Selecting.{searched_on, chose_on}
use Rattle.rulebook_choosing.proofs.Kept.{to_come, kept}
use Rattle.rulebook_choosing.proofs.Growing.{reading_grows}
use Rattle.rulebook_choosing.proofs.Longest.{fullest, bound_reached}
use Rattle.rulebook_choosing.proofs.Hundred.{hundred}
use Rattle.rulebook_choosing.proofs.Sent.{reading_sound, sent_supported, reading_worded}
use Rattle.rulebook_choosing.proofs.Nobody.{nobody}
use Rattle.rulebook_choosing.proofs.Endless.{endless}
use Rattle.rulebook_choosing.proofs.Untouched.{reading_untouched}
use Rattle.rulebook_choosing.proofs.Unlooked.{unlooked, unlooked_on}

pub record Rulebook : Type 0 where
  pub inhabited : (es : List Entry) × Session es
  pub no_longer : (es rest : List Entry) → Session es → Session (es ++ rest) → rest ≡ []
  pub one_reading : (es : List Entry) (ps qs : List ChoosingPhase) → Reads es ps → Reads es qs → ps ≡ qs
  pub session_read : (es : List Entry) → Session es → (ps : List ChoosingPhase) × Reads es ps
  pub beginning_read : (es : List Entry) → Beginning es → (ps : List ChoosingPhase) × Reads es ps
  pub read_lawful : (es : List Entry) (ps : List ChoosingPhase) → Reads es ps → Lawful es
  pub finished : (p : ChoosingPhase) → Finished rules p
  pub sort : (es : List Entry) → Sort rules es
  pub apart : (es : List Entry) → Session es → Open es → ⊥
  pub place : (es : List Entry) → (Lawful es → ⊥) → (k : ℕ) × BreaksAt es k
  pub one_place : (es : List Entry) (k m : ℕ) → BreaksAt es k → BreaksAt es m → k ≡ m
  pub no_place : (es : List Entry) (k : ℕ) → BreaksAt es k → Lawful es → ⊥
  pub growing : (es : List Entry) (ps : List ChoosingPhase) → Reads es ps → Growing ps
  pub bounded : (es : List Entry) → Session es → length es ≤ longest
  pub bound_met : (es : List Entry) × (Session es × (length es ≡ longest))
  -- how a selection goes on and ends, after any answer and any choice
  pub answered : (x : Choosing) (a : List ℕ) → GoesOn x (searched x a)
  pub chosen : (x : Choosing) (p : List ℕ) → Takes x (chose x p)
  -- before GPO is due a session has at most a hundred exchanges, and before each at most one choice, none before the first
  pub at_most : {es : List Entry} (play : Plays rules.opens es) → Hundred (acts_of play)
  -- at every exchange everybody in the list matches an AID of START, and who is sent for good stands in it: so his name does too
  pub sound : (es : List Entry) (ps : List ChoosingPhase) → Reads es ps → Each SoundAt ps
  pub sent : (x : Choosing) (place : ℕ) (taken : Bool) → x.search.stand.step ≡ Final place taken → Sound x
      → supported x.applications (candidate_at x.search.list place).name ≡ true
  -- nobody without the shopper's word
  pub worded : (es : List Entry) (ps : List ChoosingPhase) → Reads es ps → InRow Worded ps
  -- a card that answers '6A82' to everything
  pub nobody_found : (p : List ℕ) (es : List Entry) → is_listing p ≡ true → Session (entry start p ∷ es) → AnswersAll missing es
      → NobodyFound p es
  -- TVR and TSI are zeros at every phase of a selection, at GPO and at every record
  pub untouched : (es : List Entry) (ps : List ChoosingPhase) → Reads es ps → Each Untouched ps
  -- from GPO on neither the AID nor the list of START is looked at
  pub unlooked : (aid : List ℕ) {p : Phase} {es : List Entry} → FromOptions p → (play : today.Plays p es) → Unlooked aid play
  pub unlooked_on : (aid : List ℕ) (p : Phase) (es : List Entry) → FromOptions p → Plays (as_was p) es
      → Plays (as_was (phase_with aid p)) es
  -- a directory without end
  pub exhausted : (p : List ℕ) (es : List Entry) → is_listing p ≡ true → Session (entry start p ∷ es) → Endless es → Exhausted p es

pub rulebook : Rulebook
unfolding Under.Session is_listing kept to_come
rulebook =
    record {
      inhabited = finishes kept rules.opens;
      no_longer = prefix_free rules;
      one_reading = reads_once rules;
      session_read = session_reads rules;
      beginning_read = beginning_reads rules;
      read_lawful = reads_lawful rules;
      finished = finishes kept;
      sort = sorted kept;
      apart = one_sort kept;
      place = break_found kept;
      one_place = one_break kept;
      no_place = break_unlawful kept;
      growing = reading_grows;
      bounded = Any.session_bound kept;
      bound_met = (fullest, bound_reached);
      answered = searched_on;
      chosen = chose_on;
      at_most = hundred;
      sound = reading_sound;
      sent = sent_supported;
      worded = reading_worded;
      nobody_found = nobody;
      untouched = reading_untouched;
      unlooked = unlooked;
      unlooked_on = unlooked_on;
      exhausted = endless;
    }
