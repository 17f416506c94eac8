-- All that is said of whole sessions, of any rules by which every turn goes by what is seen alone. Sessions whose answers are alike are
-- given the same; the rest is in Sessions and Beginnings.
-- Assumes nothing.
use mathlib.Core.Path.{◌≡◌, refl, ap, ap₂, ◌∙◌}
use mathlib.Core.List.{List, ◌∷◌}
use Prim.Native.Nat.{ℕ}
use Rattle.tape_read.specs.Entries.{Entry}
use Rattle.sessions.specs.Rules.{Phase, asks, hears, Rules}
use Rattle.sessions.specs.Session.{Plays, exchanged, heard, decided}
use Rattle.card_seen.specs.Seen.{Seen, seen}
use Rattle.card_seen.specs.Under.{Given, said, showed, reason_in, View, given_to, SideBySide, ByWhatIsSeen, Whole}
use Rattle.card_seen.proofs.Sessions.{settled, phases_by, entries_by, adds_by, phases_by_lem, entries_by_lem, adds_by_lem, given_same}
use Rattle.card_seen.proofs.Beginnings.{beginnings}

module _ {A H S : Type 0} (rules : Rules A H S) (view : View A H S) (Alike : A → List ℕ → List ℕ → Type 0)
    (keeps : ByWhatIsSeen rules view Alike) where
  open rules use {opens, turn, after}
  open view use {place_of}

  same_question : (w v : A) → ◌≡◌ {A = Phase A H S} (asks w) (asks v) → w ≡ v
  same_question w v e = cc

  same_word : (h i : H) → ◌≡◌ {A = Phase A H S} (hears h) (hears i) → h ≡ i
  same_word h i e = cc

  same_given : {p q : Phase A H S} {es fs : List Entry} (one : Plays rules p es) (other : Plays rules q fs) → p ≡ q
      → SideBySide rules view Alike one other → given_to rules view one ≡ given_to rules view other
  unfolding SideBySide given_to
  same_given (exchanged {w} {c} {a} f ok play) (exchanged {w = v} {c = d} {a = b} g ok' more) e side =
      let same = same_question w v e in
      let late : reason_in (turn w b) ≡ 0 = ap (λ (x : A). reason_in (turn x b)) same ∙ side.2 in
      let view' = keeps.alike w a b side.0 side.1 late in
      ap₂ (λ (x : Seen) (gs : List Given). showed x ∷ gs) (view' ∙ ap (λ (x : A). seen (place_of x) b) same)
      (same_given play more (settled rules view keeps.through w a b view' ∙ ap (λ (x : A). turn x b) same) side.3)
  same_given (exchanged f ok play) (heard g fits ok' more) e side = absurd side
  same_given (exchanged f ok play) (decided g) e side = absurd side
  same_given (heard f fits ok play) (exchanged g ok' more) e side = absurd side
  same_given (heard {h} {k} {p} f fits ok play) (heard {h = i} {k = j} {p = q} g fits' ok' more) e side =
      let same = same_word h i e in
      ap₂ (λ (x : List ℕ) (gs : List Given). said x ∷ gs) side.0
      (same_given play more (λ j. after (same j) (side.0 j)) side.1)
  same_given (heard f fits ok play) (decided g) e side = absurd side
  same_given (decided f) (exchanged g ok' more) e side = absurd side
  same_given (decided f) (heard g fits ok' more) e side = absurd side
  same_given (decided f) (decided g) e side = refl

  pub whole : Whole rules view Alike
  whole =
      let through = keeps.through in
      record {
        phases = ((λ gs. phases_by rules view through gs opens), λ es play. phases_by_lem rules view through play);
        entries = ((λ gs. entries_by rules view through gs opens), λ es play. entries_by_lem rules view through keeps.no_answer play);
        zeros = ((λ gs. adds_by rules view through gs opens), λ es play. adds_by_lem rules view through play);
        same_session = λ es fs one other e. given_same rules view through keeps.no_answer one other e;
        as_written = λ es fs one other side.
            given_same rules view through keeps.no_answer one other (same_given one other refl side);
        same_beginning = λ es fs side. beginnings rules view through side;
      }
