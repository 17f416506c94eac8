-- Where two editions go alike, what is played by the one is played by the other, and adds the same numbers: a play is gone through entry by
-- entry, and each phase of the one stands for the phase of the other. Both ways are one proof, turned around.
-- Assumes nothing.
use mathlib.Core.Path.{◌≡◌, refl, sym, ap, ◌∙◌, subst}
use mathlib.Core.List.{List, ◌∷◌}
use Prim.Native.Nat.{ℕ}
use Rattle.tape_read.specs.Entries.{Entry}
use Rattle.sessions.specs.Rules.{Phase, asks, hears, decides, Rules}
use Rattle.sessions.specs.Session.{Plays, exchanged, heard, decided}
use Rattle.sessions.specs.Kept.{OtherKind}
use Rattle.verdict_under.specs.Counted.{added_by}
use Rattle.verdict_editions.specs.Editions.{First, Pairing, Alike, GoAlike, OpenAlike, CountAlike}

one_more_lem : {n m : ℕ} {ns ms : List ℕ} → n ≡ m → ns ≡ ms → n ∷ ns ≡ m ∷ ms
one_more_lem {n} {m} {ns} e f = ap (λ (x : ℕ). x ∷ ns) e ∙ ap (λ (l : List ℕ). m ∷ l) f

-- ---- turned around

module _ {A H S B I T : Type 0} (pairing : Pairing A H S B I T) where
  abbrev pub around : Pairing B I T A H S
  around =
      record {
        asked = λ v w. pairing.asked w v;
        said = λ i h. pairing.said h i;
        made = λ outcome' reason' t outcome reason s. pairing.made outcome reason s outcome' reason' t;
      }

  alike_around : (q : Phase A H S) (q' : Phase B I T) → Alike pairing q q' → Alike around q' q
  alike_around (asks w) (asks v) h = h
  alike_around (asks w) (hears i) h = absurd h
  alike_around (asks w) (decides outcome reason t) h = absurd h
  alike_around (hears x) (asks v) h = absurd h
  alike_around (hears x) (hears i) h = h
  alike_around (hears x) (decides outcome reason t) h = absurd h
  alike_around (decides outcome reason s) (asks v) h = absurd h
  alike_around (decides outcome reason s) (hears i) h = absurd h
  alike_around (decides outcome reason s) (decides outcome' reason' t) h = h

  alike_back : (q : Phase A H S) (q' : Phase B I T) → Alike around q' q → Alike pairing q q'
  alike_back (asks w) (asks v) h = h
  alike_back (asks w) (hears i) h = absurd h
  alike_back (asks w) (decides outcome reason t) h = absurd h
  alike_back (hears x) (asks v) h = absurd h
  alike_back (hears x) (hears i) h = h
  alike_back (hears x) (decides outcome reason t) h = absurd h
  alike_back (decides outcome reason s) (asks v) h = absurd h
  alike_back (decides outcome reason s) (hears i) h = absurd h
  alike_back (decides outcome reason s) (decides outcome' reason' t) h = h

  pub counts_around : (c : Phase A H S → ℕ) (d : Phase B I T → ℕ) → CountAlike pairing c d → CountAlike around d c
  counts_around c d counts q' q h = sym (counts q q' (alike_back q q' h))

  module _ {new : Rules A H S} {old : Rules B I T} where
    pub goes_around : GoAlike pairing new old → GoAlike around old new
    goes_around goes =
        record {
          commands = λ v w h. sym (goes.commands w v h);
          turns = λ v w a h. alike_around (new.turn w a) (old.turn v a) (goes.turns w v a h);
          kinds = λ i x h. sym (goes.kinds x i h);
          allows = λ i x p h. sym (goes.allows x i p h);
          afters = λ i x p h. alike_around (new.after x p) (old.after i p) (goes.afters x i p h);
          decisions = λ outcome' reason' t outcome reason s h. sym (goes.decisions outcome reason s outcome' reason' t h);
        }

    pub opens_around : {Q : List ℕ → Type 0} → OpenAlike pairing new old Q → OpenAlike around old new Q
    opens_around opens =
        record {
          now = opens.then;
          then = opens.now;
          new_opens = opens.old_opens;
          old_opens = opens.new_opens;
          kind = sym opens.kind;
          other = subst OtherKind opens.kind opens.other;
          allows = λ p first. sym (opens.allows p first);
          afters =
              λ p first fits.
              alike_around (new.after opens.now p) (old.after opens.then p)
              (opens.afters p first (opens.allows p first ∙ fits));
        }

-- ---- from phase to phase

module _ {A H S B I T : Type 0} (pairing : Pairing A H S B I T) {new : Rules A H S} {old : Rules B I T} (goes : GoAlike pairing new old)
    (c : Phase A H S → ℕ) (d : Phase B I T → ℕ) (counts : CountAlike pairing c d) where
  -- entries that the other edition plays, and that add these numbers
  abbrev Adding : Phase B I T → List Entry → List ℕ → Type 0
  Adding q es ns = (play : Plays old q es) × (added_by old d play ≡ ns)

  plays_over : {q : Phase A H S} {es : List Entry} (play : Plays new q es) (q' : Phase B I T) → Alike pairing q q'
      → Adding q' es (added_by new c play)
  unfolding added_by
  plays_over (exchanged {w} {c = x} {a} {es} f ok play) (asks v) h =
      let on = goes.turns w v a h in
      let rest = plays_over play (old.turn v a) on in (
        exchanged (f ∙ goes.commands w v h) ok rest.0,
        one_more_lem refl (one_more_lem (sym (counts (new.turn w a) (old.turn v a) on)) rest.1),
      )
  plays_over (exchanged f ok play) (hears i) h = absurd h
  plays_over (exchanged f ok play) (decides outcome reason t) h = absurd h
  plays_over (heard f fits ok play) (asks v) h = absurd h
  plays_over (heard {h = x} {k} {p} {es} f fits ok play) (hears i) h =
      let on = goes.afters x i p h in
      let rest = plays_over play (old.after i p) on in (
        heard (f ∙ goes.kinds x i h) (sym (goes.allows x i p h) ∙ fits) ok rest.0,
        one_more_lem (sym (counts (new.after x p) (old.after i p) on)) rest.1,
      )
  plays_over (heard f fits ok play) (decides outcome reason t) h = absurd h
  plays_over (decided f) (asks v) h = absurd h
  plays_over (decided f) (hears i) h = absurd h
  plays_over (decided {outcome} {reason} {s} f) (decides outcome' reason' t) h =
      (decided (f ∙ goes.decisions outcome reason s outcome' reason' t h), refl)

  -- a session whose first entry has such a payload
  module _ {Q : List ℕ → Type 0} (opens : OpenAlike pairing new old Q) where
    opens_over : {es : List Entry} (play : Plays new (hears opens.now) es) → First Q es
        → Adding (hears opens.then) es (added_by new c play)
    unfolding added_by First
    opens_over (heard {k} {p} {es} f fits ok play) first =
        let on = opens.afters p first fits in
        let rest = plays_over play (old.after opens.then p) on in (
          heard (f ∙ opens.kind) (sym (opens.allows p first) ∙ fits) ok rest.0,
          one_more_lem (sym (counts (new.after opens.now p) (old.after opens.then p) on)) rest.1,
        )

    pub session_over : {es : List Entry} (play : Plays new new.opens es) → First Q es → Adding old.opens es (added_by new c play)
    session_over {es} play first =
        let numbers = added_by new c play in
        let there = subst (λ (q : Phase A H S). (p : Plays new q es) × (added_by new c p ≡ numbers)) opens.new_opens (play, refl) in
        let over = opens_over there.0 first in
        subst (λ (q : Phase B I T). Adding q es numbers) (sym opens.old_opens) (over.0, over.1 ∙ there.1)
