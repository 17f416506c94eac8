-- What the rules keep from each phase to the next is so at every phase of a reading: whatever the rules.
-- Assumes nothing.
use mathlib.Core.Path.{◌≡◌, sym, subst}
use mathlib.Core.Bool.{true}
use mathlib.Core.List.{List, [], ◌∷◌}
use Prim.Native.Nat.{ℕ, zero, suc, ◌+◌}
use lib.ListN.{length, take}
use Rattle.tape_read.specs.Entries.{Entry}
use Rattle.sessions.specs.Rules.{Phase, asks, hears, Rules}
use Rattle.sessions.specs.Session.{Plays, exchanged, heard, decided, phases_of, Reads}
use Rattle.rulebook_choosing.specs.Sent.{Each}

first_of : {P : Type 0} (Q : P → Type 0) (n : ℕ) (ps : List P) → Each Q ps → Each Q (take n ps)
first_of Q zero ps h = tt
first_of Q (suc n) [] h = tt
first_of Q (suc n) (p ∷ ps) h = (h.0, first_of Q n ps h.1)

module _ {A H S : Type 0} (rules : Rules A H S) (Q : Phase A H S → Type 0)
    (turns : (w : A) (a : List ℕ) → Q (asks w) → Q (rules.turn w a))
    (afters : (h : H) (p : List ℕ) → rules.allowed h p ≡ true → Q (hears h) → Q (rules.after h p)) where
  along : {p : Phase A H S} {es : List Entry} (play : Plays rules p es) → Q p → Each Q (phases_of rules play)
  unfolding phases_of
  along (exchanged {w} {a} f ok play) h = (h, (h, along play (turns w a h)))
  along (heard {h = x} {p} f fits ok play) h = (h, along play (afters x p fits h))
  along (decided f) h = (h, tt)

  pub reading_along : Q rules.opens → (es : List Entry) (ps : List (Phase A H S)) → Reads rules es ps → Each Q ps
  unfolding Reads
  reading_along h es ps r = subst (Each Q) (sym r.1.1) (first_of Q (length es + 1) _ (along r.1.0 h))
