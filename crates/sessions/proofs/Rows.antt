-- What each turn and each word keeps is kept along any session: where every step leads from a phase to one that is related to it, the phases of
-- any reading stand in a row.
-- Assumes nothing.
use mathlib.Core.Path.{◌≡◌, refl, sym, subst}
use mathlib.Core.List.{List, ◌∷◌}
use Prim.Native.Nat.{ℕ, zero, suc}
use native.Mathlib.Numerals.{add-one}
use lib.ListN.{length, take}
use Rattle.tape_read.specs.Entries.{Entry}
use Rattle.sessions.specs.Rules.{Phase, asks, hears, Rules}
use Rattle.sessions.specs.Session.{Plays, exchanged, heard, decided, phases_of, Reads}
use Rattle.sessions.specs.Stated.{InRow, alone, onward}

module _ {A H S : Type 0} (rules : Rules A H S) (R : Phase A H S → Phase A H S → Type 0) (stays : (p : Phase A H S) → R p p)
    (turns : (w : A) (a : List ℕ) → R (asks w) (rules.turn w a)) (afters : (h : H) (p : List ℕ) → R (hears h) (rules.after h p)) where
  -- a play passes first the phase that it starts from
  starts : {p : Phase A H S} {es : List Entry} (play : Plays rules p es)
      → (qs : List (Phase A H S)) × (phases_of rules play ≡ p ∷ qs)
  unfolding phases_of
  starts (exchanged f ok play) = (_, refl)
  starts (heard f fits ok play) = (_, refl)
  starts (decided f) = (_, refl)

  more : (p q : Phase A H S) (ps : List (Phase A H S)) → R p q → (qs : List (Phase A H S)) × (ps ≡ q ∷ qs) → InRow R ps
      → InRow R (p ∷ ps)
  more p q ps g s h = subst (λ (l : List (Phase A H S)). InRow R (p ∷ l)) (sym s.1) (onward g (subst (InRow R) s.1 h))

  phases_in_row : {p : Phase A H S} {es : List Entry} (play : Plays rules p es) → InRow R (phases_of rules play)
  unfolding phases_of
  phases_in_row (exchanged {w} {a} f ok play) =
      onward (stays (asks w)) (more (asks w) (rules.turn w a) _ (turns w a) (starts play) (phases_in_row play))
  phases_in_row (heard {h} {p} f fits ok play) =
      more (hears h) (rules.after h p) _ (afters h p) (starts play) (phases_in_row play)
  phases_in_row (decided f) = alone

  -- what stands in a row does so from its start on
  part_in_row : {ps : List (Phase A H S)} (n : ℕ) → InRow R ps → InRow R (take (suc n) ps)
  part_in_row zero alone = alone
  part_in_row (suc n) alone = alone
  part_in_row zero (onward g rest) = alone
  part_in_row (suc n) (onward {p = p} {q = q} {ps = ps} g rest) = onward g (part_in_row {ps = q ∷ ps} n rest)

  pub reading_in_row : (es : List Entry) (ps : List (Phase A H S)) → Reads rules es ps → InRow R ps
  unfolding Reads
  reading_in_row es ps r = subst (InRow R) (sym r.1.1) (rw add-one (part_in_row (length es) (phases_in_row r.1.0)))
