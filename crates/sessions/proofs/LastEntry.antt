-- A session ends in its decision and in nothing else, so a tape that ends after a command is open at best, and so is one that ends in
-- silence.
-- Assumes nothing.
use mathlib.Core.Path.{◌≡◌, refl, ap}
use mathlib.Core.List.{List, [], ◌∷◌, ◌++◌}
use mathlib.Core.Logic.{⊎_elim}
use Prim.Native.Nat.{ℕ}
use native.Mathlib.Omega.{arith}
use Rattle.numbers.specs.Tables.{command, answer, silence, decision}
use Rattle.tape_read.specs.Entries.{Entry, entry}
use Rattle.sessions.specs.Rules.{Phase, Rules}
use Rattle.sessions.specs.Session.{Plays, exchanged, heard, decided, Session, Open, Lawful}
use Rattle.sessions.proofs.Lists.{snoc_same}

abbrev EndsDecided : List Entry → Type 0
EndsDecided es = (before : List Entry) × ((d : List ℕ) × (es ≡ before ++ (entry decision d ∷ [])))

one_more_lem : (x : Entry) (es : List Entry) → EndsDecided es → EndsDecided (x ∷ es)
one_more_lem x es d = (x ∷ d.0, (d.1.0, ap (λ (l : List Entry). x ∷ l) d.1.1))

module _ {A H S : Type 0} (rules : Rules A H S) where
  open rules use {after}

  ends_decided : {p : Phase A H S} {es : List Entry} → Plays rules p es → EndsDecided es
  ends_decided (exchanged {c} {a} {es} f ok play) =
      one_more_lem (entry command c) (entry answer a ∷ es) (one_more_lem (entry answer a) es (ends_decided play))
  ends_decided (heard {k} {p} {es} f fits ok play) = one_more_lem (entry k p) es (ends_decided play)
  ends_decided (decided {d} f) = ([], (d, refl))

  -- the last entry of a session is its decision
  pub last_is_decision : (es : List Entry) (e : Entry) → Session rules (es ++ (e ∷ [])) → e.kind ≡ decision
  unfolding Session
  last_is_decision es e play =
      let d = ends_decided play in
      ap (λ (x : Entry). x.kind) (snoc_same es d.0 e (entry decision d.1.0) d.1.1).1

  -- so a tape that ends after a command is open at best, and a silence never finishes one
  pub command_is_open : (es : List Entry) (c : List ℕ) → Lawful rules (es ++ (entry command c ∷ []))
      → Open rules (es ++ (entry command c ∷ []))
  unfolding Lawful
  command_is_open es c l = ⊎_elim (λ s. absurd (let h = last_is_decision es (entry command c) s in omega arith)) (λ o. o) l

  pub silence_is_open : (es : List Entry) (p : List ℕ) → Lawful rules (es ++ (entry silence p ∷ []))
      → Open rules (es ++ (entry silence p ∷ []))
  unfolding Lawful
  silence_is_open es p l = ⊎_elim (λ s. absurd (let h = last_is_decision es (entry silence p) s in omega arith)) (λ o. o) l
