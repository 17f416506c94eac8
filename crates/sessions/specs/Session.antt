-- Whole sessions under rules, as entries of a tape: commands and answers in turn, what somebody else says where it is due (START first),
-- DECISION last. 01, "What the kernel plays and who decides"; demand 3.
-- Assumes nothing.
use Rattle.std.specs.Prelude.{◌≡◌, Bool, true, ◌&&◌, List, [], ◌∷◌, ◌++◌, ◌⊎◌, ℕ, ◌+◌, ◌≤◌, leb, length, take}
use Rattle.std.proofs.Math.Pow.{are_bytes}
use Rattle.numbers.specs.Tables.{command, answer, silence, decision}
use Rattle.tape_read.specs.Entries.{Entry, entry, payload_most}
use Rattle.sessions.specs.Rules.{Phase, asks, hears, decides, Rules}

-- a payload that a tape can hold: bytes, and not too many
unfoldable pub is_payload : List ℕ → Bool
is_payload p = leb (length p) payload_most && are_bytes p

module _ {Asked Heard Situation : Type 0} (rules : Rules Asked Heard Situation) where
  open rules use {opens, command_of, turn, due_kind, allowed, after, decision_of}

  -- the entries from a phase on, to the end of the session
  pub data Plays : Phase Asked Heard Situation → List Entry → Type 0 where
    exchanged : {w : Asked} {c a : List ℕ} {es : List Entry} → c ≡ command_of w → is_payload a ≡ true
        → Plays (turn w a) es → Plays (asks w) (entry command c ∷ entry answer a ∷ es)
    heard : {h : Heard} {k : ℕ} {p : List ℕ} {es : List Entry} → k ≡ due_kind h → allowed h p ≡ true → is_payload p ≡ true
        → Plays (after h p) es → Plays (hears h) (entry k p ∷ es)
    decided : {outcome reason : ℕ} {s : Situation} {d : List ℕ} → d ≡ decision_of outcome reason s
        → Plays (decides outcome reason s) (entry decision d ∷ [])

  unfoldable pub Session : List Entry → Type 0
  Session es = Plays opens es

  -- an unfinished beginning: something is left to come
  unfoldable pub Beginning : List Entry → Type 0
  Beginning es = (e : Entry) × ((rest : List Entry) × Session (es ++ (e ∷ rest)))

  -- a beginning that waits for the card's answer
  unfoldable pub AwaitsCard : List Entry → Type 0
  AwaitsCard es = (a : List ℕ) × ((rest : List Entry) × Session (es ++ (entry answer a ∷ rest)))

  -- one closing silence after a beginning that waits for the card
  unfoldable pub Closed : List Entry → Type 0
  Closed es = (before : List Entry) × (AwaitsCard before × (es ≡ before ++ (entry silence [] ∷ [])))

  -- what a session can be while it is not finished
  unfoldable pub Open : List Entry → Type 0
  Open es = Beginning es ⊎ Closed es

  -- no rule is broken: finished, or open
  unfoldable pub Lawful : List Entry → Type 0
  Lawful es = Session es ⊎ Open es

  -- the entry, counted from 0, at which the rules are first broken: the last one of the shortest beginning that is neither finished
  -- nor open (demand 3)
  pub record BreaksAt (es : List Entry) (k : ℕ) : Type 0 where
    pub before : (n : ℕ) → n ≤ k → Lawful (take n es)
    pub broken : Lawful (take (k + 1) es) → ⊥

  -- the phase that each entry stands in
  unfoldable pub phases_of : {p : Phase Asked Heard Situation} {es : List Entry} → Plays p es → List (Phase Asked Heard Situation)
  phases_of (exchanged {w} c ok play) = asks w ∷ asks w ∷ phases_of play
  phases_of (heard {h} k fits ok play) = hears h ∷ phases_of play
  phases_of (decided {outcome} {reason} {s} d) = decides outcome reason s ∷ []

  -- the phases that are passed while entries are read: those of a session that begins with them, up to the phase that they lead to
  unfoldable pub Reads : List Entry → List (Phase Asked Heard Situation) → Type 0
  Reads es ps = (rest : List Entry) × ((play : Plays opens (es ++ rest)) × (ps ≡ take (length es + 1) (phases_of play)))

  -- entries lead to a phase: of those that are passed while they are read it is the last
  unfoldable pub LeadsTo : List Entry → Phase Asked Heard Situation → Type 0
  LeadsTo es p = (before : List (Phase Asked Heard Situation)) × Reads es (before ++ (p ∷ []))
