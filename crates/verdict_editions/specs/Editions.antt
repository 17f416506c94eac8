-- Two editions of the rules, each with questions, words and situations of its own: what it takes that both go alike wherever the first
-- entry of a tape leads, so that the newer edition judges the tape as the older one did (02, R-7: the shorter START).
-- Assumes nothing.
use Rattle.std.specs.Prelude.{◌≡◌, true, List, [], ◌∷◌, ℕ}
use Rattle.tape_read.specs.Entries.{Entry}
use Rattle.tape_read.specs.Tapes.{entries, read_tape}
use Rattle.sessions.specs.Rules.{Phase, asks, hears, decides, Rules}
use Rattle.sessions.specs.Session.{Session}
use Rattle.sessions.specs.Kept.{OtherKind}

-- each of two follows from the other
abbrev pub Same : Type 0 → Type 0 → Type 0
Same X Y = (X → Y) × (Y → X)

-- entries of which the first, where there is one, has such a payload
unfoldable pub First : (List ℕ → Type 0) → List Entry → Type 0
First Q [] = Unit {0}
First Q (e ∷ es) = Q e.payload

-- a tape that reads as such entries, or cannot be read
unfoldable pub FirstOf : (List ℕ → Type 0) → List ℕ → Type 0
FirstOf Q t = (es : List Entry) → read_tape t ≡ entries es → First Q es

-- which questions, words and decisions of two editions stand for each other
pub record Pairing (A H S B I T : Type 0) : Type 1 where
  pub asked : A → B → Type 0
  pub said : H → I → Type 0
  pub made : ℕ → ℕ → S → ℕ → ℕ → T → Type 0

module _ {A H S B I T : Type 0} (pairing : Pairing A H S B I T) where
  -- and so which phases
  abbrev pub Alike : Phase A H S → Phase B I T → Type 0
  Alike (asks w) (asks v) = pairing.asked w v
  Alike (asks w) (hears i) = ⊥
  Alike (asks w) (decides outcome reason t) = ⊥
  Alike (hears h) (asks v) = ⊥
  Alike (hears h) (hears i) = pairing.said h i
  Alike (hears h) (decides outcome reason t) = ⊥
  Alike (decides outcome reason s) (asks v) = ⊥
  Alike (decides outcome reason s) (hears i) = ⊥
  Alike (decides outcome reason s) (decides outcome' reason' t) = pairing.made outcome reason s outcome' reason' t

  -- where phases stand for each other, both editions ask, allow and decide the same, and lead to phases that do
  pub record GoAlike (new : Rules A H S) (old : Rules B I T) : Type 0 where
    pub commands : (w : A) (v : B) → pairing.asked w v → new.command_of w ≡ old.command_of v
    pub turns : (w : A) (v : B) (a : List ℕ) → pairing.asked w v → Alike (new.turn w a) (old.turn v a)
    pub kinds : (h : H) (i : I) → pairing.said h i → new.due_kind h ≡ old.due_kind i
    pub allows : (h : H) (i : I) (p : List ℕ) → pairing.said h i → new.allowed h p ≡ old.allowed i p
    pub afters : (h : H) (i : I) (p : List ℕ) → pairing.said h i → Alike (new.after h p) (old.after i p)
    pub decisions : (outcome reason : ℕ) (s : S) (outcome' reason' : ℕ) (t : T) → pairing.made outcome reason s outcome' reason' t
        → new.decision_of outcome reason s ≡ old.decision_of outcome' reason' t

  -- both open with a word of the same kind; such a payload of it is allowed by both or by neither, and leads to phases that stand for each
  -- other
  pub record OpenAlike (new : Rules A H S) (old : Rules B I T) (Q : List ℕ → Type 0) : Type 0 where
    pub now : H
    pub then : I
    pub new_opens : new.opens ≡ hears now
    pub old_opens : old.opens ≡ hears then
    pub kind : new.due_kind now ≡ old.due_kind then
    pub other : OtherKind (new.due_kind now)
    pub allows : (p : List ℕ) → Q p → new.allowed now p ≡ old.allowed then p
    pub afters : (p : List ℕ) → Q p → new.allowed now p ≡ true → Alike (new.after now p) (old.after then p)

  -- what is counted in phases that stand for each other is the same
  abbrev pub CountAlike : (Phase A H S → ℕ) → (Phase B I T → ℕ) → Type 0
  CountAlike c d = (q : Phase A H S) (q' : Phase B I T) → Alike q q' → c q ≡ d q'

-- a session whose first entry has such a payload
abbrev pub Some : {A H S : Type 0} → Rules A H S → (List ℕ → Type 0) → Type 0
Some rules Q = (es : List Entry) × (First Q es × Session rules es)

-- two editions over the same questions, words and situations: phases of a sort stand for themselves
module _ {A H S : Type 0} (P : Phase A H S → Type 0) where
  abbrev pub itself : Pairing A H S A H S
  itself =
      record {
        asked = λ w v. (w ≡ v) × P (asks w);
        said = λ h i. (h ≡ i) × P (hears h);
        made =
            λ outcome reason s outcome' reason' t.
            (outcome ≡ outcome') × ((reason ≡ reason') × ((s ≡ t) × P (decides outcome reason s)));
      }

  -- in each phase of the sort both say the same, and lead to phases of the sort
  pub record Agree (new old : Rules A H S) : Type 0 where
    pub commands : (w : A) → P (asks w) → new.command_of w ≡ old.command_of w
    pub turns : (w : A) (a : List ℕ) → P (asks w) → new.turn w a ≡ old.turn w a
    pub turned : (w : A) (a : List ℕ) → P (asks w) → P (new.turn w a)
    pub kinds : (h : H) → P (hears h) → new.due_kind h ≡ old.due_kind h
    pub allows : (h : H) (p : List ℕ) → P (hears h) → new.allowed h p ≡ old.allowed h p
    pub afters : (h : H) (p : List ℕ) → P (hears h) → new.after h p ≡ old.after h p
    pub heeded : (h : H) (p : List ℕ) → P (hears h) → P (new.after h p)
    pub decisions : (outcome reason : ℕ) (s : S) → new.decision_of outcome reason s ≡ old.decision_of outcome reason s
