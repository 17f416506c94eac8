-- What a card can influence in whole sessions, whatever the rules (02, R-13): what a session is given from outside, entry by entry, each
-- word byte for byte and each answer of the card as it is seen; and two sessions side by side. That a session depends on what it is given
-- alone holds of all rules by which every turn does (`whole` of proofs/Whole).
-- Assumes nothing.
use Rattle.std.specs.Prelude.{◌≡◌, false, List, [], ◌∷◌, map, ℕ, eqb}
use Rattle.std.proofs.Math.Option.{some}
use Rattle.slices.specs.Choice.{pick}
use Rattle.numbers.specs.Tables.{answer}
use Rattle.tape_read.specs.Entries.{Entry, entry}
use Rattle.sessions.specs.Rules.{Phase, asks, hears, decides, Rules}
use Rattle.sessions.specs.Session.{Plays, exchanged, heard, decided, phases_of}
use Rattle.sessions.specs.Machine.{Machine, at, owes, done, run}
use Rattle.verdict_under.specs.Counted.{added_by}
use Rattle.card_seen.specs.Seen.{Place, Seen, seen}

pub data Given : Type 0 where
  -- a word: START, the issuer's reply, the results of cardholder verification, the shopper's choice
  said : List ℕ → Given
  -- an answer of the card
  showed : Seen → Given

-- entries without the bytes of the card's answers: START, words, commands and the decision as they stand, each at its place
unfoldable pub but_answer : Entry → Entry
but_answer e = pick (eqb answer e.kind) (entry answer []) e

abbrev pub but_answers : List Entry → List Entry
but_answers es = map but_answer es

-- the reason with which a phase ends a session; 0 where it does not
unfoldable pub reason_in : {A H S : Type 0} → Phase A H S → ℕ
reason_in (asks w) = 0
reason_in (hears h) = 0
reason_in (decides outcome reason s) = reason

-- what is looked at beside the rules: the place of the answer to each question, TVR and TSI of a phase, and what is counted in it for the
-- fourth number
pub record View (A H S : Type 0) : Type 0 where
  pub place_of : A → Place
  pub tvr_of : Phase A H S → List ℕ
  pub tsi_of : Phase A H S → List ℕ
  pub unsupplied_in : Phase A H S → ℕ

module _ {A H S : Type 0} (rules : Rules A H S) (view : View A H S) where
  open rules use {opens, turn, due_kind, after}
  open view use {place_of, tvr_of, tsi_of, unsupplied_in}

  unfoldable pub given_to : {p : Phase A H S} {es : List Entry} → Plays rules p es → List Given
  given_to (exchanged {w} {c} {a} same ok play) = showed (seen (place_of w) a) ∷ given_to play
  given_to (heard {h} {k} {p} same fits ok play) = said p ∷ given_to play
  given_to (decided same) = []

  -- two sessions that are the same but for the bytes of the card's answers: the phases that are passed, TVR and TSI at each entry, every
  -- entry but for these bytes, and what each entry adds to the fourth number
  pub record Same {p : Phase A H S} {es fs : List Entry} (one : Plays rules p es) (other : Plays rules p fs) : Type 0 where
    pub phases : phases_of rules one ≡ phases_of rules other
    pub tvr : map tvr_of (phases_of rules one) ≡ map tvr_of (phases_of rules other)
    pub tsi : map tsi_of (phases_of rules one) ≡ map tsi_of (phases_of rules other)
    pub entries : but_answers es ≡ but_answers fs
    pub zeros : added_by rules unsupplied_in one ≡ added_by rules unsupplied_in other

  -- two beginnings from a state of the machine on: the same words, and answers of which the same is seen, whatever they lead to. Commands
  -- and decision are not compared
  pub data Alongside : Machine A H S → List Entry → List Entry → Type 0 where
    none : {σ : Machine A H S} → Alongside σ [] []
    asked : {w : A} {es fs : List Entry} (e f : Entry) → Alongside (owes w) es fs → Alongside (at (asks w)) (e ∷ es) (f ∷ fs)
    answered : {w : A} {es fs : List Entry} (a b : List ℕ) → seen (place_of w) a ≡ seen (place_of w) b
        → Alongside (at (turn w a)) es fs → Alongside (owes w) (entry answer a ∷ es) (entry answer b ∷ fs)
    said_both : {h : H} {es fs : List Entry} (e : Entry) → Alongside (at (after h e.payload)) es fs
        → Alongside (at (hears h)) (e ∷ es) (e ∷ fs)
    decided_both : {outcome reason : ℕ} {s : S} {es fs : List Entry} (e f : Entry) → Alongside done es fs
        → Alongside (at (decides outcome reason s)) (e ∷ es) (f ∷ fs)

  -- one function of what is seen of an answer, and of nothing else of it, says how the session goes on
  abbrev pub Through : Type 0
  Through = (f : A → Seen → Phase A H S) × ((w : A) (a : List ℕ) → turn w a ≡ f w (seen (place_of w) a))

  -- what it is for two answers to a question to be alike is handed in
  module _ (Alike : A → List ℕ → List ℕ → Type 0) where
    -- two sessions with the same words, whose answers are alike and lead to no reason. Commands and decision are not compared
    unfoldable pub SideBySide : {p q : Phase A H S} {es fs : List Entry} → Plays rules p es → Plays rules q fs → Type 0
    SideBySide (exchanged {w} {c} {a} f ok play) (exchanged {w = v} {c = d} {a = b} g ok' other) =
        Alike w a b × (reason_in (turn w a) ≡ 0) × (reason_in (turn v b) ≡ 0) × SideBySide play other
    SideBySide (exchanged f ok play) (heard g fits ok' other) = ⊥
    SideBySide (exchanged f ok play) (decided g) = ⊥
    SideBySide (heard f fits ok play) (exchanged g ok' other) = ⊥
    SideBySide (heard {h} {k} {p} f fits ok play) (heard {h = i} {k = j} {p = q} g fits' ok' other) = (p ≡ q) × SideBySide play other
    SideBySide (heard f fits ok play) (decided g) = ⊥
    SideBySide (decided f) (exchanged g ok' other) = ⊥
    SideBySide (decided f) (heard g fits ok' other) = ⊥
    SideBySide (decided f) (decided g) = Unit {0}

    -- what rules must keep so that all of Whole holds of them: a turn goes by what is seen, a word is no answer, and of alike answers that
    -- end no session the same is seen
    pub record ByWhatIsSeen : Type 0 where
      pub through : Through
      pub no_answer : (h : H) → eqb answer (due_kind h) ≡ false
      pub alike : (w : A) (a b : List ℕ) → Alike w a b → reason_in (turn w a) ≡ 0 → reason_in (turn w b) ≡ 0
          → seen (place_of w) a ≡ seen (place_of w) b

    -- Whole sessions: functions of what a session is given, and of nothing else, say the phases that it passes, its entries but for the
    -- bytes of the card's answers, and what each entry adds to the fourth number. So two sessions that are given the same are the same but
    -- for these bytes
    pub record Whole : Type 0 where
      pub phases : (f : List Given → List (Phase A H S))
          × ((es : List Entry) (play : Plays rules opens es) → phases_of rules play ≡ f (given_to play))
      pub entries : (f : List Given → List Entry) × ((es : List Entry) (play : Plays rules opens es) → but_answers es ≡ f (given_to play))
      pub zeros : (f : List Given → List ℕ)
          × ((es : List Entry) (play : Plays rules opens es) → added_by rules unsupplied_in play ≡ f (given_to play))
      pub same_session : (es fs : List Entry) (one : Plays rules opens es) (other : Plays rules opens fs)
          → given_to one ≡ given_to other → Same one other
      -- 02's sentence: so are two sessions with the same words whose answers are alike and end no session
      pub as_written : (es fs : List Entry) (one : Plays rules opens es) (other : Plays rules opens fs) → SideBySide one other
          → Same one other
      -- and so are beginnings that are given the same, wherever they stop: they lead to the same state of the machine
      pub same_beginning : (es fs : List Entry) → Alongside (at opens) es fs → (τ ρ : Machine A H S) → run rules es (at opens) ≡ some τ
          → run rules fs (at opens) ≡ some ρ → (τ ≡ ρ) × (but_answers es ≡ but_answers fs)
