-- What laws of choosing are stated with: what can follow an answer or a choice of a selection, its exchanges and choices in their order,
-- and that no bit of TVR and TSI is cleared. 02, R-12.
-- Assumes nothing.
use Rattle.std.specs.Prelude.{◌≡◌, true, List, [], ◌∷◌, ℕ, suc, ◌+◌, ◌<◌}
use Rattle.answer_common.specs.Named.{listed}
use Rattle.numbers.specs.Tables.{terminated, for_exchanges, for_nobody}
use Rattle.decide_tvr.specs.Bits.{joined}
use Rattle.select_search.specs.Search.{Search, most_exchanges}
use Rattle.select_laws.specs.Follows.{reasons}
use Rattle.tape_read.specs.Entries.{Entry}
use Rattle.sessions.specs.Rules.{asks, hears, decides}
use Rattle.sessions.specs.Session.{exchanged, heard, decided}
use Rattle.sessions.specs.Stated.{InRow}
use Rattle.rulebook.specs.Phase.{optioning, situation_of, tvr_of, tsi_of}
use Rattle.rulebook.specs.Later.{AskedLater, HeardLater}
use Rattle.rulebook_choosing.specs.Choosing.{Choosing, ChoosingPhase, further}
use Rattle.rulebook_choosing.specs.Session.{Plays}

-- ---- how a selection goes on and ends

-- the exchange that is due, or the last one that was made where a choice is
abbrev pub exchanges_of : Choosing → ℕ
exchanges_of x = x.search.stand.exchanges

-- after an answer: the card is asked again; a choice is due; GPO is asked; or the session ends with 1, 9, 11 or 12. What is known
-- is in each of them what it was
pub data GoesOn (x : Choosing) : ChoosingPhase → Type 0 where
  asked : (s : Search) → s.stand.exchanges ≡ exchanges_of x + 1 → exchanges_of x < most_exchanges
      → GoesOn x (asks (AskedLater.new (further s x)))
  shown : (s : Search) → s.stand.exchanges ≡ exchanges_of x → exchanges_of x < most_exchanges
      → GoesOn x (hears (HeardLater.new (further s x)))
  ran : (list : List ℕ) → GoesOn x (asks (AskedLater.was (optioning x.situation list)))
  ended : (reason : ℕ) → listed reason reasons ≡ true → GoesOn x (decides terminated reason x.situation)

-- after a choice: the application is sent, or the session ends with 11 or 12
pub data Takes (x : Choosing) : ChoosingPhase → Type 0 where
  sent : (s : Search) → s.stand.exchanges ≡ exchanges_of x + 1 → exchanges_of x < most_exchanges
      → Takes x (asks (AskedLater.new (further s x)))
  stopped : (reason : ℕ) → listed reason (for_exchanges ∷ for_nobody ∷ []) ≡ true → Takes x (decides terminated reason x.situation)

-- ---- a hundred exchanges

-- what a selection is made of
pub data Act : Type 0 where
  exchange : Act
  choice : Act

unfoldable pub asked_act : AskedLater Choosing → List Act → List Act
asked_act (AskedLater.was w) acts = []
asked_act (AskedLater.new x) acts = exchange ∷ acts

unfoldable pub heard_act : HeardLater Choosing → List Act → List Act
heard_act (HeardLater.was h) acts = acts
heard_act (HeardLater.new x) acts = choice ∷ acts

-- the exchanges and choices of a session's selection, in their order: those before the first command of today's rules
unfoldable pub acts_of : {p : ChoosingPhase} {es : List Entry} → Plays p es → List Act
acts_of (exchanged {w} f ok play) = asked_act w (acts_of play)
acts_of (heard {h} f fits ok play) = heard_act h (acts_of play)
acts_of (decided f) = []

-- at most so many exchanges, and before each at most one choice; with a choice of none of those shown a selection ends
pub data Within : ℕ → List Act → Type 0 where
  done : {n : ℕ} → Within n []
  alone : {n : ℕ} {acts : List Act} → Within n acts → Within (suc n) (exchange ∷ acts)
  chosen : {n : ℕ} {acts : List Act} → Within n acts → Within (suc n) (choice ∷ exchange ∷ acts)
  none : {n : ℕ} → Within (suc n) (choice ∷ [])

-- of a whole session: none, or an exchange first, and ninety-nine more
pub data Hundred : List Act → Type 0 where
  unlisted : Hundred []
  begun : {acts : List Act} → Within 99 acts → Hundred (exchange ∷ acts)

-- ---- no bit is cleared

unfoldable pub tvr_in : ChoosingPhase → List ℕ
tvr_in (asks (AskedLater.was w)) = (situation_of w).tvr
tvr_in (asks (AskedLater.new x)) = x.situation.tvr
tvr_in (hears (HeardLater.was h)) = tvr_of (hears h)
tvr_in (hears (HeardLater.new x)) = x.situation.tvr
tvr_in (decides outcome reason s) = s.tvr

unfoldable pub tsi_in : ChoosingPhase → List ℕ
tsi_in (asks (AskedLater.was w)) = (situation_of w).tsi
tsi_in (asks (AskedLater.new x)) = x.situation.tsi
tsi_in (hears (HeardLater.was h)) = tsi_of (hears h)
tsi_in (hears (HeardLater.new x)) = x.situation.tsi
tsi_in (decides outcome reason s) = s.tsi

-- every bit that is set in a phase is set in another
pub record Grows (p q : ChoosingPhase) : Type 0 where
  pub tvr : joined (tvr_in p) (tvr_in q) ≡ tvr_in q
  pub tsi : joined (tsi_in p) (tsi_in q) ≡ tsi_in q

-- phases in a row, no bit cleared from one to the next
abbrev pub Growing : List ChoosingPhase → Type 0
Growing = InRow Grows
