-- Whom a session selects: only what the terminal lists, and nobody without the shopper's word. 001, 12.3.1 and 12.4; 02, R-12.
-- Assumes nothing.
use Rattle.std.specs.Prelude.{◌≡◌, true, false, List, [], ◌∷◌, ◌<◌, length}
use Rattle.start_list.specs.Listing.{Applications}
use Rattle.select_list.specs.Order.{Candidate}
use Rattle.select_list.specs.Kept.{candidate_at}
use Rattle.select_search.specs.declared.Step.{Step}
use Rattle.select_search.specs.declared.Step.TheVariants.{Environment, Directory, Listed, Final}
use Rattle.select_laws.specs.Supported.{AllSupported, OneOfStart}
use Rattle.select_laws.specs.Unasked.{TakenAt}
use Rattle.sessions.specs.Rules.{asks, hears, decides}
use Rattle.rulebook.specs.Later.{AskedLater, HeardLater}
use Rattle.rulebook_choosing.specs.Choosing.{Choosing, ChoosingPhase}

-- each of some phases is so
abbrev pub Each : {P : Type 0} → (P → Type 0) → List P → Type 0
Each Q [] = Unit {0}
Each Q (p ∷ ps) = Q p × Each Q ps

-- an application that is sent stands in the list, and where the shopper cannot choose it wants no confirmation
abbrev pub SentWell : Applications → List Candidate → Step → Type 0
SentWell t l Environment = Unit {0}
SentWell t l (Directory file number) = Unit {0}
SentWell t l (Listed aid again) = Unit {0}
SentWell t l (Final place taken) = (place < length l) × (t.choice ≡ false → (candidate_at l place).confirm ≡ false)

-- at an exchange of a selection: some AIDs are listed, everybody in the list matches one of them, an AID that is selected is one of them,
-- and who is sent for good is sent well
pub record Sound (x : Choosing) : Type 0 where
  pub some : 0 < length x.applications.list
  pub supported : AllSupported x.applications x.search.list
  pub listed : OneOfStart x.applications x.search.stand.step
  pub sent : SentWell x.applications x.search.list x.search.stand.step

-- where a choice is due the shopper can choose
pub record Offered (x : Choosing) : Type 0 where
  pub some : 0 < length x.applications.list
  pub supported : AllSupported x.applications x.search.list
  pub can : x.applications.choice ≡ true

abbrev pub SoundAt : ChoosingPhase → Type 0
SoundAt (asks (AskedLater.was w)) = Unit {0}
SoundAt (asks (AskedLater.new x)) = Sound x
SoundAt (hears (HeardLater.was h)) = Unit {0}
SoundAt (hears (HeardLater.new x)) = Offered x
SoundAt (decides outcome reason s) = Unit {0}

-- what the terminal does by itself, at a phase: whom it takes for good stands in the list and wants no confirmation, and nobody that the
-- shopper took has fallen out before
abbrev pub ByItself : ChoosingPhase → Type 0
ByItself (asks (AskedLater.was w)) = Unit {0}
ByItself (asks (AskedLater.new x)) = TakenAt x.applications x.search x.search.stand.step
ByItself (hears h) = Unit {0}
ByItself (decides outcome reason s) = Unit {0}

-- from a phase to the next: right behind a choice it is the shopper's word; else the terminal does it by itself. An exchange, a command
-- and its answer, is the same phase twice
pub data Worded : ChoosingPhase → ChoosingPhase → Type 0 where
  same : {p : ChoosingPhase} → Worded p p
  chosen : {x : Choosing} {q : ChoosingPhase} → Worded (hears (HeardLater.new x)) q
  unasked : {p q : ChoosingPhase} → ByItself q → Worded p q
