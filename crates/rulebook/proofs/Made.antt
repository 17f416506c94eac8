-- What the named sessions are made of: the bytes of each entry, and how a session is read to its end by computation. Nothing is
-- claimed here but that.
-- Assumes nothing.
use mathlib.Core.Path.{◌≡◌, refl, ap}
use mathlib.Core.Bool.{Bool, true, false, false≢true}
use mathlib.Core.List.{List, [], ◌∷◌, ◌++◌}
use mathlib.Core.Option.{Option, none, some}
use Prim.Native.Nat.{ℕ}
use native.Mathlib.Omega.{arith}
use lib.Dec.{eqb}
use lib.ListN.{length}
use borrow.Author.Tests.{eqb-false}
use Rattle.slices.specs.Tests.{is_some}
use Rattle.start_fields.proofs.Sample.{filled}
use Rattle.numbers.specs.Tables.{start, command, answer, silence, decision}
use Rattle.tape_read.specs.Entries.{Entry, entry}
use Rattle.sessions.specs.Machine.{run}
use Rattle.sessions.proofs.Running.{run_session}
use Rattle.sessions.proofs.Reading.{silence_refused}
use Rattle.sessions.proofs.Breaks.{break_here}
use Rattle.sessions.proofs.States.{state_lawful, stopped_breaks, refused_breaks}
use Rattle.rulebook.specs.Phase.{Phase, opens}
use Rattle.rulebook.specs.Session.{rules, Session, BreaksAt}
use Rattle.rulebook.specs.Machine.{Machine, at, owes, done}
use Rattle.rulebook.proofs.Opening.{reached}
use Rattle.rulebook.proofs.Kept.{kept}

-- a terminal of a type with an amount, the year of its date, and the first byte of its denial code: floor limit 10000, random number
-- 40, target 10, threshold 5000, maximum 70, 30 June, all other action codes zero, AID A000000003; without Terminal Capabilities
abbrev short_in : ℕ → ℕ → List ℕ → ℕ → List ℕ
short_in year kind amount denial =
    kind
    ∷ (amount
    ++ (0 ∷ 0 ∷ 0 ∷ 0 ∷ 0 ∷ 0 ∷ 0x08 ∷ 0x26 ∷ 0x08 ∷ 0x26 ∷ year ∷ 0x06 ∷ 0x30 ∷ 0 ∷ 0x11 ∷ 0x22 ∷ 0x33 ∷ 0x44
    ∷ 0 ∷ 0 ∷ 0 ∷ 1 ∷ 0 ∷ 0 ∷ 40 ∷ 10 ∷ 0 ∷ 0 ∷ 0 ∷ 0 ∷ 0x50 ∷ 0 ∷ 70 ∷ 0 ∷ 2
    ∷ denial ∷ 0 ∷ 0 ∷ 0 ∷ 0 ∷ 0 ∷ 0 ∷ 0 ∷ 0 ∷ 0 ∷ 0 ∷ 0 ∷ 0 ∷ 0 ∷ 0
    ∷ 5 ∷ 0xA0 ∷ 0 ∷ 0 ∷ 0 ∷ 3 ∷ 0 ∷ 0 ∷ 0 ∷ 0 ∷ 0 ∷ 0 ∷ 0 ∷ 0 ∷ 0 ∷ 0 ∷ 0
    ∷ []))

-- the same with Terminal Capabilities: every means of verification
abbrev pub start_in : ℕ → ℕ → List ℕ → ℕ → List ℕ
start_in year kind amount denial = filled (short_in year kind amount denial ++ (0xE0 ∷ 0xF8 ∷ 0xC8 ∷ []))

-- in 2025
abbrev pub start_with : ℕ → List ℕ → ℕ → List ℕ
start_with kind amount denial = start_in 0x25 kind amount denial

-- an amount below 10000, by its last two bytes
abbrev pub amount_of : ℕ → ℕ → List ℕ
amount_of high low = 0 ∷ 0 ∷ 0 ∷ 0 ∷ high ∷ low ∷ []

-- amount 7500, no denial code
abbrev pub start_of : ℕ → List ℕ
start_of kind = start_with kind (amount_of 0x75 0x00) 0

-- the same in the 74 bytes of old
abbrev pub short_of : ℕ → List ℕ
short_of kind = short_in 0x25 kind (amount_of 0x75 0x00) 0

-- SELECT, and an answer with the application's name and an empty A5
abbrev pub select : List ℕ
select = 0x00 ∷ 0xA4 ∷ 0x04 ∷ 0x00 ∷ 0x05 ∷ 0xA0 ∷ 0 ∷ 0 ∷ 0 ∷ 3 ∷ 0x00 ∷ []

abbrev pub selected : List ℕ
selected = 0x6F ∷ 0x09 ∷ 0x84 ∷ 0x05 ∷ 0xA0 ∷ 0 ∷ 0 ∷ 0 ∷ 3 ∷ 0xA5 ∷ 0x00 ∷ 0x90 ∷ 0x00 ∷ []

-- GPO with no data, and an answer with an AIP and an AFL of one entry
abbrev pub options : List ℕ
options = 0x80 ∷ 0xA8 ∷ 0x00 ∷ 0x00 ∷ 0x02 ∷ 0x83 ∷ 0x00 ∷ 0x00 ∷ []

abbrev pub profiled : ℕ → ℕ → ℕ → List ℕ
profiled profile first last = 0x77 ∷ 0x0A ∷ 0x82 ∷ 0x02 ∷ profile ∷ 0x00 ∷ 0x94 ∷ 0x04 ∷ 0x08 ∷ first ∷ last ∷ 0x00 ∷ 0x90 ∷ 0x00 ∷ []

abbrev pub optioned : ℕ → ℕ → List ℕ
optioned first last = profiled 0x00 first last

-- an answer to SELECT whose 9F38 asks for the unpredictable number, and the GPO that then is due
abbrev pub with_list : List ℕ
with_list =
    0x6F ∷ 0x0F ∷ 0x84 ∷ 0x05 ∷ 0xA0 ∷ 0 ∷ 0 ∷ 0 ∷ 3 ∷ 0xA5 ∷ 0x06 ∷ 0x9F ∷ 0x38 ∷ 0x03 ∷ 0x9F ∷ 0x37 ∷ 0x04 ∷ 0x90 ∷ 0x00 ∷ []

abbrev pub with_number : List ℕ
with_number = 0x80 ∷ 0xA8 ∷ 0x00 ∷ 0x00 ∷ 0x06 ∷ 0x83 ∷ 0x04 ∷ 0x11 ∷ 0x22 ∷ 0x33 ∷ 0x44 ∷ 0x00 ∷ []

-- READ RECORD, and a record with all that is mandatory and action codes of zeros; its 8C is three bytes, and its 8D is empty where
-- nothing else is said
abbrev pub read_one : List ℕ
read_one = 0x00 ∷ 0xB2 ∷ 0x01 ∷ 0x0C ∷ 0x00 ∷ []

abbrev pub recorded_in : ℕ → ℕ → List ℕ → List ℕ → List ℕ
recorded_in expiry size list second =
    0x70 ∷ size ∷ 0x5A ∷ 0x02 ∷ 0x12 ∷ 0x34 ∷ 0x5F ∷ 0x24 ∷ 0x03 ∷ expiry ∷ 0x12 ∷ 0x31 ∷ 0x8C ∷ 0x03
    ∷ (list
    ++ (0x8D
    ∷ (second ++ (0x9F ∷ 0x0D ∷ 0x05 ∷ 0 ∷ 0 ∷ 0 ∷ 0 ∷ 0 ∷ 0x9F ∷ 0x0F ∷ 0x05 ∷ 0 ∷ 0 ∷ 0 ∷ 0 ∷ 0 ∷ 0x90 ∷ 0x00 ∷ []))))

abbrev pub recorded_with : ℕ → List ℕ → List ℕ → List ℕ
recorded_with size list second = recorded_in 0x30 size list second

abbrev pub recorded : List ℕ → List ℕ
recorded list = recorded_with 0x21 list (0x00 ∷ [])

-- the unpredictable number is asked for
abbrev pub number : List ℕ
number = 0x9F ∷ 0x37 ∷ 0x04 ∷ []

-- a record of a card that expires on 31 December of a year
abbrev pub expiring : ℕ → List ℕ
expiring year = recorded_in year 0x21 number (0x00 ∷ [])

-- GENERATE AC, the first with the unpredictable number, the second with no data; and an answer with a cryptogram
abbrev pub first_asked : ℕ → List ℕ
first_asked request = 0x80 ∷ 0xAE ∷ request ∷ 0x00 ∷ 0x04 ∷ 0x11 ∷ 0x22 ∷ 0x33 ∷ 0x44 ∷ 0x00 ∷ []

abbrev pub second_asked : ℕ → List ℕ
second_asked request = 0x80 ∷ 0xAE ∷ request ∷ 0x00 ∷ 0x00 ∷ []

abbrev pub given : ℕ → List ℕ
given cid = 0x80 ∷ 0x0B ∷ cid ∷ 0 ∷ 1 ∷ 0 ∷ 0 ∷ 0 ∷ 0 ∷ 0 ∷ 0 ∷ 0 ∷ 0 ∷ 0x90 ∷ 0x00 ∷ []

-- AAC, TC, ARQC
abbrev pub aac : ℕ
aac = 0x00

abbrev pub tc : ℕ
tc = 0x40

abbrev pub arqc : ℕ
arqc = 0x80

-- the decision: outcome, reason, first byte of the TVR, first byte of the TSI; the other bytes are zeros
abbrev pub decides : ℕ → ℕ → ℕ → ℕ → List Entry
decides outcome reason tvr tsi = entry decision (outcome ∷ reason ∷ tvr ∷ 0 ∷ 0 ∷ 0 ∷ 0 ∷ tsi ∷ 0 ∷ []) ∷ []

abbrev pub exchange : List ℕ → List ℕ → List Entry
exchange c a = entry command c ∷ entry answer a ∷ []

-- up to the first GENERATE AC
abbrev pub opening_with : ℕ → List ℕ → List Entry
opening_with kind record' =
    entry start (start_of kind) ∷ (exchange select selected ++ (exchange options (optioned 1 1) ++ exchange read_one record'))

abbrev pub opening : ℕ → List Entry
opening kind = opening_with kind (recorded number)

-- a list that the machine reads to its end is a session
pub reads : (es : List Entry) → reached es ≡ some done → Session es
unfolding reached
reads es h = run_session rules es h

some_state : (o : Option Machine) → is_some o ≡ true → (σ : Machine) × (o ≡ some σ)
unfolding is_some
some_state none h = absurd (false≢true h)
some_state (some σ) h = (σ, refl)

-- one that it reads, but not with one more entry that is no silence, breaks at that entry
pub breaks : (es : List Entry) (e : Entry) (more : List Entry) → is_some (reached es) ≡ true → reached (es ++ (e ∷ [])) ≡ none
    → eqb e.kind silence ≡ false → BreaksAt (es ++ (e ∷ more)) (length es)
unfolding reached
breaks es e more read stopped other =
    let there = some_state (run rules es (at opens)) read in
    break_here kept es e more (state_lawful kept es there.0 there.1)
    (stopped_breaks kept es e stopped (λ same. eqb-false e.kind silence other (ap (λ (x : Entry). x.kind) same)))

-- a phase, and no command that awaits its answer
unfoldable pub is_phase : Option Machine → Bool
is_phase none = false
is_phase (some (at p)) = true
is_phase (some (owes w)) = false
is_phase (some done) = false

some_phase : (o : Option Machine) → is_phase o ≡ true → (p : Phase) × (o ≡ some (at p))
unfolding is_phase
some_phase none h = absurd (false≢true h)
some_phase (some (at p)) h = (p, refl)
some_phase (some (owes w)) h = absurd (false≢true h)
some_phase (some done) h = absurd (false≢true h)

-- where something else is due than the card's answer, a silence breaks
pub silent : (es more : List Entry) → is_phase (reached es) ≡ true → BreaksAt (es ++ (entry silence [] ∷ more)) (length es)
unfolding reached
silent es more read =
    let there = some_phase (run rules es (at opens)) read in
    let σ = at there.0 in
    break_here kept es (entry silence []) more (state_lawful kept es σ there.1)
    (refused_breaks kept es σ (entry silence []) there.1 (silence_refused kept σ [])
    (λ w e same. let z : ◌≡◌ {A = ℕ} 0 1 = cc in omega arith))
