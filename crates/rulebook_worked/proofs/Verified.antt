-- Sessions with cardholder verification (02, R-7): START has 77 bytes, the card's AIP has '10', and a record tells a list 8E, so that the
-- results are due after the last record. Beside them those in which they are not due. Each is read to its end by computation.
-- Assumes nothing.
use mathlib.Core.Path.{refl}
use mathlib.Core.List.{List, [], ◌∷◌, ◌++◌}
use Prim.Native.Nat.{ℕ, ◌+◌}
use lib.ListN.{length}
use Rattle.numbers.specs.Tables.{start, decision, results}
use Rattle.tape_read.specs.Entries.{Entry, entry}
use Rattle.rulebook.specs.Session.{Session}
use Rattle.rulebook.proofs.Opening.{reached}
use Rattle.rulebook.proofs.Made.{short_of, select, selected, options, profiled, read_one, given, aac, tc, exchange, reads}

-- ---- what they are made of

-- a terminal of type 2 with this byte 2 of its capabilities
abbrev pub start_for : ℕ → List ℕ
start_for means = short_of 2 ++ (0xE0 ∷ means ∷ 0xC8 ∷ [])

-- offline PIN; signature; both
abbrev pub pin : ℕ
pin = 0x80

abbrev pub signature : ℕ
signature = 0x20

abbrev pub both : ℕ
both = 0xA0

-- the AIP's bit
abbrev pub supported : ℕ
supported = 0x10

-- a record with all that is mandatory, action codes of zeros, this 8C, and more
abbrev pub record_of : List ℕ → List ℕ → List ℕ
record_of list more =
    0x70 ∷ (30 + length list + length more)
    ∷ 0x5A ∷ 0x02 ∷ 0x12 ∷ 0x34
    ∷ 0x5F ∷ 0x24 ∷ 0x03 ∷ 0x30 ∷ 0x12 ∷ 0x31
    ∷ 0x9F ∷ 0x0D ∷ 0x05 ∷ 0 ∷ 0 ∷ 0 ∷ 0 ∷ 0
    ∷ 0x9F ∷ 0x0F ∷ 0x05 ∷ 0 ∷ 0 ∷ 0 ∷ 0 ∷ 0
    ∷ 0x8D ∷ 0x00
    ∷ 0x8C ∷ length list ∷ (list ++ (more ++ (0x90 ∷ 0x00 ∷ [])))

-- 8E with amounts of zero and these rules
abbrev pub list_of : List ℕ → List ℕ
list_of rules = 0x8E ∷ (8 + length rules) ∷ 0 ∷ 0 ∷ 0 ∷ 0 ∷ 0 ∷ 0 ∷ 0 ∷ 0 ∷ rules

-- 9F0E, denial where cardholder verification was not successful
abbrev pub denying : List ℕ
denying = 0x9F ∷ 0x0E ∷ 0x05 ∷ 0 ∷ 0 ∷ 0x80 ∷ 0 ∷ 0 ∷ []

-- an 8C that asks for the TVR, and the first GENERATE AC that then is due, by byte 3
abbrev pub tvr : List ℕ
tvr = 0x95 ∷ 0x05 ∷ []

abbrev pub asked_with : ℕ → ℕ → List ℕ
asked_with request byte3 = 0x80 ∷ 0xAE ∷ request ∷ 0x00 ∷ 0x05 ∷ 0x80 ∷ 0x00 ∷ byte3 ∷ 0x00 ∷ 0x00 ∷ 0x00 ∷ []

-- up to the last record: seven entries
abbrev pub read_up_to : List ℕ → ℕ → List ℕ → List Entry
read_up_to begun aip told =
    entry start begun ∷ (exchange select selected ++ (exchange options (profiled aip 1 1) ++ exchange read_one told))

-- the decision: outcome, reason, byte 3 of the TVR, byte 1 of the TSI; byte 1 of the TVR says that data were not authenticated
abbrev pub settles : ℕ → ℕ → ℕ → ℕ → List Entry
settles outcome reason byte3 tsi = entry decision (outcome ∷ reason ∷ 0x80 ∷ 0 ∷ byte3 ∷ 0 ∷ 0 ∷ tsi ∷ 0 ∷ []) ∷ []

-- a list of rules with its results: the TVR that the card is sent with the first request, and the decision
abbrev pub approved_with : ℕ → List ℕ → List ℕ → ℕ → List Entry
approved_with means rules said byte3 =
    read_up_to (start_for means) supported (record_of tvr (list_of rules))
    ++ (entry results said ∷ (exchange (asked_with tc byte3) (given tc) ++ settles 1 0 byte3 0x60))

-- ---- success

-- offline PIN succeeds, by a terminal that has it: byte 3 stays 00, and verification was performed
pub offline_pin : Session (approved_with pin (0x01 ∷ 0x00 ∷ []) (1 ∷ []) 0x00)
unfolding reached
offline_pin = reads _ refl

pub signed : Session (approved_with signature (0x1E ∷ 0x00 ∷ []) (1 ∷ []) 0x00)
unfolding reached
signed = reads _ refl

-- no tries are left for the PIN; its rule goes on, and the signature succeeds: b6 stays beside that success
pub second_rule : Session (approved_with both (0x41 ∷ 0x00 ∷ 0x1E ∷ 0x00 ∷ []) (4 ∷ 1 ∷ []) 0x20)
unfolding reached
second_rule = reads _ refl

-- a result that is handed in for a rule that is never tried counts for nothing
pub untried : Session (approved_with both (0x01 ∷ 0x00 ∷ 0x1E ∷ 0x00 ∷ []) (1 ∷ 4 ∷ []) 0x00)
unfolding reached
untried = reads _ refl

-- ---- failure

-- where no action code asks for more, byte 3 b8 is sent and recorded
pub pin_failed : Session (approved_with pin (0x01 ∷ 0x00 ∷ []) (0 ∷ []) 0x80)
unfolding reached
pin_failed = reads _ refl

-- where the denial code has the bit, AAC is due: the request is chosen with byte 3 in place
abbrev pub denied_up_to : List Entry
denied_up_to = read_up_to (start_for pin) supported (record_of tvr (list_of (0x01 ∷ 0x00 ∷ []) ++ denying))

pub failed_denied : Session
    (denied_up_to ++ (entry results (0 ∷ []) ∷ (exchange (asked_with aac 0x80) (given aac) ++ settles 2 0 0x80 0x60)))
unfolding reached
failed_denied = reads _ refl

-- and where the PIN succeeds, the same code denies nothing
pub verified_allowed : Session
    (denied_up_to ++ (entry results (1 ∷ []) ∷ (exchange (asked_with tc 0x00) (given tc) ++ settles 1 0 0x00 0x60)))
unfolding reached
verified_allowed = reads _ refl

-- a list of eight bytes has no rules: no results are due, but an entry is, and the list is exhausted at once
pub no_rules : Session (approved_with pin [] [] 0x80)
unfolding reached
no_rules = reads _ refl

-- ---- where no results are due

abbrev pub without : List ℕ → ℕ → List ℕ → List Entry
without begun aip told = read_up_to begun aip told ++ (exchange (asked_with tc 0x00) (given tc) ++ settles 1 0 0x00 0x20)

-- the AIP without its bit; with it, and no 8E; START of 74 bytes, to which 8E is nothing
pub not_due :
    Session (without (start_for pin) 0x00 (record_of tvr (list_of (0x01 ∷ 0x00 ∷ []))))
    × Session (without (start_for pin) supported (record_of tvr []))
    × Session (without (short_of 2) supported (record_of tvr (list_of (0x01 ∷ 0x00 ∷ []))))
unfolding reached
not_due = (reads _ refl, reads _ refl, reads _ refl)

-- ---- reasons 8 and 9

-- an 8C that breaks off is found after the results, so that the bits of verification stand in the decision
pub list_broken : Session
    (read_up_to (start_for pin) supported (record_of (0x95 ∷ 0x01 ∷ 0x9F ∷ []) (list_of (0x01 ∷ 0x00 ∷ [])))
    ++ (entry results (3 ∷ []) ∷ settles 3 9 0x88 0x40))
unfolding reached
list_broken = reads _ refl

-- what is missing is found before them
pub nothing_told : Session
    (read_up_to (start_for pin) supported (0x70 ∷ 0x0C ∷ (list_of (0x01 ∷ 0x00 ∷ []) ++ (0x90 ∷ 0x00 ∷ [])))
    ++ (entry decision (3 ∷ 8 ∷ 0 ∷ 0 ∷ 0 ∷ 0 ∷ 0 ∷ 0 ∷ 0 ∷ []) ∷ []))
unfolding reached
nothing_told = reads _ refl
