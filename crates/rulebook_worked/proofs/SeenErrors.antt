-- The errors that 01 has seen in approved products, but for the last, which is `LastEntry` of `rulebook`: each time a session that is
-- one, and beside it what such a product puts on the tape, which breaks the rules at the entry named.
-- Assumes nothing.
use mathlib.Core.Path.{refl}
use mathlib.Core.List.{List, [], ◌∷◌, ◌++◌}
use Prim.Native.Nat.{ℕ}
use Rattle.slices.specs.Tests.{is_some}
use Rattle.numbers.specs.Tables.{start, command, answer, decision}
use Rattle.tape_read.specs.Entries.{Entry, entry}
use Rattle.rulebook.specs.Session.{Session, BreaksAt}
use Rattle.rulebook.proofs.Opening.{reached}
use Rattle.rulebook.proofs.Made.{start_with, start_of, amount_of, select, selected, options, profiled, read_one, recorded}
use Rattle.rulebook.proofs.Made.{number, first_asked, given, aac, tc, arqc, decides, exchange, reads, breaks}

-- ---- floor limit and selection

-- up to the decision, for a card that wants the amount looked at: type 2, no code matches
abbrev looked : List ℕ → List Entry
looked amount =
    entry start (start_with 2 amount 0)
    ∷ (exchange select selected
    ++ (exchange options (profiled 0x08 1 1) ++ (exchange read_one (recorded number) ++ exchange (first_asked tc) (given tc))))

-- approved, with the fourth byte of the TVR
abbrev risk : ℕ → Entry
risk byte = entry decision (1 ∷ 0 ∷ 0x80 ∷ 0 ∷ 0 ∷ byte ∷ 0 ∷ 0x28 ∷ 0 ∷ [])

-- the floor limit itself, 10000, is not below the floor limit
pub floor_limit_lem : Session (looked (0 ∷ 0 ∷ 0 ∷ 1 ∷ 0 ∷ 0 ∷ []) ++ (risk 0x80 ∷ []))
    × BreaksAt (looked (0 ∷ 0 ∷ 0 ∷ 1 ∷ 0 ∷ 0 ∷ []) ++ (risk 0x00 ∷ [])) 9
unfolding reached is_some
floor_limit_lem = (reads _ refl, breaks (looked (0 ∷ 0 ∷ 0 ∷ 1 ∷ 0 ∷ 0 ∷ [])) (risk 0x00) [] refl refl refl)

-- nothing is rounded: random number 40 selects at 7500 and not at 7499 (cases J and K)
pub not_rounded : Session (looked (amount_of 0x75 0x00) ++ (risk 0x10 ∷ [])) × Session (looked (amount_of 0x74 0x99) ++ (risk 0x00 ∷ []))
    × BreaksAt (looked (amount_of 0x74 0x99) ++ (risk 0x10 ∷ [])) 9
unfolding reached is_some
not_rounded = (reads _ refl, reads _ refl, breaks (looked (amount_of 0x74 0x99)) (risk 0x10) [] refl refl refl)

-- ---- requests

-- a record with all that is mandatory and no action codes
abbrev uncoded : List ℕ
uncoded =
    0x70 ∷ 0x11 ∷ 0x5A ∷ 0x02 ∷ 0x12 ∷ 0x34 ∷ 0x5F ∷ 0x24 ∷ 0x03 ∷ 0x30 ∷ 0x12 ∷ 0x31 ∷ 0x8C ∷ 0x03 ∷ 0x9F ∷ 0x37 ∷ 0x04 ∷ 0x8D ∷ 0x00
    ∷ 0x90 ∷ 0x00
    ∷ []

abbrev without_codes : List Entry
without_codes =
    entry start (start_of 0)
    ∷ (exchange select selected ++ (exchange options (profiled 0x00 1 1) ++ exchange read_one uncoded))

abbrev denied : List Entry
denied =
    entry start (start_with 1 (amount_of 0x75 0x00) 0x80)
    ∷ (exchange select selected ++ (exchange options (profiled 0x00 1 1) ++ exchange read_one (recorded number)))

abbrev declining : List Entry
declining = exchange (first_asked aac) (given aac) ++ decides 2 0 0x80 0x20

-- an absent default code is all ones: type 0 asks AAC, and no TC
pub absent_default : Session (without_codes ++ declining)
    × BreaksAt (without_codes ++ (exchange (first_asked tc) (given tc) ++ decides 1 0 0x80 0x20)) 7
unfolding reached is_some
absent_default =
    (reads _ refl, breaks without_codes (entry command (first_asked tc)) (entry answer (given tc) ∷ decides 1 0 0x80 0x20) refl refl refl)

-- a denial match goes before the terminal's type: type 1 asks AAC, and not ARQC
pub denial_first : Session (denied ++ declining) × BreaksAt (denied ++ exchange (first_asked arqc) (given arqc)) 7
unfolding reached is_some
denial_first = (reads _ refl, breaks denied (entry command (first_asked arqc)) (entry answer (given arqc) ∷ []) refl refl refl)
