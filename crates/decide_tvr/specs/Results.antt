-- The TVR (five bytes) and the TSI (two): 01, "From facts to a decision". The bits are those of 003, Annex A5 and A6. Both
-- start as zeros, and a bit is only ever joined to what stands there.
-- Assumes nothing.
use Rattle.std.specs.Prelude.{Bool, false, not, List, [], ◌∷◌, ℕ, ◌+◌, leb, ltb, eqb, get_or}
use Rattle.std.proofs.Math.Option
use Rattle.std.proofs.Math.Option.{Option, some, none}
use Rattle.std.specs.Int.Bits.{bit_and}
use Rattle.slices.specs.Choice.{pick}
use Rattle.slices.specs.Tests.{every, alike}
use Rattle.decimal_dates.specs.Dates.{date_key}
use Rattle.start_fields.specs.Reading.{Terminal, amount_of, floor_limit_of}
use Rattle.decide_tvr.specs.Bits.{joined, flag}
use Rattle.facts.specs.Facts.{Facts}
use Rattle.decide_tvr.specs.Selection.{selected}

-- 9F08 is there and differs from the terminal's version (003, 7.4.1)
unfoldable pub different_versions : Terminal → Option (List ℕ) → Bool
different_versions t none = false
different_versions t (some version) = not (alike version t.version)

-- 5F24 lies before the transaction date (003, 7.4.3)
unfoldable pub expired : Terminal → List ℕ → Bool
expired t expiry = ltb (date_key expiry) (date_key t.date)

-- 5F25 is there and lies after it (003, 7.4.3)
unfoldable pub not_yet_effective : Terminal → Option (List ℕ) → Bool
not_yet_effective t none = false
not_yet_effective t (some effective) = ltb (date_key t.date) (date_key effective)

-- the card asks for terminal risk management: '08' in byte 1 of the AIP (003, 7.6)
unfoldable pub risk_managed : List ℕ → Bool
risk_managed aip = not (eqb (bit_and (get_or aip 0 0) 0x08) 0)

-- the amount has reached the floor limit (003, 7.6.1)
unfoldable pub at_floor_limit : Terminal → Bool
at_floor_limit t = leb (floor_limit_of t) (amount_of t)

-- a terminal of type 2, an amount below the floor limit, and the lot fell on it (003, 7.6.2)
unfoldable pub drawn : Terminal → Bool
drawn t = every (eqb t.kind 2 ∷ ltb (amount_of t) (floor_limit_of t) ∷ selected t ∷ [])

-- byte 1: b8, data authentication was not performed
abbrev pub authentication : ℕ
authentication = 0x80

-- byte 2: b8 different versions, b7 expired, b6 not yet effective
unfoldable pub restrictions : Terminal → Facts → ℕ
restrictions t told =
    flag (different_versions t (told 0x9F08)) 0x80
    + (flag (expired t (Option.get_or (told 0x5F24) [])) 0x40 + flag (not_yet_effective t (told 0x5F25)) 0x20)

-- byte 4: b8 floor limit, b5 selected at random
unfoldable pub risks : Terminal → List ℕ → ℕ
risks t aip = pick (risk_managed aip) (flag (at_floor_limit t) 0x80 + flag (drawn t) 0x10) 0

-- after the last record, given the AIP and what the records told
unfoldable pub tvr_after_records : Terminal → List ℕ → Facts → List ℕ → List ℕ
tvr_after_records t aip told tvr = joined tvr (authentication ∷ restrictions t told ∷ 0 ∷ risks t aip ∷ 0 ∷ [])

-- byte 1: b4, terminal risk management was performed
unfoldable pub tsi_after_records : List ℕ → List ℕ → List ℕ
tsi_after_records aip tsi = joined tsi (flag (risk_managed aip) 0x08 ∷ 0 ∷ [])

-- byte 1: b6, card risk management was performed; an allowed first answer sets it
unfoldable pub tsi_after_first_answer : List ℕ → List ℕ
tsi_after_first_answer tsi = joined tsi (0x20 ∷ 0 ∷ [])
