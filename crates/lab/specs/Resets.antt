-- What an answer to reset tells, as numbers (02, R-1): twelve where it is accepted; else four, and zeros behind them.
-- Assumes nothing.
use Rattle.std.specs.Prelude.{Bool, true, false, List, [], ◌∷◌, ◌++◌, Result, Ok, Err, ℕ}
use Rattle.atr.specs.declared.Reset.{Reset}
use Rattle.atr.specs.declared.Broken.{Broken}
use Rattle.atr.specs.declared.Protocol.{Protocol}
use Rattle.atr.specs.declared.Protocol.TheVariants.{T0, T1}
use Rattle.atr.specs.declared.Told.{Told}

unfoldable pub bit : Bool → ℕ
bit true = 1
bit false = 0

-- the protocol, and its parameters: WI; or IFSC, BWI and CWI
unfoldable pub laid_protocol : Protocol → List ℕ
laid_protocol (T0 wi) = 0 ∷ wi ∷ 0 ∷ 0 ∷ []
laid_protocol (T1 ifsc bwi cwi) = 1 ∷ ifsc ∷ bwi ∷ cwi ∷ []

unfoldable pub laid_told : ℕ → Told → List ℕ
laid_told inverse t =
    inverse ∷ t.f ∷ t.d ∷ t.n ∷ t.interval ∷ bit t.specific ∷ (laid_protocol t.protocol ++ (t.start ∷ t.end ∷ []))

-- the rules broken as bits, the first of them, and its place
unfoldable pub laid_broken : ℕ → Broken → List ℕ
laid_broken inverse b = inverse ∷ b.rules ∷ b.first ∷ b.place ∷ 0 ∷ 0 ∷ 0 ∷ 0 ∷ 0 ∷ 0 ∷ 0 ∷ 0 ∷ []

unfoldable pub laid_reading : ℕ → Result Told Broken → List ℕ
laid_reading inverse (Ok t) = laid_told inverse t
laid_reading inverse (Err b) = laid_broken inverse b

unfoldable pub accepts : Result Told Broken → Bool
accepts (Ok t) = true
accepts (Err b) = false

abbrev pub is_accepted : Reset → Bool
is_accepted a = accepts a.reading

abbrev pub laid_reset : Reset → List ℕ
laid_reset a = laid_reading (bit a.inverse) a.reading
