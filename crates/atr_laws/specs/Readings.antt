-- Whether a reading accepts, and whether some rule is broken.
-- Assumes nothing.
use Rattle.std.specs.Prelude.{Bool, true, false, List, map, Result, Ok, Err, ℕ}
use Rattle.slices.specs.Tables.{any_of}
use Rattle.atr_rules.specs.Lines.{Line}
use Rattle.atr.specs.Reading.{rules_of}
use Rattle.atr.specs.declared.Told.{Told}
use Rattle.atr.specs.declared.Broken.{Broken}

unfoldable pub is_accepted : Result Told Broken → Bool
is_accepted (Ok told) = true
is_accepted (Err broken) = false

-- each rule's test, in order
unfoldable pub broken_of : List Line → List Bool
broken_of lines = map (λ (x : Line). x.broken) lines

unfoldable pub some_broken : List ℕ → Bool → Bool
some_broken capture warm = any_of (broken_of (rules_of capture warm))
