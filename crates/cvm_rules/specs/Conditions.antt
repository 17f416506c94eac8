-- The conditions of a verification list: 003, Table A-4.
-- Assumes nothing.
use Rattle.std.specs.Prelude.{Bool, true, false, not, ◌&&◌, ◌||◌, List, [], ◌∷◌, ℕ, ltb, eqb}
use Rattle.slices.specs.Tables.{beside}
use Rattle.cvm_rules.specs.Methods.{supported}
use Rattle.cvm_rules.specs.declared.Method.{Method}
use Rattle.cvm_rules.specs.declared.Circumstances.{Circumstances}

-- cash: 9C is 01; cashback: 9F03 is not zero
abbrev pub is_cash : Circumstances → Bool
is_cash c = eqb c.kind 1 || not (eqb c.other 0)

-- 003, Table A-4, given X, Y and the rule's method. 05: no terminal that is judged here has a pad that it supports and that is known
-- beforehand not to work
abbrev pub conditions : Circumstances → ℕ → ℕ → Method → List (ℕ × Bool)
conditions c x y m =
    (0x00, true)
    ∷ (0x01, is_cash c)
    ∷ (0x02, not (is_cash c))
    ∷ (0x03, supported m c.means)
    ∷ (0x04, not (supported m c.means))
    ∷ (0x05, false)
    ∷ (0x06, c.home && ltb c.amount x)
    ∷ (0x07, c.home && ltb x c.amount)
    ∷ (0x08, c.home && ltb c.amount y)
    ∷ (0x09, c.home && ltb y c.amount)
    ∷ []

-- a code that is not in the table is never satisfied
unfoldable pub satisfied : Circumstances → ℕ → ℕ → Method → ℕ → Bool
satisfied c x y m code = beside false code (conditions c x y m)
