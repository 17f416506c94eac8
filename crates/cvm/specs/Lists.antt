-- A verification list (8E) and what is handed in for it: 003, 7.5, and 02, R-7.
-- Assumes nothing.
use Rattle.std.specs.Prelude.{Bool, false, List, ◌∷◌, map, ℕ, ◌+◌, ◌*◌, ◌-◌, ◌/◌, leb, eqb, length, take, drop, get_or}
use Rattle.std.proofs.Math.Option.{Option, some, none}
use Rattle.slices.specs.Tests.{every, alike}

-- four bytes, binary; those that are not there read as 0
unfoldable pub limit_of : List ℕ → ℕ
limit_of s = get_or s 0 0 * 0x1000000 + get_or s 1 0 * 0x10000 + get_or s 2 0 * 0x100 + get_or s 3 0

-- the first amount of a list, X, and the second, Y
unfoldable pub limit_x : List ℕ → ℕ
limit_x list = limit_of list

unfoldable pub limit_y : List ℕ → ℕ
limit_y list = limit_of (take 4 (drop 4 list))

-- what stands behind the amounts, two bytes a rule
unfoldable pub rules_of : List ℕ → List ℕ
rules_of list = drop 8 list

-- how many rules there are; a byte left over at the end is none
unfoldable pub rules_in : List ℕ → ℕ
rules_in list = (length list - 8) / 2

-- 0 failed, 1 succeeded, 2 no PIN pad, 3 no PIN entered, 4 tries used up (02, R-7)
unfoldable pub is_result : ℕ → Bool
is_result b = leb b 4

-- so many results, a byte for each rule in order (02, R-7: any other payload is refused)
unfoldable pub are_results : ℕ → List ℕ → Bool
are_results count payload = every (eqb (length payload) count ∷ map is_result payload)

-- 9F42 is there and is the transaction's currency, byte for byte (003, Table A-4, note 15)
unfoldable pub in_application_currency : Option (List ℕ) → List ℕ → Bool
in_application_currency none currency = false
in_application_currency (some application) currency = alike application currency
