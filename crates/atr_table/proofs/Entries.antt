-- A table of 256 entries follows the rule where one test passes, which is computed over the whole table.
-- Assumes nothing.
use mathlib.Core.Path.{◌≡◌}
use mathlib.Core.Bool.{Bool, true}
use mathlib.Core.List.{List}
use Prim.Native.Nat.{ℕ}
use native.Mathlib.Omega.{arith}
use lib.Dec.{eqb}
use lib.ListN.{length, get_or}
use borrow.Author.Tests.{eqb-true}
use Rattle.tape_crc.specs.Tables.{every}
use Rattle.tape_crc.proofs.Entries.{entry}
use Rattle.atr_table.specs.Turning.{turned, TurnedTable}

abbrev pub is_turned : ℕ → ℕ → Bool
is_turned k x = eqb x (turned k)

pub by_test : {t : List ℕ} → length t ≡ 256 → every is_turned 0 t ≡ true → TurnedTable t
by_test {t} size e = record {
  size = size;
  entries = λ k below. eqb-true (get_or t k 0) (turned k) (entry is_turned t e k (omega arith));
}
