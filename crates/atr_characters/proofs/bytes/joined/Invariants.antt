-- `bytes::joined` meets its contract. The loop's invariant: what is joined so far, with the bytes that are left, gives what the
-- whole gives.
-- Assumes nothing.
use mathlib.Core.Path.{◌≡◌}
use lib.ListN.{drop}
use Rattle.atr_characters.specs.Data.{data_of, joined_from}
use Rattle.atr_characters.proofs.bytes.joined.Given as goal

abbrev pub invariant-loop-b : goal.invariant-loop-b
invariant-loop-b l = joined_from l.x (data_of l.inverse (drop l.b-index l.s)) ≡ joined_from 0 (data_of l.inverse l.s)
