-- A payload is bytes, and short enough for a tape: both ways.
-- Assumes nothing.
use mathlib.Core.Path.{◌≡◌}
use mathlib.Core.Bool.{true}
use mathlib.Core.List.{List}
use Prim.Native.Nat.{ℕ, ◌≤◌}
use lib.Dec.{leb}
use lib.ListN.{length}
use lib.Pow.{are_bytes}
use borrow.Author.Tests.{le-leb, leb-true}
use Rattle.slices.proofs.Choice.{and_left, and_right, and_both}
use Rattle.tape_read.specs.Entries.{payload_most}
use Rattle.sessions.specs.Session.{is_payload}

module _ (p : List ℕ) where
  pub payload : length p ≤ payload_most → are_bytes p ≡ true → is_payload p ≡ true
  unfolding is_payload
  payload few bytes = and_both (leb (length p) payload_most) (are_bytes p) (le-leb (length p) payload_most few) bytes

  pub payload_bytes : is_payload p ≡ true → are_bytes p ≡ true
  unfolding is_payload
  payload_bytes ok = and_right (leb (length p) payload_most) (are_bytes p) ok

  pub payload_most_lem : is_payload p ≡ true → length p ≤ payload_most
  unfolding is_payload
  payload_most_lem ok = leb-true (length p) payload_most (and_left (leb (length p) payload_most) (are_bytes p) ok)
