-- What a block of bytes holds, as the rulebook sees it.
-- Assumes nothing.
use mathlib.Core.Path.{◌≡◌, refl}
use mathlib.Core.Bool.{true}
use mathlib.Core.List.{List, []}
use Prim.Native.Nat.{ℕ, ◌≤◌}
use native.Mathlib.Omega.{arith}
use lib.Dec.{ltb}
use lib.ListN.{length, take, drop, length-take}
use lib.Pow.{are_bytes}
use borrow.Author.Tests.{le-leb, ltb-false}
use Rattle.slices.proofs.Choice.{picked, and_both}
use Rattle.tape_crc.proofs.Bytes.{bytes_take, bytes_drop}
use Rattle.tape_read.specs.Entries.{payload_most}
use Rattle.tape_read.specs.Blocks.{length_in, payload_at, length_bad, payload_in}
use Rattle.sessions.specs.Session.{is_payload}

-- the payload of a block is one that a session may have, so that only its kind and its bytes are left to look at
pub block_payload : (b : List ℕ) → are_bytes b ≡ true → is_payload (payload_in b) ≡ true
unfolding is_payload payload_in length_bad
block_payload b bytes =
    let p = take (length_in b) (drop payload_at b) in
    picked (λ q. is_payload q ≡ true) (ltb payload_most (length_in b)) [] p (λ y. refl)
    (λ n.
    let short : length p ≤ payload_most = omega (
      arith,
      length-take (length_in b) (drop payload_at b),
      ltb-false payload_most (length_in b) n,
    ) in
    and_both _ _ (le-leb (length p) payload_most short) (bytes_take (length_in b) (drop payload_at b) (bytes_drop payload_at b bytes)))
