-- The piece of a message that is out: from one byte to 254, all of them the message's. Assumes nothing.
use mathlib.Core.Path.{◌≡◌, ap, ◌∙◌}
use mathlib.Core.Bool.{false}
use mathlib.Core.List.{List, ◌++◌}
use Prim.Native.Nat.{ℕ, zero, suc, ◌+◌, ◌-◌, ◌<◌, ◌≤◌, min}
use native.Mathlib.Omega.{arith}
use lib.Dec.{eqb}
use lib.ListN.{length, take, drop, length-drop}
use lib.Seq.{length-take-le, take-append-le, drop-append-le}
use borrow.Author.Tests.{leb-true}
use Rattle.slices.proofs.Choice.{picked}
use Rattle.t1_block.specs.Blocks.{inf_most}
use Rattle.t1_state.specs.Limits.{room}
use Rattle.t1_state.specs.declared.State.{State}

-- a piece has at least one byte and at most 254
pub room_low : (n : ℕ) → 1 ≤ room n
unfolding room
room_low n =
    picked (λ (x : ℕ). 1 ≤ x) _ _ _ (λ e. omega arith)
    (λ e. picked (λ (x : ℕ). 1 ≤ x) _ _ _ (λ f. positive n e) (λ f. omega arith))
  where
    positive : (k : ℕ) → eqb k 0 ≡ false → 1 ≤ k
    positive zero e = absurd (let z : ◌≡◌ {A = ℕ} 0 1 = cc in omega arith)
    positive (suc k) e = omega arith

pub room_high : (n : ℕ) → room n ≤ 254
unfolding room
room_high n =
    picked (λ (x : ℕ). x ≤ 254) _ _ _ (λ e. omega arith)
    (λ e. picked (λ (x : ℕ). x ≤ 254) _ _ _ (λ f. leb-true n inf_most f) (λ f. omega arith))

module _ (m rest : List ℕ) (s : State) (bytes : s.message.bytes ≡ m ++ rest) (inside : s.message.at < length m)
    (size : s.message.size ≡ min (room s.sizes.theirs) (length m - s.message.at)) where
  pub piece_low : 1 ≤ s.message.size
  piece_low = let l = room_low s.sizes.theirs in omega arith

  pub piece_high : s.message.size ≤ 254
  piece_high = let h = room_high s.sizes.theirs in omega arith

  pub piece_inside : s.message.at + s.message.size ≤ length m
  piece_inside = omega arith

  pub piece_of_lem : take s.message.size (drop s.message.at s.message.bytes) ≡ take s.message.size (drop s.message.at m)
  piece_of_lem =
      ap (λ (x : List ℕ). take s.message.size (drop s.message.at x)) bytes
      ∙ (ap (take s.message.size) (drop-append-le s.message.at m rest (omega arith))
      ∙ take-append-le s.message.size (drop s.message.at m) rest (let i = piece_inside in simp length-drop (omega arith)))

  pub piece_size : length (take s.message.size (drop s.message.at s.message.bytes)) ≡ s.message.size
  piece_size = ap length piece_of_lem ∙ length-take-le s.message.size (drop s.message.at m)
      (let i = piece_inside in simp length-drop (omega arith))
