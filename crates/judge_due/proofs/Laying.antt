-- Bytes that fit are laid at the start of the buffer; where they do not fit the buffer is as it was.
-- Assumes nothing.
use mathlib.Core.Path.{◌≡◌, sym, ap, ◌∙◌}
use mathlib.Core.List.{List}
use Prim.Native.Nat.{ℕ, ◌≤◌, ◌<◌}
use native.Mathlib.Omega.{arith}
use lib.ListN.{length}
use borrow.Author.Tests.{le-leb, lt-leb}
use Rattle.slices.specs.Writing.{laid}
use Rattle.slices.proofs.Choice.{pick_yes, pick_no}
use Rattle.slices.proofs.Writing.{laid_fits}
use Rattle.std.specs.Prelude.{Some}
use Rattle.judge_due.specs.declared.DueNext.{DueNext}
use Rattle.judge_due.specs.Telling.{numbers, handed, too_short, with_bytes}

module _ (kind : ℕ) (bytes out : List ℕ) where
  pub no_room : (r : DueNext) → r ≡ numbers too_short (length bytes) → length out < length bytes
      → handed (Some r) out ≡ with_bytes kind bytes out
  unfolding with_bytes
  no_room r e h = ap (λ (d : DueNext). handed (Some d) out) e ∙ sym (pick_no _ _ _ (lt-leb _ _ h))

  pub has_room : (r : DueNext) (after : List ℕ) → r ≡ numbers kind (length bytes) → after ≡ laid bytes 0 out → length bytes ≤ length out
      → handed (Some r) after ≡ with_bytes kind bytes out
  unfolding with_bytes
  has_room r after e f h =
      ap (λ (d : DueNext). handed (Some d) after) e
      ∙ (ap (handed (Some (numbers kind (length bytes)))) (f ∙ laid_fits bytes 0 out (omega arith)) ∙ sym (pick_yes _ _ _ (le-leb _ _ h)))
