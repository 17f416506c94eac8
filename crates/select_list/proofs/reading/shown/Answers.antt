-- `reading::shown` meets its contract.
-- Assumes nothing.
use mathlib.Core.Path.{◌≡◌, sym, ◌∙◌}
use mathlib.Core.List.{List}
use Prim.Native.Nat.{ℕ, ◌≤◌, ◌<◌}
use native.Mathlib.Omega.{arith}
use lib.ListN.{length}
use borrow.Author.Tests.{le-leb, lt-leb}
use Rattle.slices.proofs.Choice.{pick_yes, pick_no}
use Rattle.select_list.specs.Order.{Candidate, most_shown, shown_of}
use Rattle.select_list.proofs.reading.shown.Goals as goal

few : (l : List Candidate) (n : ℕ) → n ≡ length l → n ≤ most_shown → n ≡ shown_of l
unfolding shown_of
few l n e h = e ∙ sym (pick_yes _ _ _ (le-leb (length l) most_shown (omega arith)))

many : (l : List Candidate) (n : ℕ) → n ≡ length l → most_shown < n → most_shown ≡ shown_of l
unfolding shown_of
many l n e h = sym (pick_no _ _ _ (lt-leb (length l) most_shown (omega arith)))

pub returns-then-n-le-SHOWN : goal.returns-then-n-le-SHOWN
returns-then-n-le-SHOWN c = (few _ _ c.count-n.ensures.0 c.if-n-le-SHOWN.true, omega arith)

pub returns-else-n-le-SHOWN : goal.returns-else-n-le-SHOWN
returns-else-n-le-SHOWN c = (many _ _ c.count-n.ensures.0 c.if-n-le-SHOWN.false, omega arith)
