-- `listing::count` meets its contract.
-- Assumes nothing.
use mathlib.Core.Path.{◌≡◌, sym, ◌∙◌}
use mathlib.Core.List.{List}
use Prim.Native.Nat.{ℕ, ◌≤◌, ◌<◌, min}
use native.Mathlib.Omega.{arith}
use lib.Dec.{leb}
use lib.ListN.{get_or}
use borrow.Author.Tests.{leb-true, leb-false, le-leb, lt-leb}
use Rattle.slices.proofs.Choice.{pick_yes, pick_no, either}
use Rattle.start_list.specs.Listing.{count_at, most_listed, count_in}
use Rattle.start_list.proofs.listing.count.Goals as goal

few : (s : List ℕ) (n : ℕ) → n ≡ get_or s count_at 0 → n ≤ most_listed → n ≡ count_in s
unfolding count_in
few s n e h = e ∙ sym (pick_yes _ _ _ (le-leb (get_or s count_at 0) most_listed (omega arith)))

many : (s : List ℕ) (n : ℕ) → n ≡ get_or s count_at 0 → most_listed < n → most_listed ≡ count_in s
unfolding count_in
many s n e h = sym (pick_no _ _ _ (lt-leb (get_or s count_at 0) most_listed (omega arith)))

by : (s : List ℕ) (n : ℕ) → n ≡ get_or s count_at 0 → min n most_listed ≡ count_in s
by s n e =
    either (leb n most_listed) (λ y. let h = leb-true n most_listed y in let m : min n most_listed ≡ n = omega arith in m ∙ few s n e h)
    (λ f. let h = leb-false n most_listed f in let m : min n most_listed ≡ most_listed = omega arith in m ∙ many s n e h)

pub returns : goal.returns
returns c = (c.min.ensures ∙ by _ _ c.count_byte.ensures.0, omega (arith, c.min.ensures))
