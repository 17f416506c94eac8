-- The count in its two bytes: what the list reads as once it was written.
-- Assumes nothing.
use mathlib.Core.Path.{◌≡◌, ap, ◌∙◌}
use mathlib.Core.List.{List, ◌++◌}
use Prim.Native.Nat.{ℕ, ◌+◌, ◌*◌, ◌/◌, ◌%◌, ◌≤◌}
use native.Mathlib.Omega.{arith}
use lib.ListN.{length, drop}
use borrow.Author.Tests.{le-leb}
use Rattle.slices.specs.Writing.{put, laid}
use Rattle.slices.proofs.Choice.{pick_yes}
use Rattle.slices.proofs.Writing.{put_start, put_length, laid_fits}
use Rattle.start_list.specs.Rows.{rows_in}
use Rattle.select_list.specs.Kept.{most_kept, list_size, count_of, kept_in}
use Rattle.select_list.specs.Steps.{counted}
use Rattle.select_list.proofs.Keeping.{kept_right}

count_read : (n : ℕ) (f : List ℕ) → n ≤ most_kept → count_of (counted n ++ f) ≡ n
unfolding count_of counted
count_read n f h =
    let e : 256 * (n / 256) + n % 256 ≡ n = omega arith in
    pick_yes _ _ _ (le-leb (256 * (n / 256) + n % 256) most_kept (omega arith)) ∙ e

pub counted_kept : (n : ℕ) (d : List ℕ) → n ≤ most_kept → length d ≡ list_size → kept_in (laid (counted n) 0 d) ≡ rows_in n (drop 2 d)
unfolding counted
counted_kept n d h e =
    let size : length (put (counted n) 0 d) ≡ list_size = put_length (counted n) 0 d (omega arith) ∙ e in
    ap kept_in (laid_fits (counted n) 0 d (omega arith))
    ∙ (kept_right (put (counted n) 0 d) size
    ∙ (ap (λ x. rows_in (count_of x) (drop 2 x)) (put_start (counted n) d)
    ∙ ap (λ (m : ℕ). rows_in m (drop 2 d)) (count_read n (drop 2 d) h)))
