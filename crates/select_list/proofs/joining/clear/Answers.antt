-- `joining::clear` meets its contract: no row counts, or the bytes are no list.
-- Assumes nothing.
use mathlib.Core.Path.{◌≡◌, refl, sym, ap, ◌∙◌}
use mathlib.Core.Bool.{Bool, true, false}
use mathlib.Core.List.{List, [], map}
use Prim.Native.Nat.{ℕ, ◌+◌}
use native.Mathlib.Omega.{arith}
use lib.Dec.{eqb, leb}
use lib.ListN.{length}
use borrow.Author.Tests.{eqb-true, eqb-false, leb-true}
use Rattle.slices.specs.Writing.{put, laid}
use Rattle.slices.proofs.Choice.{picked}
use Rattle.slices.proofs.Writing.{put_length}
use Rattle.start_list.specs.Rows.{rows_in}
use Rattle.select_list.specs.Kept.{list_size, candidate_in, kept_in, list_in}
use Rattle.select_list.specs.Steps.{counted}
use Rattle.select_list.proofs.Keeping.{kept_wrong}
use Rattle.select_list.proofs.Counting.{counted_kept}
use Rattle.select_list.proofs.joining.clear.Goals as goal

laid_length : (s : List ℕ) (d : List ℕ) → length (laid s 0 d) ≡ length d
unfolding laid
laid_length s d =
    picked (λ l. length l ≡ length d) (leb (0 + length s) (length d)) (put s 0 d) d
    (λ y. put_length s 0 d (leb-true _ _ y))
    (λ n. refl)

cleared : (d : List ℕ) → list_in (laid (counted 0) 0 d) ≡ []
unfolding list_in rows_in
cleared d = go (eqb (length d) list_size) refl
  where
    go : (t : Bool) → eqb (length d) list_size ≡ t → map candidate_in (kept_in (laid (counted 0) 0 d)) ≡ []
    go true e = ap (map candidate_in) (counted_kept 0 d (omega arith) (eqb-true _ _ e))
    go false e =
        ap (map candidate_in) (kept_wrong (laid (counted 0) 0 d) (λ z. eqb-false _ _ e (sym (laid_length (counted 0) d) ∙ z)))

pub returns : goal.returns
returns c = ap list_in c.set_count.ensures ∙ cleared _
