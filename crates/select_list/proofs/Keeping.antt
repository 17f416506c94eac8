-- The list as it is read from its bytes, and what it reads as after rows were moved and written.
-- Assumes nothing.
use mathlib.Core.Path.{◌≡◌, refl, sym, ap, ◌∙◌}
use mathlib.Core.Bool.{Bool, true, false}
use mathlib.Core.List.{List, []}
use Prim.Native.Nat.{ℕ, ◌*◌, ◌<◌}
use native.Mathlib.Omega.{arith}
use lib.Dec.{eqb}
use lib.ListN.{length, get_or, take, drop, length-map, get_or-map}
use borrow.Author.Tests.{eq-eqb, ne_eqb}
use Rattle.slices.proofs.Choice.{pick_yes, pick_no}
use Rattle.slices.proofs.Cutting.{to_end}
use Rattle.start_list.specs.Rows.{row_size, rows_in}
use Rattle.start_list.proofs.InRows.{rows_length, row_at}
use Rattle.select_list.specs.Kept.{list_size, candidate_in, count_of, kept_in, list_in, candidate_at}

module _ (d : List ℕ) where
  pub kept_right : length d ≡ list_size → kept_in d ≡ rows_in (count_of d) (drop 2 d)
  unfolding kept_in
  kept_right e = pick_yes _ _ _ (eq-eqb (length d) list_size e)

  pub kept_wrong : (length d ≡ list_size → ⊥) → kept_in d ≡ []
  unfolding kept_in
  kept_wrong e = pick_no _ _ _ (ne_eqb (length d) list_size e)

  pub as_many : length (list_in d) ≡ length (kept_in d)
  unfolding list_in
  as_many = length-map (kept_in d) candidate_in

  pub at_row : (i : ℕ) → candidate_at (list_in d) i ≡ candidate_in (get_or (kept_in d) i [])
  unfolding list_in candidate_at
  at_row i = get_or-map candidate_in (kept_in d) i []

  pub kept_row : (i : ℕ) → i < length (kept_in d)
      → get_or (kept_in d) i [] ≡ take row_size (drop (row_size * i) (take list_size (drop 2 d)))
  kept_row i h = go (eqb (length d) list_size) refl
    where
      go : (t : Bool) → eqb (length d) list_size ≡ t
          → get_or (kept_in d) i [] ≡ take row_size (drop (row_size * i) (take list_size (drop 2 d)))
      go true e =
          let size = borrow.Author.Tests.eqb-true (length d) list_size e in
          let many = ap length (kept_right size) ∙ rows_length (count_of d) (drop 2 d) in
          ap (λ l. get_or l i []) (kept_right size)
          ∙ (row_at (count_of d) i (drop 2 d) (omega arith)
          ∙ ap (λ l. take row_size (drop (row_size * i) l)) (sym (to_end list_size 2 d (omega arith))))
      go false e =
          let none' = ap length (kept_wrong (borrow.Author.Tests.eqb-false (length d) list_size e)) in
          absurd (omega arith)
