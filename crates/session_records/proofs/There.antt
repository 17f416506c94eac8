-- A run that is there has the bytes that count, and one that is not has none; what was kept is read again.
-- Assumes nothing.
use mathlib.Core.Path.{◌≡◌, refl, sym, ap, ◌∙◌}
use mathlib.Core.Bool.{true, false}
use mathlib.Core.List.{List, [], ◌++◌, append-nil}
use mathlib.Core.Option.{some, get_or}
use Prim.Native.Nat.{ℕ, ◌≤◌}
use native.Mathlib.Omega.{arith}
use lib.ListN.{length, take, drop}
use lib.Seq.{take_at, drop-length}
use Rattle.slices.specs.Writing.{zeros}
use Rattle.slices.proofs.Writing.{put_start, laid_fits, zeros_length}
use Rattle.slices.proofs.Choice.{pick_yes, pick_no}
use Rattle.session_records.specs.Runs.{longest, fixed, run_held, kept_run, in_run}
use Rattle.session_records.specs.declared.Run.{Run}

module _ (r : Run) where
  pub run_there : r.there ≡ true → in_run r ≡ take r.len r.bytes
  unfolding in_run run_held
  run_there y = ap (λ o. get_or o []) (pick_yes _ _ _ y)

  pub run_not_there : r.there ≡ false → in_run r ≡ []
  unfolding in_run run_held
  run_not_there n = ap (λ o. get_or o []) (pick_no _ _ _ n)

-- bytes of the right number fill their place
pub fixed_all : (n : ℕ) (v : List ℕ) → length v ≡ n → fixed n v ≡ v
fixed_all n v e =
    let z = zeros_length n in
    laid_fits v 0 (zeros n) (omega arith)
    ∙ (put_start v (zeros n) ∙ (ap (λ (l : List ℕ). v ++ l) (ap (λ (k : ℕ). drop k (zeros n)) (e ∙ sym z) ∙ drop-length (zeros n))
    ∙ append-nil v))

-- and fewer stand at its start
pub fixed_first : (n : ℕ) (v : List ℕ) → length v ≤ n → take (length v) (fixed n v) ≡ v
fixed_first n v h =
    let z = zeros_length n in
    ap (take (length v)) (laid_fits v 0 (zeros n) (omega arith) ∙ put_start v (zeros n)) ∙ take_at v _ (length v) refl

pub run_kept : (v : List ℕ) → length v ≤ longest → run_held (kept_run v) ≡ some v
unfolding run_held kept_run
run_kept v h = pick_yes _ _ _ refl ∙ ap some (fixed_first longest v h)
