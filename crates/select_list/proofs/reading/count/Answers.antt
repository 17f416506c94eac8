-- `reading::count` meets its contract.
-- Assumes nothing.
use mathlib.Core.Path.{◌≡◌, sym, ap, ap₂, ◌∙◌}
use mathlib.Core.List.{List}
use Prim.Native.Nat.{ℕ, ◌+◌, ◌*◌, ◌≤◌, ◌<◌}
use native.Mathlib.Omega.{arith}
use lib.ListN.{length, get_or, drop}
use borrow.Author.Tests.{le-leb, lt-leb}
use Rattle.slices.proofs.Choice.{pick_yes, pick_no}
use Rattle.start_list.proofs.InRows.{rows_length}
use Rattle.select_list.specs.Kept.{most_kept, list_size, count_of, kept_in}
use Rattle.select_list.proofs.Keeping.{kept_right, kept_wrong, as_many}
use Rattle.select_list.proofs.reading.count.Goals as goal

counted_rows : (d : List ℕ) → length d ≡ list_size → length (kept_in d) ≡ count_of d
counted_rows d e = ap length (kept_right d e) ∙ rows_length (count_of d) (drop 2 d)

few : (d : List ℕ) (n : ℕ) → n ≡ 256 * get_or d 0 0 + get_or d 1 0 → n ≤ most_kept → n ≡ count_of d
unfolding count_of
few d n e h = e ∙ sym (pick_yes _ _ _ (le-leb (256 * get_or d 0 0 + get_or d 1 0) most_kept (omega arith)))

many : (d : List ℕ) (n : ℕ) → n ≡ 256 * get_or d 0 0 + get_or d 1 0 → most_kept < n → most_kept ≡ count_of d
unfolding count_of
many d n e h = sym (pick_no _ _ _ (lt-leb (256 * get_or d 0 0 + get_or d 1 0) most_kept (omega arith)))

pub returns-then-list-ne-SIZE : goal.returns-then-list-ne-SIZE
returns-then-list-ne-SIZE c =
    let d = c.args.list.now in
    let none' = ap length (kept_wrong d c.if-list-ne-SIZE.true) in
    (sym (as_many d ∙ none'), sym none', omega arith)

pub returns-then-n-le-MOST : goal.returns-then-n-le-MOST
returns-then-n-le-MOST c =
    let number : 256 * c.byte.result + c.byte-2.result ≡ 256 * get_or c.args.list.now 0 0 + get_or c.args.list.now 1 0 =
    ap₂ (λ (a b : ℕ). 256 * a + b) c.byte.ensures.0 c.byte-2.ensures.0
    in
    let d = c.args.list.now in
    let rows = counted_rows d c.if-list-ne-SIZE.false in
    let n = few d _ (number) c.if-n-le-MOST.true in
    (n ∙ sym (as_many d ∙ rows), n ∙ sym rows, omega arith)

pub returns-else-n-le-MOST : goal.returns-else-n-le-MOST
returns-else-n-le-MOST c =
    let number : 256 * c.byte.result + c.byte-2.result ≡ 256 * get_or c.args.list.now 0 0 + get_or c.args.list.now 1 0 =
    ap₂ (λ (a b : ℕ). 256 * a + b) c.byte.ensures.0 c.byte-2.ensures.0
    in
    let d = c.args.list.now in
    let rows = counted_rows d c.if-list-ne-SIZE.false in
    let n = many d _ (number) c.if-n-le-MOST.false in
    (n ∙ sym (as_many d ∙ rows), n ∙ sym rows, omega arith)
