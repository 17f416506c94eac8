-- `joining::join` meets its contract: with room, without room behind all others, and with the last pushed out.
-- Assumes nothing.
use mathlib.Core.Path.{◌≡◌, sym, ap, ◌∙◌}
use mathlib.Core.List.{List, ◌∷◌, ◌++◌}
use Prim.Native.Nat.{ℕ, ◌-◌, ◌≤◌, ◌<◌}
use native.Mathlib.Omega.{arith}
use lib.ListN.{length, take, drop}
use Rattle.select_list.specs.Order.{Candidate, candidate_of, placed}
use Rattle.select_list.specs.Kept.{most_kept, list_size, candidate_in, room_of, kept_in, list_in}
use Rattle.select_list.specs.Steps.{place_for}
use Rattle.select_list.proofs.Filling.{joins, pushes, stays_out}
use Rattle.select_list.proofs.Made.{row_candidate, no_room, room_right, read_between}
use Rattle.select_list.proofs.joining.join.Goals as goal

module _ (d : List ℕ) (c : Candidate) (right : length d ≡ list_size) (p : ℕ) (there : p ≡ place_for c.standing (list_in d)) where
  -- the place that was found
  at : (m : ℕ) → take (place_for c.standing (list_in d)) (list_in d)
      ++ (c ∷ take (m - place_for c.standing (list_in d)) (drop (place_for c.standing (list_in d)) (list_in d)))
      ≡ take p (list_in d) ++ (c ∷ take (m - p) (drop p (list_in d)))
  at m = ap (λ (q : ℕ). take q (list_in d) ++ (c ∷ take (m - q) (drop q (list_in d)))) (sym there)

  cut : take (room_of d) (placed c (list_in d)) ≡ take most_kept (placed c (list_in d))
  cut = ap (λ (n : ℕ). take n (placed c (list_in d))) (room_right d right)

  with_room : (d' r : List ℕ) (n : ℕ) → n ≡ length (list_in d) → n < most_kept → candidate_in r ≡ c
      → kept_in d' ≡ take p (kept_in d) ++ (r ∷ take (n - p) (drop p (kept_in d))) → list_in d' ≡ take (room_of d) (placed c (list_in d))
  with_room d' r n e h f g =
      read_between d d' r c p (n - p) f g
      ∙ sym (cut ∙ (joins c (list_in d) (omega arith)
      ∙ (ap (λ (m : ℕ). take (place_for c.standing (list_in d)) (list_in d)
      ++ (c ∷ take (m - place_for c.standing (list_in d)) (drop (place_for c.standing (list_in d)) (list_in d)))) (sym e)
      ∙ at n)))

  pushed : (d' r : List ℕ) → p < most_kept → candidate_in r ≡ c
      → kept_in d' ≡ take p (kept_in d) ++ (r ∷ take (354 - p) (drop p (kept_in d))) → list_in d' ≡ take (room_of d) (placed c (list_in d))
  pushed d' r h f g =
      read_between d d' r c p (354 - p) f g ∙ sym (cut ∙ (pushes c (list_in d) (omega arith) ∙ at 354))

  left_out : length (list_in d) ≡ most_kept → most_kept ≤ p → list_in d ≡ take (room_of d) (placed c (list_in d))
  left_out e h = sym (cut ∙ stays_out c (list_in d) e (omega arith))

pub returns-then-list-ne-SIZE : goal.returns-then-list-ne-SIZE
returns-then-list-ne-SIZE c = no_room c.args.list.now c.if-list-ne-SIZE.true _

pub returns-then-n-lt-MOST : goal.returns-then-n-lt-MOST
unfolding candidate_of
returns-then-n-lt-MOST c =
    let bytes : List ℕ =
    c.args.list.now
    in
    let who : Candidate =
    candidate_of c.args.choice (take 16 c.args.name.now) c.args.indicator
    in
    let row_reads : candidate_in c.row_of-row.result ≡ who =
    row_candidate c.row_of-row.result (take 16 c.args.name.now) c.args.choice c.args.indicator c.row_of-row.ensures.0
    (c.row_of-row.ensures.1 ∙ c.mark_of.ensures)
    in
    let found : c.place_for-p.result ≡ place_for (who).standing (list_in (bytes)) =
    c.place_for-p.ensures.0
    ∙ ap (λ (s : ℕ). place_for s (list_in (bytes))) c.standing.ensures.0
    in
    let d = bytes in
    with_room d (who) c.if-list-ne-SIZE.false _ (found) _ c.row_of-row.result c.count-n.result c.count-n.ensures.0
    c.if-n-lt-MOST.true (row_reads) c.insert.ensures

pub returns-then-p-lt-MOST : goal.returns-then-p-lt-MOST
unfolding candidate_of
returns-then-p-lt-MOST c =
    let bytes : List ℕ =
    c.args.list.now
    in
    let who : Candidate =
    candidate_of c.args.choice (take 16 c.args.name.now) c.args.indicator
    in
    let row_reads : candidate_in c.row_of-row.result ≡ who =
    row_candidate c.row_of-row.result (take 16 c.args.name.now) c.args.choice c.args.indicator c.row_of-row.ensures.0
    (c.row_of-row.ensures.1 ∙ c.mark_of.ensures)
    in
    let found : c.place_for-p.result ≡ place_for (who).standing (list_in (bytes)) =
    c.place_for-p.ensures.0
    ∙ ap (λ (s : ℕ). place_for s (list_in (bytes))) c.standing.ensures.0
    in
    let d = bytes in
    pushed d (who) c.if-list-ne-SIZE.false _ (found) _ c.row_of-row.result c.if-p-lt-MOST.true (row_reads) c.insert-then-p-lt-MOST.ensures

pub returns-else-p-lt-MOST : goal.returns-else-p-lt-MOST
unfolding candidate_of
returns-else-p-lt-MOST c =
    let bytes : List ℕ =
    c.args.list.now
    in
    let who : Candidate =
    candidate_of c.args.choice (take 16 c.args.name.now) c.args.indicator
    in
    let found : c.place_for-p.result ≡ place_for (who).standing (list_in (bytes)) =
    c.place_for-p.ensures.0
    ∙ ap (λ (s : ℕ). place_for s (list_in (bytes))) c.standing.ensures.0
    in
    let d = bytes in
    left_out d (who) c.if-list-ne-SIZE.false _ (found)
    (omega (arith, c.count-n.ensures.0, c.count-n.ensures.2, c.if-n-lt-MOST.false)) c.if-p-lt-MOST.false
