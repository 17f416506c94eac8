-- A card that answers 6A82 to everything: behind one exchange for the environment and one for each AID of START nobody was found, and the
-- session ends with 12, and not before.
-- Assumes nothing.
use mathlib.Core.Path.{◌≡◌, refl, ap, ◌∙◌}
use mathlib.Core.Bool.{false, and-false}
use mathlib.Core.List.{[]}
use Prim.Native.Nat.{ℕ, zero, suc, ◌+◌, ◌≤◌, ◌<◌}
use native.Mathlib.Omega.{arith}
use lib.Dec.{eqb}
use lib.ListN.{length}
use borrow.Author.Tests.{lt-ltb, le-ltb}
use Rattle.slices.specs.Choice.{pick}
use Rattle.slices.proofs.Choice.{pick_yes, pick_no}
use Rattle.start_list.specs.Listing.{Applications}
use Rattle.answer_common.specs.Answer.{size_bad}
use Rattle.select_search.specs.Search.{Search, asks, over, most_exchanges, begun, may_go_on, goes, has_status}
use Rattle.select_search.specs.Final.{final_selection}
use Rattle.select_search.specs.Listing.{from_first, next_aid, after_listed}
use Rattle.select_search.specs.Directory.{after_environment}
use Rattle.select_search.specs.Heard.{heard_at, heard}
use Rattle.select_search.specs.declared.Step.TheVariants.{Listed}
use Rattle.select_laws.specs.Repeated.{missing, answered, repeated}

-- at START's k-th AID, with nobody in the list
abbrev pub at_aid : ℕ → Search
at_aid k = record { stand = record { exchanges = k + 2; step = Listed k false; fallen = false }; list = [] }

pub after_environment_lem : (t : Applications) → heard t begun missing ≡ asks (at_aid 0)
unfolding heard heard_at after_environment begun size_bad has_status from_first goes may_go_on pick
after_environment_lem t = refl

-- no AID further
last : (t : Applications) (k : ℕ) → final_selection t (at_aid k) ≡ over 12
unfolding final_selection pick
last t k = refl

next : (k : ℕ) → k + 2 < most_exchanges → goes (at_aid k) (Listed (k + 1) false) ≡ asks (at_aid (k + 1))
unfolding goes may_go_on
next k h =
    let e : k + 2 + 1 ≡ k + 1 + 2 = omega arith in
    pick_yes _ _ _ (lt-ltb (k + 2) most_exchanges h)
    ∙ ap (λ (n : ℕ). asks (record { stand = record { exchanges = n; step = Listed (k + 1) false; fallen = false }; list = [] })) e

-- '6A82' to an AID leads to the next
to_aid : (t : Applications) (k : ℕ) → heard t (at_aid k) missing ≡ next_aid t (at_aid k) k
unfolding heard heard_at size_bad has_status after_listed
to_aid t k =
    pick_no _ _ _ refl ∙ (pick_no _ _ _ (and-false (eqb k 0)) ∙ pick_no _ _ _ refl)

module _ (t : Applications) (few : length t.list + 2 ≤ most_exchanges) where
  pub further : (k : ℕ) → k + 1 < length t.list → heard t (at_aid k) missing ≡ asks (at_aid (k + 1))
  unfolding next_aid
  further k h = to_aid t k ∙ (pick_yes _ _ _ (lt-ltb (k + 1) (length t.list) h) ∙ next k (omega arith))

  pub ends : (k : ℕ) → length t.list ≡ k + 1 → heard t (at_aid k) missing ≡ over 12
  unfolding next_aid
  ends k e = to_aid t k ∙ (pick_no _ _ _ (le-ltb (k + 1) (length t.list) (omega arith)) ∙ last t k)

  all_missing : (j k : ℕ) → length t.list ≡ k + suc j → repeated (suc j) t missing (asks (at_aid k)) ≡ over 12
  unfolding repeated answered
  all_missing zero k e = ends k (omega arith)
  all_missing (suc j) k e = ap (repeated (suc j) t missing) (further k (omega arith)) ∙ all_missing j (k + 1) (omega arith)

  still : (j k : ℕ) → k + j < length t.list → repeated j t missing (asks (at_aid k)) ≡ asks (at_aid (k + j))
  unfolding repeated answered
  still zero k h = ap (λ (n : ℕ). asks (at_aid n)) (let e : k ≡ k + 0 = omega arith in e)
  still (suc j) k h =
      ap (repeated j t missing) (further k (omega arith))
      ∙ (still j (k + 1) (omega arith) ∙ ap (λ (n : ℕ). asks (at_aid n)) (let e : k + 1 + j ≡ k + suc j = omega arith in e))

  -- n AIDs: n + 1 exchanges, and then nobody
  pub nobody_there : (n : ℕ) → length t.list ≡ suc n → repeated (suc (suc n)) t missing (asks begun) ≡ over 12
  unfolding repeated answered
  nobody_there n e = ap (repeated (suc n) t missing) (after_environment_lem t) ∙ all_missing n 0 (omega arith)

  -- and not before: each of them is asked for
  pub each_asked : (j : ℕ) → j < length t.list → repeated (suc j) t missing (asks begun) ≡ asks (at_aid j)
  unfolding repeated answered
  each_asked j h =
      ap (repeated j t missing) (after_environment_lem t)
      ∙ (still j 0 (omega arith) ∙ ap (λ (n : ℕ). asks (at_aid n)) (let e : 0 + j ≡ j = omega arith in e))
