-- How much of the list a command and a choice see: no more than is kept.
-- Assumes nothing.
use mathlib.Core.Path.{◌≡◌, refl, sym, ap, ◌∙◌}
use mathlib.Core.List.{List, []}
use Prim.Native.Nat.{ℕ, ◌≤◌}
use native.Mathlib.Omega.{arith}
use lib.Dec.{leb}
use lib.ListN.{length, take, get_or, length-take}
use lib.Seq.{get_or-take}
use borrow.Author.Tests.{leb-true, leb-false}
use Rattle.slices.specs.Choice.{pick}
use Rattle.slices.proofs.Choice.{pick_yes, pick_no, either}
use Rattle.start_list.specs.Listing.{Applications}
use Rattle.select_list.specs.Order.{Candidate, most_shown, shown_of}
use Rattle.select_list.specs.Kept.{candidate_in, candidate_at}
use Rattle.select_search.specs.Search.{select_by, command_at}
use Rattle.select_search.specs.declared.Step.{Step}
use Rattle.select_search.specs.declared.Step.TheVariants.{Environment, Directory, Listed, Final}
use Rattle.select_laws.specs.Cut.{AmongShown}

-- a cut that leaves those shown leaves as many
shown_cut : (m : ℕ) → most_shown ≤ m → (x : List Candidate) → shown_of x ≡ shown_of (take m x)
unfolding shown_of
shown_cut m room x =
    let size = length-take m x in
    either (leb (length x) most_shown)
    (λ y.
    let few = leb-true (length x) most_shown y in
    let same_size : length x ≡ length (take m x) = omega arith in
    ap (λ (n : ℕ). pick (leb n most_shown) n most_shown) same_size)
    (λ n.
    let many = leb-false (length x) most_shown n in
    pick_no _ _ _ n ∙ (either (leb (length (take m x)) most_shown)
    (λ y. let few = leb-true (length (take m x)) most_shown y in let all : most_shown ≡ length (take m x) = omega arith in all
    ∙ sym (pick_yes _ _ _ y))
    (λ k. sym (pick_no _ _ _ k))))

module _ (m : ℕ) (room : most_shown ≤ m) (l l' : List Candidate) (same : take m l ≡ take m l') where
  pub command_seen : (t : Applications) (step : Step) → AmongShown step → command_at t l step ≡ command_at t l' step
  unfolding command_at candidate_at
  command_seen t Environment h = refl
  command_seen t (Directory file number) h = refl
  command_seen t (Listed aid again) h = refl
  command_seen t (Final place taken) h =
      ap (λ (c : Candidate). select_by 0 c.name)
      (sym (get_or-take m l place _ (omega arith))
      ∙ (ap (λ (x : List Candidate). get_or x place (candidate_in [])) same ∙ get_or-take m l' place _ (omega arith)))

  -- as many are shown
  pub shown_seen : shown_of l ≡ shown_of l'
  shown_seen = shown_cut m room l ∙ (ap shown_of same ∙ sym (shown_cut m room l'))
