-- The command that was written is the one that the step asks.
-- Assumes nothing.
use mathlib.Core.Path.{◌≡◌, sym, ap, ◌∙◌}
use mathlib.Core.List.{List}
use Prim.Native.Nat.{ℕ}
use lib.ListN.{length}
use Rattle.slices.specs.Writing.{laid}
use Rattle.start_list.specs.Listing.{Applications}
use Rattle.commands.specs.Commands.{size_in}
use Rattle.select_list.specs.Order.{Candidate}
use Rattle.select_search.specs.Search.{command_at}
use Rattle.select_search.specs.declared.Step.{Step}

module _ (t : Applications) (l : List Candidate) (step : Step) (buf out : List ℕ) (r : ℕ) where
  abbrev pub Written : List ℕ → Type 0
  Written command = (r ≡ size_in (length buf) command) × (out ≡ laid command 0 buf)

  pub asked_at : (x : Step) (command : List ℕ) → step ≡ x → command ≡ command_at t l x → Written command → Written (command_at t l step)
  asked_at x command e f w =
      let same : command ≡ command_at t l step = f ∙ sym (ap (command_at t l) e) in
      (w.0 ∙ ap (size_in (length buf)) same, w.1 ∙ ap (λ c. laid c 0 buf) same)
