-- The outcome of a capture stands where its turns lead; so every exchange is over within 9,252 bytes of the card's, whatever buffers
-- are lent. Assumes nothing.
use mathlib.Core.Path.{◌≡◌, refl, sym, ap, ◌∙◌}
use mathlib.Core.Bool.{true}
use mathlib.Core.List.{List, [], ◌∷◌}
use Prim.Native.Nat.{ℕ, ◌≤◌}
use lib.ListN.{length}
use Rattle.slices.proofs.Choice.{either}
use Rattle.t0_state.specs.declared.State.{State}
use Rattle.t0.specs.Steps.{done, step_of}
use Rattle.t0_pieces.specs.Pieces.{is_over, is_closed}
use Rattle.t0_laws.specs.Outcomes.{Outcome, stepped_to, opened, playing, turned, Bytes}
use Rattle.t0_laws.specs.Bounds.{bytes_most}
use Rattle.t0_laws.proofs.Cutting.{stopped, going}
use Rattle.t0_laws.proofs.Ends.{stays_over}
use Rattle.t0_laws.proofs.Beginning.{ends_in_time}

pub stands : (bs : List ℕ) (o : Outcome) → (playing o bs).state ≡ turned o.state bs
unfolding playing turned is_closed step_of done
stands [] o = refl
stands (b ∷ bs) o =
    let next = stepped_to o (step_of o.state b o.out o.answer) in
    either (is_closed o.state)
    (λ e. ap (λ (x : Outcome). x.state) (stopped o (b ∷ bs) e) ∙ sym (stays_over (b ∷ bs) o.state e))
    (λ e. ap (λ (x : Outcome). x.state) (going o b bs e) ∙ stands bs next)

module _ (c out w bs : List ℕ) (bytes : Bytes c) (card : Bytes bs) where
  pub over_in_time : bytes_most ≤ length bs → is_closed (playing (opened c out w) bs).state ≡ true
  unfolding opened is_closed
  over_in_time long = ap (λ (x : State). is_over x.phase) (stands bs (opened c out w)) ∙ ends_in_time c bytes out bs card long
