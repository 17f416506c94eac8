-- The blocks that an end sends while any events happen to it, and how often an I-block goes out. 000, I-5.2.5 (a block sent again is
-- identical to the one first sent) and I-5.2.5.1 (three times a terminal, twice a card).
-- Assumes nothing.
use Rattle.std.specs.Prelude.{Option, Some, None, ◌≡◌, Bool, true, false, List, [], ◌∷◌, ◌⊎◌, ℕ, ◌+◌, ◌<◌}
use Rattle.slices.specs.Choice.{pick}
use Rattle.t1_block.specs.Blocks.{pcb_of, kind_of}
use Rattle.t1_block.specs.declared.Kind.{Kind}
use Rattle.t1_block.specs.declared.Kind.TheVariants.{Information, Ready, Request, Response}
use Rattle.t1_state.specs.declared.State.{State}
use Rattle.t1.specs.Steps.{Event, turn_of, sent_by}

-- the blocks that go out, first to last; an event that brings none out adds none
unfoldable pub present : List ℕ → List (List ℕ) → List (List ℕ)
present [] bs = bs
present (x ∷ b) bs = (x ∷ b) ∷ bs

unfoldable pub sent_over : List Event → State → List (List ℕ)
sent_over [] s = []
sent_over (e ∷ es) s = present (sent_by (turn_of e s).act (turn_of e s).state) (sent_over es (turn_of e s).state)

abbrev pub is_i : Option Kind → Bool
is_i (Some (Information number more)) = true
is_i (Some (Ready number)) = false
is_i (Some (Request w)) = false
is_i (Some (Response w)) = false
is_i None = false

-- the I-blocks among some blocks
unfoldable pub only_i : List (List ℕ) → List (List ℕ)
only_i [] = []
only_i (b ∷ bs) = pick (is_i (kind_of (pcb_of b))) (b ∷ only_i bs) (only_i bs)

-- the number that an I-block carries
abbrev pub carried : Option Kind → Bool
carried (Some (Information number more)) = number
carried (Some (Ready number)) = false
carried (Some (Request w)) = false
carried (Some (Response w)) = false
carried None = false

unfoldable pub number_of : List ℕ → Bool
number_of b = carried (kind_of (pcb_of b))

-- I-blocks that follow one that has gone out so many times: the same block once more, fewer times than the limit, or one with the other
-- number, for the first time. So the blocks in a row that carry one number are the same block, at most as often as the limit says
unfoldable pub Follows : ℕ → List ℕ → ℕ → List (List ℕ) → Type 0
Follows limit out times [] = Unit {0}
Follows limit out times (b ∷ bs) =
    ((b ≡ out) × (times < limit) × Follows limit out (times + 1) bs) ⊎ ((number_of b ≡ number_of out → ⊥) × Follows limit b 1 bs)

-- all I-blocks of an end from the beginning: the first one carries number 0
unfoldable pub Sendings : ℕ → List (List ℕ) → Type 0
Sendings limit [] = Unit {0}
Sendings limit (b ∷ bs) = (number_of b ≡ false) × Follows limit b 1 bs
