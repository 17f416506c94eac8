-- What a turn lays into the buffers, by the turn's kind. Assumes nothing.
use mathlib.Core.Path.{◌≡◌, refl}
use mathlib.Core.List.{List, []}
use Prim.Native.Nat.{ℕ}
use lib.ListN.{length}
use Rattle.slices.specs.Writing.{laid}
use Rattle.slices.proofs.Choice.{picked}
use Rattle.slices.proofs.Writing.{put_nothing}
use Rattle.t0_begin.specs.Begin.{header_for, header_of}
use Rattle.t0_state.specs.declared.Sent.{Sent}
use Rattle.t0_state.specs.declared.Sent.TheVariants.{Own, GetResponse}
use Rattle.t0_state.specs.declared.Command.{Command}
use Rattle.t0_state.specs.declared.State.{State}

-- nothing laid, nothing changed
pub laid_nothing : (p : ℕ) (d : List ℕ) → laid [] p d ≡ d
unfolding laid
laid_nothing p d = picked (λ (x : List ℕ). x ≡ d) _ _ _ (λ e. put_nothing p d) (λ e. refl)

pub header_five : (s : State) (p3 : ℕ) → length (header_of s p3) ≡ 5
unfolding header_of header_for
header_five s p3 = five s.header.sent s.command
  where
    five : (x : Sent) (c : Command) → length (header_for x c p3) ≡ 5
    five (Own case) c = refl
    five GetResponse c = refl

-- both
pub ruleset nothing_or_header = (laid_nothing, header_five)
