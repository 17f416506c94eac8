-- `known::at_options` meets its contract: TVR and TSI are kept before what the records told.
-- Assumes nothing.
use mathlib.Core.Path.{ap, ◌∙◌}
use mathlib.Core.List.{List}
use Prim.Native.Nat.{ℕ}
use Rattle.slices.specs.Writing.{laid, zeros}
use Rattle.session_records.specs.Slots.{end, told_from, kept_in}
use Rattle.quick_ask.specs.Known.{only_told, known_early}
use Rattle.quick_ask.proofs.known.at_options.Goals as goal

pub returns : goal.returns
unfolding known_early only_told zeros
returns c =
    let args = c.args in
    let bare = c.lay.ensures ∙ ap (λ (x : List ℕ). laid x told_from (zeros end)) c.part.ensures in
    let first = c.keep.ensures ∙ ap (kept_in 0x95 args.tvr) bare in
    c.keep-2.ensures ∙ ap (kept_in 0x9B args.tsi) first
