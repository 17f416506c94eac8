-- `known::at_options` meets its contract: TVR and TSI are kept before what the records told.
-- Assumes nothing.
use mathlib.Core.Path.{ap, ◌∙◌}
use mathlib.Core.List.{List}
use Prim.Native.Nat.{ℕ, ◌-◌}
use lib.ListN.{take, drop}
use Rattle.slices.specs.Writing.{laid, zeros}
use Rattle.session_records.specs.Slots.{end, full, told_in, kept_in}
use Rattle.session_moves.specs.Known.{known_early}
use Rattle.session_moves.proofs.Knowing.{rest_told, only_laid, early_known}
use Rattle.session_moves.proofs.known.at_options.Goals as goal

pub returns : goal.returns
unfolding known_early zeros
returns c =
    let s = c.args.s in
    let t = c.bytes_of-told in
    let tvr = c.tvr-tvr.ensures in
    let tsi = c.tsi-tsi.ensures in
    let d = full s.told.bytes in
    let bare = c.lay.ensures
    ∙ (ap (λ (x : List ℕ). laid (take (end - 15) (drop 15 x)) 15 (zeros end)) t.ensures.0
    ∙ (ap (λ (x : List ℕ). laid x 15 (zeros end)) (rest_told d t.ensures.1) ∙ only_laid d t.ensures.1)) in
    let first = c.keep.ensures ∙ (λ i. kept_in 0x95 (tvr.0 i) (bare i)) in
    let e = c.keep-2.ensures ∙ (λ i. kept_in 0x9B (tsi.0 i) (first i)) in
    record { slots = e; known = ap told_in e ∙ early_known s tvr.1 tsi.1 }
