-- `known::at_first` meets its contract: the profile is kept beside what is known before.
-- Assumes nothing.
use mathlib.Core.Path.{◌≡◌, ap, ◌∙◌}
use lib.ListN.{length}
use borrow.Author.Rules.{rules}
use Rattle.session_records.specs.Slots.{told_in, kept_in}
use Rattle.session_moves.specs.Known.{known_late}
use Rattle.session_moves.proofs.Knowing.{late_known}
use Rattle.session_moves.proofs.known.at_first.Goals as goal

pub returns : goal.returns
unfolding known_late
returns c =
    let s = c.args.s in
    let five : length s.tvr ≡ 5 = search rules in
    let two : length s.tsi ≡ 2 = search rules in
    let p = c.profile_of-profile.ensures in
    let e = c.keep.ensures ∙ (λ i. kept_in 0x82 (p.0 i) (c.at_options-known.ensures.slots i)) in
    record { slots = e; known = ap told_in e ∙ late_known s five two p.1 }
