-- `known::at_second` meets its contract: the response code is kept beside what is known before.
-- Assumes nothing.
use mathlib.Core.Path.{◌≡◌, ap, ◌∙◌}
use lib.ListN.{length}
use borrow.Author.Rules.{rules}
use Rattle.session_records.specs.Slots.{told_in, kept_in}
use Rattle.session_moves.specs.Known.{known_second}
use Rattle.session_moves.proofs.Knowing.{second_known}
use Rattle.session_moves.proofs.known.at_second.Goals as goal

pub returns : goal.returns
unfolding known_second
returns c =
    let a = c.args in
    let s = a.s in
    let five : length s.tvr ≡ 5 = search rules in
    let two : length s.tsi ≡ 2 = search rules in
    let pair : length s.profile ≡ 2 = search rules in
    let code : length a.response ≡ 2 = search rules in
    let e = c.keep.ensures ∙ ap (kept_in 0x8A a.response) c.at_first-known.ensures.slots in
    record { slots = e; known = ap told_in e ∙ second_known s five two pair a.response code }
