-- `records::bytes_of` meets its contract: an array of the right length is read as it is.
-- Assumes nothing.
use mathlib.Core.Path.{◌≡◌, sym}
use lib.ListN.{length}
use borrow.Author.Rules.{rules}
use Rattle.session_records.specs.Slots.{end}
use Rattle.session_records.proofs.Keeping.{full_all, full_length_lem}
use Rattle.session_records.proofs.records.bytes_of.Goals as goal

pub returns : goal.returns
returns c =
    let s = c.args.store in
    let z : length s.bytes ≡ end = search rules in
    (sym (full_all s.bytes z), full_length_lem s.bytes)
