-- `start_fields::fields::octet_in` meets its contract: the byte at the field's place, or 0 past the end, is what the reading has.
-- Assumes nothing.
use mathlib.Core.Path.{sym, ap, ◌∙◌}
use Prim.Native.Nat.{ℕ}
use lib.ListN.{get_or}
use Rattle.start_fields.proofs.Reading.{octet_read}
use Rattle.start_fields.proofs.fields.octet_in.Goals as goal

pub returns : goal.returns
returns c =
    let a = c.args in
    c.byte.ensures.0 ∙ (ap (λ (i : ℕ). get_or a.s.now i 0) c.place.ensures ∙ sym (octet_read a.o a.s.now))
