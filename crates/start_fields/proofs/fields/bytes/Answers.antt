-- `start_fields::fields::bytes` meets its contract: the part at the field's place is what the reading has there.
-- Assumes nothing.
use mathlib.Core.Path.{sym, ap₂, ◌∙◌}
use Prim.Native.Nat.{ℕ}
use lib.ListN.{take, drop}
use Rattle.start_fields.proofs.Reading.{bytes_read}
use Rattle.start_fields.proofs.fields.bytes.Goals as goal

pub returns : goal.returns
returns c =
    let a = c.args in
    c.part.ensures
    ∙ (ap₂ (λ (from n : ℕ). take n (drop from a.s.now)) c.begin.ensures c.size.ensures
    ∙ sym (bytes_read a.f a.s.now))
