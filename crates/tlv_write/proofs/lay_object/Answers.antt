-- `tlv_write::lay_object` meets its contract: three writes in a row, each where the last ended.
-- Assumes nothing.
use mathlib.Core.Path.{ap, ◌∙◌}
use mathlib.Core.List.{List}
use Prim.Native.Nat.{ℕ, ◌+◌}
use lib.ListN.{length}
use Rattle.slices.specs.Writing.{laid}
use Rattle.tlv_write.specs.Written.{length_bytes}
use Rattle.tlv_write.proofs.Refusals.{written_length, three_writes}
use native.Mathlib.Omega.{arith}
use Rattle.tlv_write.proofs.lay_object.Goals as goal

pub returns : goal.returns
returns c =
    let a = c.args in
    let t = c.tag_size-a in
    let l = c.length_size in
    let size = written_length a.tag a.value.now in record {
      size = omega arith;
      buffer = c.lay.ensures
          ∙ (ap (λ (d : List ℕ). laid a.value.now (t.result + l.result) d)
          (c.lay_length.ensures
          ∙ ap (λ (d : List ℕ). laid (length_bytes (length a.value.now)) t.result d)
          c.lay_tag.ensures)
          ∙ three_writes a.tag a.value.now a.buf.now t.result (t.result + l.result)
          t.ensures.0 (ap (λ (n : ℕ). t.result + n) l.ensures.0)
          c.requires.2);
    }
