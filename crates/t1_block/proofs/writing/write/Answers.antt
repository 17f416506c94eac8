-- `writing::write` meets its contract: prologue, field and LRC laid one behind the other are the block laid at once. Assumes nothing.
use mathlib.Core.Path.{◌≡◌, sym, ap, ◌∙◌}
use mathlib.Core.List.{List, [], ◌∷◌}
use Prim.Native.Nat.{ℕ, ◌+◌, ◌≤◌}
use native.Mathlib.Omega.{arith}
use lib.ListN.{length, take, drop}
use Rattle.slices.specs.Writing.{laid}
use Rattle.t1_block.specs.Blocks.{lrc_of, body_of}
use Rattle.t1_block.proofs.Framing.{not_too_long, framed_length, body_there, with_lrc}
use Rattle.t1_block.proofs.writing.write.Goals as goal

pub returns : goal.returns
returns c =
    let a = c.args in
    let few : length a.inf.now ≤ 254 = omega arith in
    let fits : 4 + length a.inf.now ≤ length a.out.now = omega arith in
    let whole = not_too_long a.pcb a.inf.now few in
    let laid_two = c.lay-2.ensures ∙ ap (laid a.inf.now 3) c.lay.ensures in
    let over : c.part.result.now ≡ body_of a.pcb a.inf.now =
    c.part.ensures
    ∙ (ap (λ (x : List ℕ). take (3 + length a.inf.now) (drop 0 x)) laid_two ∙ body_there a.pcb a.inf.now a.out.now fits)
    in record {
      value = sym (ap length whole ∙ framed_length a.pcb a.inf.now);
      out_after = c.lay-3.ensures
          ∙ (ap (λ (x : ℕ). laid (x ∷ []) (3 + length a.inf.now) c.lay-2.new.buf)
          (c.lrc-x.ensures ∙ ap lrc_of over)
          ∙ (ap (laid (lrc_of (body_of a.pcb a.inf.now) ∷ []) (3 + length a.inf.now)) laid_two
          ∙ (with_lrc a.pcb a.inf.now a.out.now fits ∙ sym (ap (λ (x : List ℕ). laid x 0 a.out.now) whole))));
    }
