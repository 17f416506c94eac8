-- `tape_write::Writer::append` meets its contract: a refusal returns at once; otherwise the room that the refusals leave is
-- where the block goes, and a part that was lent comes back as one write. Assumes nothing.
use mathlib.Core.Path.{◌≡◌, sym, ap, ◌∙◌}
use Prim.Native.Nat.{ℕ, ◌+◌, ◌*◌, ◌-◌}
use native.Mathlib.Omega.{arith}
use lib.ListN.{length, take, drop, length-drop}
use lib.Seq.{length-take-le}
use Rattle.tape_read.specs.Entries.{entry, block_size}
use Rattle.tape_read.specs.Blocks.{block}
use Rattle.tape_write.specs.Appending.{refusal_of}
use Rattle.tape_read.proofs.Extra.{put_part}
use Rattle.tape_read.proofs.Parts.{block_length}
use Rattle.tape_write.proofs.Refusals.{taken}
use Rattle.tape_write.proofs.Growing.{refused_answer_lem, taken_answer, refused_tape, taken_tape}
use Rattle.tape_write.proofs.Writer.append.Goals as goal

pub returns-then-refusal-ne0 : goal.returns-then-refusal-ne0
returns-then-refusal-ne0 c =
    let w = c.args.self in
    let e = entry c.args.kind c.args.payload.now in
    let t = c.args.tape.now in
    let told = c.why_refused-refusal.ensures in
    let refused : refusal_of w.used e t ≡ 0 → ⊥ = λ h. omega arith in
    record {
      value = ap (λ (r : ℕ). record { writer = w; refusal = r }) told ∙ sym (refused_answer_lem w (refusal_of w.used e t) refused);
      tape_after = sym (refused_tape w e t refused);
    }

pub overflow_mul-at : goal.overflow_mul-at
overflow_mul-at c =
    omega (arith, taken c.args.self.used (entry c.args.kind c.args.payload.now) c.args.tape.now (omega arith))

pub overflow_add-at : goal.overflow_add-at
overflow_add-at c =
    omega (arith, taken c.args.self.used (entry c.args.kind c.args.payload.now) c.args.tape.now (omega arith))

pub slice_bounds-fill-end : goal.slice_bounds-fill-end
slice_bounds-fill-end c =
    omega (arith, taken c.args.self.used (entry c.args.kind c.args.payload.now) c.args.tape.now (omega arith))

pub overflow_cast-used : goal.overflow_cast-used
overflow_cast-used c =
    omega (arith, taken c.args.self.used (entry c.args.kind c.args.payload.now) c.args.tape.now (omega arith))

pub fill-requires : goal.fill-requires
fill-requires c =
    let at = c.args.self.used * block_size in
    let t = c.args.tape.now in
    let room = taken c.args.self.used (entry c.args.kind c.args.payload.now) t (omega arith) in
    let size : at + block_size - at ≡ block_size = omega arith in (
      ap (λ (k : ℕ). length (take k (drop at t))) size ∙ length-take-le block_size (drop at t) (omega (arith, length-drop at t)),
      room.fits,
    )

pub overflow_add-result : goal.overflow_add-result
overflow_add-result c =
    omega (arith, taken c.args.self.used (entry c.args.kind c.args.payload.now) c.args.tape.now (omega arith))

pub returns : goal.returns
returns c =
    let w = c.args.self in
    let e = entry c.args.kind c.args.payload.now in
    let t = c.args.tape.now in
    let at = w.used * block_size in
    let accepted : refusal_of w.used e t ≡ 0 = omega arith in
    let room = taken w.used e t accepted in
    let size : length (block w.used w.session e) ≡ at + block_size - at = block_length w.used w.session e room.fits ∙ omega arith in
    record {
      value = sym (taken_answer w _ accepted);
      tape_after =
          put_part (block w.used w.session e) c.fill.new.block at (at + block_size - at) t c.fill.ensures size
          ∙ sym (taken_tape w e t accepted);
    }
