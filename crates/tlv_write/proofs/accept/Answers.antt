-- `tlv_write::accept` meets its contract: each answer is a line of the list, and the size is that of the object written.
-- Assumes nothing.
use mathlib.Core.Path.{sym, ◌∙◌}
use Rattle.tlv_write.specs.Written.{refusal_of}
use Rattle.tlv_write.proofs.Refusals.{written_length, bad_tag, bad_value, too_long, no_room, accepted}
use native.Mathlib.Omega.{arith}
use Rattle.tlv_write.proofs.accept.Goals as goal
use Rattle.tlv_write.proofs.accept.Goals.{then-size-gt4096-via-then-size-gt4096, then-size-gt4096-via-else-size-gt4096+then-not-is_tag}
use Rattle.tlv_write.proofs.accept.Goals.{then-size-gt4096-via-else-size-gt4096+else-not-is_tag+then-not-fits_tag}

pub returns-then-value-gt4096 : goal.returns-then-value-gt4096
unfolding refusal_of
returns-then-value-gt4096 c =
    let a = c.args in
    let size = written_length a.tag a.value.now in
    sym (too_long a.tag a.value.now a.room (omega arith))

pub returns-then-size-gt4096 : goal.returns-then-size-gt4096
unfolding refusal_of
returns-then-size-gt4096 c =
    let a = c.args in
    elim c.then-size-gt4096.branch [
      | then-size-gt4096-via-then-size-gt4096 w ↦
          let size = written_length a.tag a.value.now in
          sym (too_long a.tag a.value.now a.room (omega arith))
      | then-size-gt4096-via-else-size-gt4096+then-not-is_tag w ↦
          sym (bad_tag a.tag a.value.now a.room (sym w.is_tag.ensures ∙ w.if-not-is_tag.true))
      | then-size-gt4096-via-else-size-gt4096+else-not-is_tag+then-not-fits_tag w ↦
          sym (bad_value a.tag a.value.now a.room (sym w.fits_tag.ensures ∙ w.if-not-fits_tag.true))
    ]

pub returns-then-room-size : goal.returns-then-room-size
unfolding refusal_of
returns-then-room-size c =
    let a = c.args in
    let size = written_length a.tag a.value.now in
    sym
    (no_room a.tag a.value.now a.room
    (record {
      a_tag = sym c.is_tag.ensures ∙ c.if-not-is_tag.false;
      fits = sym c.fits_tag.ensures ∙ c.if-not-fits_tag.false;
      short = omega arith;
    })
    (omega arith))

pub returns : goal.returns
unfolding refusal_of
returns c =
    let a = c.args in
    let size = written_length a.tag a.value.now in
    sym
    (accepted a.tag a.value.now a.room
    (record {
      a_tag = sym c.is_tag.ensures ∙ c.if-not-is_tag.false;
      fits = sym c.fits_tag.ensures ∙ c.if-not-fits_tag.false;
      short = omega arith;
    })
    (omega arith))
