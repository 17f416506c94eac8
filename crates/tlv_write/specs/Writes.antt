-- What `write` promises, in one record: of its answer, and of the buffer that it was lent.
-- Assumes nothing.
use Rattle.std.specs.Prelude.{◌≡◌, Result, List, ℕ, length}
use Rattle.tlv_write.specs.Written.{write_refusal, refusal_of, size_of, size_written, buffer_after}
use Rattle.tlv_write.specs.declared.WriteRefusal.{WriteRefusal}

pub record Writes (tag : ℕ) (value before : List ℕ) (answer : Result ℕ WriteRefusal) (after : List ℕ) : Type 0 where
  pub refusal : refusal_of answer ≡ write_refusal tag value (length before)
  pub size : size_of answer ≡ size_written tag value (length before)
  pub buffer : after ≡ buffer_after tag value before
