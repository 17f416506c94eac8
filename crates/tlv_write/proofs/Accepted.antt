-- Demand 2: what we write as data objects reads back as the same tags and values. An accepted object has a tag, a value that fits it and
-- a length that a form holds, since each of these has its line among the refusals; and its bytes are the first of the buffer.
-- Assumes nothing.
use mathlib.Core.Path.{◌≡◌, sym, ap, ap₂, ◌∙◌}
use mathlib.Core.List.{List, [], ◌∷◌}
use mathlib.Core.Option.{some}
use Prim.Native.Nat.{ℕ}
use native.Mathlib.Omega.{arith}
use lib.ListN.{length, take, drop}
use lib.Seq.{take-append_seam}
use Rattle.slices.proofs.Writing.{put_start}
use Rattle.tlv_list.specs.Objects.{Object, objects}
use Rattle.tlv_write.specs.Written.{written, write_refusal, refusal_of, size_of}
use Rattle.tlv_write.specs.Writes.{Writes}
use Rattle.std.specs.Prelude.{Result}
use Rattle.tlv_write.specs.declared.WriteRefusal.{WriteRefusal}
use Rattle.tlv_write.proofs.Refusals.{not_refused, accepted_size, accepted_buffer, written_length}
use Rattle.tlv_write.proofs.ReadBack.{Writable, written_back}

abbrev object : ℕ → List ℕ → Object
object tag value = record { tag = tag; value = value }

accepted_writable : (tag : ℕ) (value : List ℕ) (room : ℕ) → write_refusal tag value room ≡ 0 → Writable (object tag value)
accepted_writable tag value room e =
    let ok = not_refused tag value room (λ f. let z = sym e ∙ f in omega arith) (λ f. let z = sym e ∙ f in omega arith) in
    let size = written_length tag value in
    let short = ok.sound.short in
    record { a_tag = ok.sound.a_tag; fits = ok.sound.fits; short = omega arith }

-- an accepted write leaves, as the first bytes of its buffer, bytes that read as exactly that object
pub reads_back : (tag : ℕ) (value before : List ℕ) (answer : Result ℕ WriteRefusal) (after : List ℕ) → Writes tag value before answer after
    → refusal_of answer ≡ 0 → objects (take (size_of answer) after) ≡ some (object tag value ∷ [])
reads_back tag value before answer after w ok =
    let none = sym w.refusal ∙ ok in
    let size = w.size ∙ accepted_size tag value before none in
    let there = w.buffer ∙ (accepted_buffer tag value before none ∙ put_start (written tag value) before) in
    ap objects
    (ap₂ (λ (n : ℕ) (b : List ℕ). take n b) size there
    ∙ take-append_seam (written tag value) (drop (length (written tag value)) before))
    ∙ written_back (object tag value) (accepted_writable tag value (length before) none)
