-- `tlv_write::write` meets its contract: refused, it returns before anything is written; accepted, the object fits.
-- Assumes nothing.
use Rattle.std.proofs.Common.{◌≡◌, sym, ◌∙◌, ℕ, List, length, arith, Err, Ok, refl}
use Rattle.std.proofs.lemmas.Result.{err_from_is_err_and}
use Rattle.tlv_write.specs.Writes.{Writes}
use Rattle.tlv_write.specs.declared.WriteRefusal.{WriteRefusal}
use Rattle.tlv_write.specs.declared.WriteRefusal.TheVariants.{BadObject, NoRoom}
use Rattle.tlv_write.specs.Written.{refusal_of, size_of, write_refusal}
use Rattle.tlv_write.proofs.Refusals.{written_length, Accepted, not_refused, refused_size}
use Rattle.tlv_write.proofs.Refusals.{refused_buffer_lem, accepted_size, accepted_buffer, tag_small}
use Rattle.tlv_write.proofs.write.Goals as goal

-- an error is the same refusal whatever it stands for, and no object is written
same_refusal : (A : Type 0) (e : WriteRefusal) → refusal_of {A = ℕ} (Err e) ≡ refusal_of {A = A} (Err e)
unfolding refusal_of
same_refusal A BadObject = refl
same_refusal A NoRoom = refl

is_refused : (A : Type 0) (e : WriteRefusal) → refusal_of {A = A} (Err e) ≡ 0 → ⊥
unfolding refusal_of
is_refused A BadObject z = omega arith
is_refused A NoRoom z = omega arith

none_written : (e : WriteRefusal) → size_of (Err e) ≡ 0
unfolding size_of
none_written BadObject = refl
none_written NoRoom = refl

refused : (tag : ℕ) (value buf : List ℕ) (e : WriteRefusal)
    → refusal_of {A = Unit {0}} (Err e) ≡ write_refusal tag value (length buf) → Writes tag value buf (Err e) buf
refused tag value buf e h = record {
  refusal = same_refusal _ e ∙ h;
  size = none_written e ∙ sym (refused_size tag value buf _ (sym h) (is_refused _ e));
  buffer = sym (refused_buffer_lem tag value buf _ (sym h) (is_refused _ e));
}

accepted : (tag : ℕ) (value buf : List ℕ)
    → refusal_of {A = Unit {0}} (Ok tt) ≡ write_refusal tag value (length buf) → Accepted tag value (length buf)
unfolding refusal_of
accepted tag value buf h =
    let none : 0 ≡ write_refusal tag value (length buf) = h in
    not_refused tag value (length buf) (λ f. omega arith) (λ f. omega arith)

pub returns-in_err-accept : goal.returns-in_err-accept
returns-in_err-accept c =
    let p = err_from_is_err_and c.from_residual.result c.from_residual.ensures.1 in
    let w = refused c.args.tag c.args.value.now c.args.buf.now _ c.in_err-accept.ensures in
    rw (p.1, p.2) record { refusal = w.refusal; size = w.size; buffer = w.buffer }

pub lay_object-requires : goal.lay_object-requires
lay_object-requires c =
    let a = c.args in
    let ok = accepted a.tag a.value.now a.buf.now c.in_ok-accept.ensures in
    let size = written_length a.tag a.value.now in
    (tag_small a.tag ok.sound.a_tag, omega arith, ok.room_for)

pub returns : goal.returns
unfolding refusal_of size_of
returns c =
    let a = c.args in
    let ok = accepted a.tag a.value.now a.buf.now c.in_ok-accept.ensures in
    record {
      refusal = sym ok.none_told;
      size = c.lay_object.ensures.size ∙ sym (accepted_size a.tag a.value.now a.buf.now ok.none_told);
      buffer = c.lay_object.ensures.buffer ∙ sym (accepted_buffer a.tag a.value.now a.buf.now ok.none_told);
    }
