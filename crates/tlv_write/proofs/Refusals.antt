-- The writer's refusals, a line of the list at a time, and what an accepted object is known to be.
-- Assumes nothing.
use mathlib.Core.Path.{◌≡◌, refl, sym, ap, ◌∙◌}
use mathlib.Core.Bool.{true, false, not}
use mathlib.Core.List.{List, ◌++◌}
use Prim.Native.Nat.{ℕ, ◌+◌, ◌≤◌, ◌<◌}
use native.Mathlib.Nat.{add_assoc, zero-add}
use native.Mathlib.Omega.{arith}
use lib.Dec.{ltb}
use lib.ListN.{length, length-append}
use borrow.Author.Tests.{lt-ltb, le-ltb, ltb-true, ltb-false, eq-eqb, ne_eqb, not-false}
use Rattle.slices.specs.Choice.{pick, first_of}
use Rattle.slices.specs.Writing.{put, laid}
use Rattle.slices.proofs.Writing.{put_length, put_step, laid_fits}
use Rattle.slices.proofs.Choice.{pick_yes, pick_no, pick_same, picked, either, and_left}
use Rattle.tlv_write.specs.Written.{is_tag, tag_bytes, length_bytes, written, fits_tag}
use Rattle.tlv_write.specs.Written.{write_refusal, size_written, buffer_after, refusal_of, size_of}
use Rattle.std.specs.Prelude.{Result, Ok, Err}
use Rattle.tlv_write.specs.declared.WriteRefusal.{WriteRefusal}
use Rattle.tlv_write.specs.declared.WriteRefusal.TheVariants.{BadObject, NoRoom}

pub written_length : (tag : ℕ) (value : List ℕ)
    → length (written tag value) ≡ length (tag_bytes tag) + length (length_bytes (length value)) + length value
unfolding written
written_length tag value =
    length-append (tag_bytes tag) (length_bytes (length value) ++ value)
    ∙ (ap (λ (n : ℕ). length (tag_bytes tag) + n) (length-append (length_bytes (length value)) value) ∙ sym (add_assoc _ _ _))

module _ (tag : ℕ) (value : List ℕ) (room : ℕ) where
  pub bad_tag : is_tag tag ≡ false → write_refusal tag value room ≡ 10
  unfolding write_refusal first_of
  bad_tag e = pick_yes _ _ _ (ap not e)

  pub bad_value : fits_tag tag value ≡ false → write_refusal tag value room ≡ 10
  unfolding write_refusal first_of
  bad_value e = ap (pick (not (is_tag tag)) 10) (pick_yes _ _ _ (ap not e)) ∙ pick_same _ _

  pub too_long : 4096 < length (written tag value) → write_refusal tag value room ≡ 10
  unfolding write_refusal first_of
  too_long h =
      ap (pick (not (is_tag tag)) 10) (ap (pick (not (fits_tag tag value)) 10) (pick_yes _ _ _ (lt-ltb _ _ h)) ∙ pick_same _ _)
      ∙ pick_same _ _

  pub record Sound : Type 0 where
    pub a_tag : is_tag tag ≡ true
    pub fits : fits_tag tag value ≡ true
    pub short : length (written tag value) ≤ 4096

  on_sound : Sound → write_refusal tag value room ≡ pick (ltb room (length (written tag value))) 11 0
  unfolding write_refusal first_of
  on_sound o = pick_no _ _ _ (ap not o.a_tag) ∙ (pick_no _ _ _ (ap not o.fits) ∙ pick_no _ _ _ (le-ltb _ _ o.short))

  pub no_room : Sound → room < length (written tag value) → write_refusal tag value room ≡ 11
  no_room o h = on_sound o ∙ pick_yes _ _ _ (lt-ltb _ _ h)

  pub accepted : Sound → length (written tag value) ≤ room → write_refusal tag value room ≡ 0
  accepted o h = on_sound o ∙ pick_no _ _ _ (le-ltb _ _ h)

  -- each number comes from its own line
  pub numbers : (P : ℕ → Type 0) → P 10 → (Sound → P 11) → (Sound → length (written tag value) ≤ room → P 0)
      → P (write_refusal tag value room)
  unfolding write_refusal first_of
  numbers P ten eleven zero' =
      picked P (not (is_tag tag)) 10 _ (λ e. ten) (λ t.
      picked P (not (fits_tag tag value)) 10 _ (λ e. ten) (λ f.
      picked P (ltb 4096 (length (written tag value))) 10 _ (λ e. ten) (λ l.
      let o : Sound = record { a_tag = not-false _ t; fits = not-false _ f; short = ltb-false _ _ l } in
      picked P (ltb room (length (written tag value))) 11 0 (λ e. eleven o) (λ r. zero' o (ltb-false _ _ r)))))

  pub record Accepted : Type 0 where
    pub none_told : write_refusal tag value room ≡ 0
    pub sound : Sound
    pub room_for : length (written tag value) ≤ room

  pub not_refused : (write_refusal tag value room ≡ 10 → ⊥) → (write_refusal tag value room ≡ 11 → ⊥) → Accepted
  not_refused =
      numbers (λ n. write_refusal tag value room ≡ n → (write_refusal tag value room ≡ 10 → ⊥) → (write_refusal tag value room ≡ 11 → ⊥)
      → Accepted)
      (λ e f g. absurd (f e)) (λ o e f g. absurd (g e)) (λ o h e f g. record { none_told = e; sound = o; room_for = h }) refl

module _ (tag : ℕ) (value buf : List ℕ) where
  pub refused_size : (n : ℕ) → write_refusal tag value (length buf) ≡ n → (n ≡ 0 → ⊥) → size_written tag value (length buf) ≡ 0
  unfolding size_written
  refused_size n e h = pick_no _ _ _ (ne_eqb _ _ (λ z. h (sym e ∙ z)))

  pub refused_buffer_lem : (n : ℕ) → write_refusal tag value (length buf) ≡ n → (n ≡ 0 → ⊥) → buffer_after tag value buf ≡ buf
  unfolding buffer_after
  refused_buffer_lem n e h = pick_no _ _ _ (ne_eqb _ _ (λ z. h (sym e ∙ z)))

  pub accepted_size : write_refusal tag value (length buf) ≡ 0 → size_written tag value (length buf) ≡ length (written tag value)
  unfolding size_written
  accepted_size e = pick_yes _ _ _ (eq-eqb _ _ e)

  pub accepted_buffer : write_refusal tag value (length buf) ≡ 0 → buffer_after tag value buf ≡ put (written tag value) 0 buf
  unfolding buffer_after
  accepted_buffer e = pick_yes _ _ _ (eq-eqb _ _ e)

-- the promise on the answer fits one answer only
pub one_answer : (a b : Result ℕ WriteRefusal) → refusal_of a ≡ refusal_of b → size_of a ≡ size_of b → a ≡ b
unfolding refusal_of size_of
one_answer (Ok m) (Ok n) e f = ap Ok f
one_answer (Ok m) (Err BadObject) e f = absurd (omega arith)
one_answer (Ok m) (Err NoRoom) e f = absurd (omega arith)
one_answer (Err BadObject) (Ok n) e f = absurd (omega arith)
one_answer (Err BadObject) (Err BadObject) e f = refl
one_answer (Err BadObject) (Err NoRoom) e f = absurd (omega arith)
one_answer (Err NoRoom) (Ok n) e f = absurd (omega arith)
one_answer (Err NoRoom) (Err BadObject) e f = absurd (omega arith)
one_answer (Err NoRoom) (Err NoRoom) e f = refl

-- a tag has at most two bytes
pub tag_small : (t : ℕ) → is_tag t ≡ true → t < 65536
unfolding is_tag
tag_small t e =
    either (ltb t 256)
    (λ y. let h = ltb-true t 256 y in omega arith)
    (λ n. ltb-true t 65536 (and_left _ _ (sym (pick_no _ _ _ n) ∙ e)))

-- three writes in a row, each where the last ended, write the object
pub three_writes : (tag : ℕ) (value buf : List ℕ) (a b : ℕ) → a ≡ length (tag_bytes tag) → b ≡ a + length (length_bytes (length value))
    → length (written tag value) ≤ length buf
    → laid value b (laid (length_bytes (length value)) a (laid (tag_bytes tag) 0 buf)) ≡ put (written tag value) 0 buf
unfolding written
three_writes tag value buf a b ea eb h =
    let t = tag_bytes tag in
    let l = length_bytes (length value) in
    let size = written_length tag value in
    let fits₁ : 0 + length t ≤ length buf = omega arith in
    let one = laid_fits t 0 buf fits₁ in
    let long₁ : length (put t 0 buf) ≡ length buf = put_length t 0 buf fits₁ in
    let fits₂ : a + length l ≤ length (put t 0 buf) = omega arith in
    let two = laid_fits l a (put t 0 buf) fits₂ in
    let long₂ : length (put l a (put t 0 buf)) ≡ length (put t 0 buf) = put_length l a (put t 0 buf) fits₂ in
    let fits₃ : b + length value ≤ length (put l a (put t 0 buf)) = omega arith in
    let joined : put (l ++ value) a (put t 0 buf) ≡ put value b (put l a (put t 0 buf))
    = put_step l value a (put t 0 buf) fits₂ ∙ ap (λ (n : ℕ). put value n (put l a (put t 0 buf))) (sym eb) in
    let first : put (written tag value) 0 buf ≡ put (l ++ value) a (put t 0 buf)
    = as_written ∙ (put_step t (l ++ value) 0 buf fits₁ ∙ ap (λ (n : ℕ). put (l ++ value) n (put t 0 buf)) (zero-add _ ∙ sym ea)) in
    ap (λ (d : List ℕ). laid value b (laid l a d)) one
    ∙ (ap (laid value b) two ∙ (laid_fits value b (put l a (put t 0 buf)) fits₃ ∙ sym (first ∙ joined)))
  where
    as_written : put (written tag value) 0 buf ≡ put (tag_bytes tag ++ (length_bytes (length value) ++ value)) 0 buf
    as_written = refl
