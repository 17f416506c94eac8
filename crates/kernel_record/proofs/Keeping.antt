-- The blocks of a call on the tape: written one after the other they are one write of all of them, right after those used; where the
-- call is turned away, writer and tape are as they were.
-- Assumes nothing.
use mathlib.Core.Path.{◌≡◌, refl, sym, ap, ap₂, ◌∙◌}
use mathlib.Core.List.{List, [], ◌∷◌, append-nil}
use Prim.Native.Nat.{ℕ, ◌+◌, ◌*◌}
use native.Mathlib.Omega.{arith}
use lib.Dec.{eqb}
use lib.ListN.{length}
use borrow.Author.Tests.{eq-eqb, ne_eqb, eqb-true, eqb-false}
use Rattle.slices.specs.Writing.{put}
use Rattle.slices.proofs.Choice.{pick_yes, pick_no, either}
use Rattle.slices.proofs.Writing.{put_length, put_step, put_nothing}
use Rattle.tape_read.specs.Entries.{Entry, block_size}
use Rattle.tape_read.specs.Blocks.{block}
use Rattle.tape_read.specs.Tapes.{written}
use Rattle.tape_read.proofs.Parts.{block_length}
use Rattle.tape_write.specs.Appending.{refusal_of, appended_of, tape_after, append_all}
use Rattle.tape_write.specs.declared.Writer.{Writer}
use Rattle.tape_write.specs.declared.Appended.{Appended}
use Rattle.tape_write.proofs.Refusals.{taken}
use Rattle.tape_write.proofs.Growing.{refused_answer_lem, taken_answer, refused_tape, taken_tape}
use Rattle.kernel_record.specs.Recording.{kept, grown, kept_all, tape_refusal}
use Rattle.kernel_record.proofs.Refusing.{Fitting, none_rest, call_fits, fits_call, fits_one, one_refusal}

-- so many blocks further
abbrev pub further : Writer → ℕ → Writer
further w n = record { used = w.used + n; session = w.session }

module _ (w : Writer) (es : List Entry) (t : List ℕ) where
  pub all_kept : tape_refusal w.used es t ≡ 0 → kept_all w es t ≡ grown w es t
  unfolding kept_all
  all_kept h = pick_yes _ _ _ (eq-eqb _ _ h)

  -- a call that is turned away changes nothing
  pub none_kept : (tape_refusal w.used es t ≡ 0 → ⊥)
      → kept_all w es t ≡ kept (record { writer = w; refusal = tape_refusal w.used es t }) t
  unfolding kept_all
  none_kept h = pick_no _ _ _ (ne_eqb _ _ h)

-- no entries, no change
pub nothing_kept : (w : Writer) (t : List ℕ) → kept (record { writer = w; refusal = 0 }) t ≡ kept_all w [] t
unfolding grown written tape_refusal
nothing_kept w t =
    let none : w.used ≡ w.used + 0 = omega arith in
    ap₂ (λ (n : ℕ) (u : List ℕ). kept (record { writer = record { used = n; session = w.session }; refusal = 0 }) u)
    none (sym (put_nothing (w.used * block_size) t))
    ∙ sym (all_kept w [] t refl)

-- ---- an entry that the writer takes

module _ (w : Writer) (e : Entry) (t : List ℕ) (ok : refusal_of w.used e t ≡ 0) where
  size : length (block w.used w.session e) ≡ block_size
  size = block_length w.used w.session e (taken w.used e t ok).fits

  pub tape_stays : length (tape_after w e t) ≡ length t
  tape_stays =
      let b = block w.used w.session e in
      let room = taken w.used e t ok in
      let one = size in
      ap length (taken_tape w e t ok) ∙ put_length b (w.used * block_size) t (omega arith)

  pub grown_one : kept (appended_of w (refusal_of w.used e t)) (tape_after w e t) ≡ grown w (e ∷ []) t
  unfolding grown written
  grown_one =
      let b = block w.used w.session e in
      ap₂ kept (taken_answer w _ ok) (taken_tape w e t ok ∙ ap (λ (x : List ℕ). put x (w.used * block_size) t) (sym (append-nil b)))

  pub grown_on : (es : List Entry) → grown (further w 1) es (tape_after w e t) ≡ grown w (e ∷ es) t
  unfolding grown written
  grown_on es =
      let b = block w.used w.session e in
      let rest = written (w.used + 1) w.session es in
      let room = taken w.used e t ok in
      let one = size in
      let count : w.used + 1 + length es ≡ w.used + length (e ∷ es) = omega arith in
      let place : (w.used + 1) * block_size ≡ w.used * block_size + length b = omega arith in
      ap₂ kept
      (ap (λ (n : ℕ). record { writer = record { used = n; session = w.session }; refusal = 0 }) count)
      (ap₂ (put rest) place (taken_tape w e t ok) ∙ sym (put_step b rest (w.used * block_size) t (omega arith)))

-- ---- as the writer's own appends do it

module _ (w : Writer) (e : Entry) (t : List ℕ) where
  pub only : (r : Appended) (t' : List ℕ) → r ≡ appended_of w (refusal_of w.used e t) → t' ≡ tape_after w e t
      → kept r t' ≡ kept_all w (e ∷ []) t
  only r t' answered left =
      let same = one_refusal w.used e t in
      ap₂ kept answered left
      ∙ either (eqb (refusal_of w.used e t) 0)
      (λ yes. let ok = eqb-true _ _ yes in grown_one w e t ok ∙ sym (all_kept w (e ∷ []) t (same ∙ ok)))
      (λ no.
      let bad = eqb-false _ _ no in
      ap₂ kept (refused_answer_lem w _ bad ∙ ap (λ (n : ℕ). record { writer = w; refusal = n }) (sym same)) (refused_tape w e t bad)
      ∙ sym (none_kept w (e ∷ []) t (λ z. bad (sym same ∙ z))))

  -- the rest of the entries fit after the first
  pub rest_fits : (es : List Entry) → Fitting w.used (e ∷ es) t → Fitting (w.used + 1) es (tape_after w e t)
  rest_fits es f =
      let stays = tape_stays w e t (fits_one w.used e t es f) in
      let blocks = f.blocks in
      let bytes = f.bytes in
      record { right = none_rest e es f.right; blocks = omega arith; bytes = omega arith }

  pub writer_after : refusal_of w.used e t ≡ 0 → (appended_of w (refusal_of w.used e t)).writer ≡ further w 1
  writer_after ok = ap (λ (a : Appended). a.writer) (taken_answer w _ ok)

-- entries that fit, appended one by one, leave what is left where they are kept at once
pub as_appended : (es : List Entry) (w : Writer) (t : List ℕ) → Fitting w.used es t
    → kept (record { writer = (append_all w es t).writer; refusal = 0 }) (append_all w es t).tape ≡ kept_all w es t
unfolding append_all
as_appended [] w t f = nothing_kept w t
as_appended (e ∷ es) w t f =
    let ok = fits_one w.used e t es f in
    let rest = rest_fits w e t es f in
    let t' = tape_after w e t in
    ap (λ (v : Writer). kept (record { writer = (append_all v es t').writer; refusal = 0 }) (append_all v es t').tape)
    (writer_after w e t ok)
    ∙ (as_appended es (further w 1) (tape_after w e t) rest
    ∙ (all_kept (further w 1) es (tape_after w e t) (fits_call (w.used + 1) es (tape_after w e t) rest)
    ∙ (grown_on w e t ok es ∙ sym (all_kept w (e ∷ es) t (fits_call w.used (e ∷ es) t f)))))

-- ---- two entries, by what the writer answered and left for each

module _ (w : Writer) (e f : Entry) (t : List ℕ) where
  pub both_refused : (n : ℕ) → n ≡ tape_refusal w.used (e ∷ f ∷ []) t → (n ≡ 0 → ⊥)
      → kept (record { writer = w; refusal = n }) t ≡ kept_all w (e ∷ f ∷ []) t
  both_refused n told bad =
      ap (λ (k : ℕ). kept (record { writer = w; refusal = k }) t) told ∙ sym (none_kept w (e ∷ f ∷ []) t (λ z. bad (told ∙ z)))

  pub both_taken : (n : ℕ) → n ≡ tape_refusal w.used (e ∷ f ∷ []) t → n ≡ 0 → (first second : Appended) (t₁ t₂ : List ℕ)
      → first ≡ appended_of w (refusal_of w.used e t) → t₁ ≡ tape_after w e t
      → second ≡ appended_of first.writer (refusal_of first.writer.used f t₁) → t₂ ≡ tape_after first.writer f t₁
      → kept second t₂ ≡ kept_all w (e ∷ f ∷ []) t
  both_taken n told zero first second t₁ t₂ answered left answered₂ left₂ =
      let none = sym told ∙ zero in
      let fits = call_fits w.used e (f ∷ []) t none in
      let ok = fits_one w.used e t (f ∷ []) fits in
      let next : first.writer ≡ further w 1 = ap (λ (a : Appended). a.writer) answered ∙ writer_after w e t ok in
      let rest = rest_fits w e t (f ∷ []) fits in
      let ok₂ = fits_one (w.used + 1) f (tape_after w e t) [] rest in
      ap₂ kept answered₂ left₂
      ∙ (ap₂ (λ (v : Writer) (u : List ℕ). kept (appended_of v (refusal_of v.used f u)) (tape_after v f u)) next left
      ∙ (grown_one (further w 1) f (tape_after w e t) ok₂ ∙ (grown_on w e t ok (f ∷ []) ∙ sym (all_kept w (e ∷ f ∷ []) t none))))
