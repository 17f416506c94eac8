-- A tape entry by entry: a refused one leaves writer and tape as they were, one that is taken adds its block after those
-- used, and so the blocks used are always the entries taken so far, written in order. Assumes nothing.
use mathlib.Core.Path.{◌≡◌, refl, sym, ap, ap₂, ◌∙◌}
use mathlib.Core.Bool.{true}
use mathlib.Core.List.{List, [], ◌∷◌, ◌++◌, append_assoc, append-nil}
use Prim.Native.Nat.{ℕ, ◌+◌, ◌*◌, ◌^◌, ◌≤◌, ◌<◌}
use native.Mathlib.Nat.{add-zero}
use native.Mathlib.Omega.{arith}
use lib.ListN.{length, take, length-append}
use lib.Seq.{take-add}
use borrow.Author.Tests.{eq-eqb, ne_eqb}
use Rattle.slices.specs.Writing.{put}
use Rattle.slices.proofs.Choice.{pick_yes, pick_no}
use Rattle.slices.proofs.Writing.{put_length, put_take, put_there}
use Rattle.tape_read.specs.Entries.{Entry, block_size, blocks_most, all_storable}
use Rattle.tape_read.specs.Blocks.{block}
use Rattle.tape_read.specs.Tapes.{entries, read_tape, written}
use Rattle.tape_write.specs.Appending.{refusal_of, appended_of, tape_after, append_all, fresh}
use Rattle.tape_write.specs.declared.Writer.{Writer}
use Rattle.tape_write.specs.declared.Appended.{Appended}
use Rattle.tape_read.proofs.Parts.{block_length}
use Rattle.tape_read.proofs.Back.{storable_kind, storable_fits}
use Rattle.tape_read.proofs.Roundtrip.{first_storable, rest_storable, tape_back}
use Rattle.tape_write.proofs.Refusals.{taken, not_refused}

module _ (w : Writer) where
  pub refused_answer_lem : (r : ℕ) → (r ≡ 0 → ⊥) → appended_of w r ≡ record { writer = w; refusal = r }
  unfolding appended_of
  refused_answer_lem r h = pick_no _ _ _ (ne_eqb _ _ h)

  pub taken_answer : (r : ℕ) → r ≡ 0 → appended_of w r ≡ record { writer = record { used = w.used + 1; session = w.session }; refusal = 0 }
  unfolding appended_of
  taken_answer r h = pick_yes _ _ _ (eq-eqb _ _ h)

module _ (w : Writer) (e : Entry) (t : List ℕ) where
  pub refused_tape : (refusal_of w.used e t ≡ 0 → ⊥) → tape_after w e t ≡ t
  unfolding tape_after
  refused_tape h = pick_no _ _ _ (ne_eqb _ _ h)

  module _ (h : refusal_of w.used e t ≡ 0) where
    pub taken_tape : tape_after w e t ≡ put (block w.used w.session e) (w.used * block_size) t
    unfolding tape_after
    taken_tape = pick_yes _ _ _ (eq-eqb _ _ h)

    -- the blocks used are one more
    grown : take ((w.used + 1) * block_size) (tape_after w e t) ≡ take (w.used * block_size) t ++ block w.used w.session e
    grown =
        let at = w.used * block_size in
        let b = block w.used w.session e in
        let room = taken w.used e t h in
        let size = block_length w.used w.session e room.fits in
        let inside : at ≤ length t = omega arith in
        let more : (w.used + 1) * block_size ≡ at + length b = omega arith in
        ap₂ take more taken_tape
        ∙ (take-add at (length b) (put b at t) ∙ ap₂ ◌++◌ (put_take b at t inside) (put_there b at t inside))

-- one entry more at the end
written_more : (n s : ℕ) (es : List Entry) (e : Entry) → written n s (es ++ (e ∷ [])) ≡ written n s es ++ block (n + length es) s e
unfolding written
written_more n s [] e = append-nil (block n s e) ∙ ap (λ (k : ℕ). block k s e) (sym (add-zero n))
written_more n s (f ∷ es) e =
    let place : n + 1 + length es ≡ n + length (f ∷ es) = omega arith in
    ap (◌++◌ (block n s f)) (written_more (n + 1) s es e ∙ ap (λ (k : ℕ). written (n + 1) s es ++ block k s e) place)
    ∙ sym (append_assoc (block n s f) (written (n + 1) s es) (block (n + length (f ∷ es)) s e))

-- the blocks used hold the entries taken so far; after one more, those and this one
pub append_written : (w : Writer) (es : List Entry) (e : Entry) (t : List ℕ) → length es ≡ w.used
    → take (w.used * block_size) t ≡ written 0 w.session es
    → refusal_of w.used e t ≡ 0 → take ((w.used + 1) * block_size) (tape_after w e t) ≡ written 0 w.session (es ++ (e ∷ []))
append_written w es e t count so_far h =
    let here : w.used ≡ 0 + length es = omega arith in
    grown w e t h
    ∙ (ap₂ ◌++◌ so_far (ap (λ (k : ℕ). block k w.session e) here) ∙ sym (written_more 0 w.session es e))

-- and what the blocks used hold reads back
pub append_reads : (w : Writer) (es : List Entry) (t : List ℕ) → all_storable es ≡ true → length es ≡ w.used → w.used ≤ blocks_most
    → w.session < 2 ^ 32
    → take (w.used * block_size) t ≡ written 0 w.session es → read_tape (take (w.used * block_size) t) ≡ entries es
append_reads w es t h count most hs so_far = ap read_tape so_far ∙ tape_back w.session es h (omega arith) hs

-- a tape keeps its length
tape_length : (w : Writer) (e : Entry) (t : List ℕ) → refusal_of w.used e t ≡ 0 → length (tape_after w e t) ≡ length t
tape_length w e t h =
    let b = block w.used w.session e in
    let room = taken w.used e t h in
    let size = block_length w.used w.session e room.fits in
    ap length (taken_tape w e t h) ∙ put_length b (w.used * block_size) t (omega arith)

-- entries that fit are all taken, and then stand after those that stood there
appends_written : (es done : List Entry) (w : Writer) (t : List ℕ) → all_storable es ≡ true → length done ≡ w.used
    → w.used + length es ≤ blocks_most
    → (w.used + length es) * block_size ≤ length t → take (w.used * block_size) t ≡ written 0 w.session done
    → take ((w.used + length es) * block_size) (append_all w es t).tape ≡ written 0 w.session (done ++ es)
unfolding append_all
appends_written [] done w t h count most room so_far =
    let none : w.used + 0 ≡ w.used = omega arith in
    ap (λ (k : ℕ). take (k * block_size) t) none ∙ (so_far ∙ ap (written 0 w.session) (sym (append-nil done)))
appends_written (e ∷ es) done w t h count most room so_far =
    let good = first_storable e es h in
    let ok : refusal_of w.used e t ≡ 0 =
    not_refused w.used e t (storable_kind e good) (storable_fits e good) (omega arith) (omega arith) in
    let w' : Writer = record { used = w.used + 1; session = w.session } in
    let t' = tape_after w e t in
    let size = tape_length w e t ok in
    let next : (appended_of w (refusal_of w.used e t)).writer ≡ w' =
    ap (λ (r : Appended). r.writer) (taken_answer w (refusal_of w.used e t) ok) in
    let place : w.used + length (e ∷ es) ≡ w'.used + length es = omega arith in
    ap₂ (λ (k : ℕ) (v : Writer). take (k * block_size) (append_all v es t').tape) place next
    ∙ (appends_written es (done ++ (e ∷ [])) w' t' (rest_storable e es h) (length-append done (e ∷ [])
    ∙ omega arith) (omega arith) (omega arith)
    (append_written w done e t count so_far ok)
    ∙ ap (written 0 w.session) (append_assoc done (e ∷ []) es))

-- what was appended in order on an empty tape reads back as exactly that
pub appends_read : (s : ℕ) (es : List Entry) (t : List ℕ) → all_storable es ≡ true → length es ≤ blocks_most
    → length es * block_size ≤ length t → s < 2 ^ 32
    → read_tape (take (length es * block_size) (append_all (fresh s) es t).tape) ≡ entries es
unfolding written
appends_read s es t h most room hs =
    let place : length es ≡ 0 + length es = omega arith in
    ap read_tape
    (ap (λ (k : ℕ). take (k * block_size) (append_all (fresh s) es t).tape) place
    ∙ appends_written es [] (fresh s) t h refl (omega arith) (omega arith) refl)
    ∙ tape_back s es h most hs
