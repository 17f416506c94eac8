-- `write::cryptogram` meets its contract: with no data the five bytes alone, else the head with Lc, and the data.
-- Assumes nothing.
use mathlib.Core.Path.{◌≡◌, refl, sym, ap, ◌∙◌}
use mathlib.Core.List.{List, [], ◌∷◌, ◌++◌}
use Prim.Native.Nat.{ℕ, ◌+◌, ◌≤◌}
use lib.ListN.{length}
use Rattle.slices.specs.Writing.{put, laid}
use Rattle.start_fields.specs.Reading.{reading_of}
use Rattle.session_records.specs.Slots.{told_in}
use Rattle.dol_fill.specs.Filled.{filling}
use Rattle.commands.specs.Commands.{cryptogram_command, size_in}
use Rattle.commands.proofs.Sizes.{unissued, issued, two_pieces, counted}
use Rattle.commands.proofs.Shapes.{ended_length, cryptogram_empty, cryptogram_filled}
use Rattle.slices.proofs.Writing.{laid_fits}
use native.Mathlib.Omega.{arith}
use Rattle.commands.proofs.write.cryptogram.Goals as goal

module _ (request : ℕ) (d buf out : List ℕ) where
  bare_written : length d ≡ 0 → 5 ≤ length buf → out ≡ laid (0x80 ∷ 0xAE ∷ request ∷ 0 ∷ 0 ∷ []) 0 buf
      → (5 ≡ size_in (length buf) (cryptogram_command request d)) × (out ≡ laid (cryptogram_command request d) 0 buf)
  bare_written e room o =
      let same = cryptogram_empty d request e in
      let size = ap length same in
      issued (cryptogram_command request d) buf out 5 (omega arith) (omega arith)
      (o ∙ (laid_fits (0x80 ∷ 0xAE ∷ request ∷ 0 ∷ 0 ∷ []) 0 buf (omega arith) ∙ ap (λ (c : List ℕ). put c 0 buf) (sym same)))

  module _ (n : ℕ) (e : length d ≡ n) (some-data : n ≡ 0 → ⊥) where
    size : length (cryptogram_command request d) ≡ n + 6
    size = let k = ap length (cryptogram_filled d request (λ z. some-data (sym e ∙ z))) in let m = ended_length d in omega arith

    written : n + 6 ≤ length buf → out ≡ put (d ++ (0 ∷ [])) 5 (laid (0x80 ∷ 0xAE ∷ request ∷ 0 ∷ n ∷ []) 0 buf)
        → (n + 6 ≡ size_in (length buf) (cryptogram_command request d)) × (out ≡ laid (cryptogram_command request d) 0 buf)
    written room o =
        let k = size in
        let m = ended_length d in
        issued (cryptogram_command request d) buf out (n + 6) (sym size) (omega arith)
        (o
        ∙ (two_pieces (0x80 ∷ 0xAE ∷ request ∷ 0 ∷ n ∷ []) (d ++ (0 ∷ [])) buf 5 refl (omega arith)
        ∙ ap (λ (c : List ℕ). put c 0 buf)
        (ap (λ (k : ℕ). (0x80 ∷ 0xAE ∷ request ∷ 0 ∷ k ∷ []) ++ (d ++ (0 ∷ []))) (sym e)
        ∙ sym (cryptogram_filled d request (λ z. some-data (sym e ∙ z))))))

pub returns-then-buf-lt5 : goal.returns-then-buf-lt5
returns-then-buf-lt5 c =
    let a = c.args in
    let d = filling (reading_of a.from.start.now) (told_in a.from.known.now) a.list.now in
    let e : length d ≡ 0 = counted _ _ a.list.now c.data_size-n.ensures.0 ∙ c.if-n-eq0.true in
    let size = ap length (cryptogram_empty d a.request e) in
    let both = unissued (cryptogram_command a.request d) a.buf.now (omega arith) in
    record { size = both.0; buffer = both.1 }

pub returns-then-n-eq0 : goal.returns-then-n-eq0
returns-then-n-eq0 c =
    let a = c.args in
    let both = bare_written a.request (filling (reading_of a.from.start.now) (told_in a.from.known.now) a.list.now) a.buf.now
    c.lay.new.buf
    (counted _ _ a.list.now c.data_size-n.ensures.0 ∙ c.if-n-eq0.true) c.if-buf-lt5.false
    c.lay.ensures in
    record { size = both.0; buffer = both.1 }

pub returns-then-buf-n : goal.returns-then-buf-n
returns-then-buf-n c =
    let a = c.args in
    let d = filling (reading_of a.from.start.now) (told_in a.from.known.now) a.list.now in
    let k = size a.request d a.buf.now [] c.data_size-n.result (counted _ _ a.list.now c.data_size-n.ensures.0) c.if-n-eq0.false in
    let both = unissued (cryptogram_command a.request d) a.buf.now (omega arith) in
    record { size = both.0; buffer = both.1 }

pub returns : goal.returns
returns c =
    let a = c.args in
    let both = written a.request (filling (reading_of a.from.start.now) (told_in a.from.known.now) a.list.now) a.buf.now
    c.lay_data.new.buf
    c.data_size-n.result
    (counted _ _ a.list.now c.data_size-n.ensures.0)
    c.if-n-eq0.false
    c.if-buf-n.false
    (c.lay_data.ensures
    ∙ ap (put (filling (reading_of a.from.start.now) (told_in a.from.known.now) a.list.now ++ (0 ∷ [])) 5)
    c.lay-2.ensures) in
    record { size = both.0; buffer = both.1 }
