-- `write::options` meets its contract: the head with the object's tag and length, in the form that the length asks for, and the data.
-- Assumes nothing.
use mathlib.Core.Path.{◌≡◌, refl, sym, ap, ◌∙◌}
use mathlib.Core.List.{List, [], ◌∷◌, ◌++◌}
use Prim.Native.Nat.{ℕ, ◌+◌, ◌≤◌, ◌<◌}
use lib.ListN.{length}
use Rattle.slices.specs.Writing.{put, laid}
use Rattle.start_fields.specs.Reading.{reading_of}
use Rattle.session_records.specs.Slots.{told_in}
use Rattle.dol_wanted.specs.Wanted.{most}
use Rattle.dol_fill.specs.Filled.{filling}
use Rattle.commands.specs.Commands.{options_command, size_in}
use Rattle.commands.proofs.Sizes.{unissued, issued, two_pieces, counted}
use Rattle.commands.proofs.Shapes.{ended_length, options_short, options_long}
use native.Mathlib.Omega.{arith}
use Rattle.commands.proofs.write.options.Goals as goal

module _ (d buf out : List ℕ) (n : ℕ) (e : length d ≡ n) where
  small : n < 0x80 → length (options_command d) ≡ n + 8
  small h = let k = ap length (options_short d (omega arith)) in let m = ended_length d in omega arith

  large : 0x80 ≤ n → n ≤ most → length (options_command d) ≡ n + 9
  large h g = let k = ap length (options_long d (omega arith) (omega arith)) in let m = ended_length d in omega arith

  small_written : n < 0x80 → n + 8 ≤ length buf
      → out ≡ put (d ++ (0 ∷ [])) 7 (laid (0x80 ∷ 0xA8 ∷ 0 ∷ 0 ∷ (n + 2) ∷ 0x83 ∷ n ∷ []) 0 buf)
      → (n + 8 ≡ size_in (length buf) (options_command d)) × (out ≡ laid (options_command d) 0 buf)
  small_written h room o =
      let size = small h in
      let m = ended_length d in
      issued (options_command d) buf out (n + 8) (sym size) (omega arith)
      (o
      ∙ (two_pieces (0x80 ∷ 0xA8 ∷ 0 ∷ 0 ∷ (n + 2) ∷ 0x83 ∷ n ∷ []) (d ++ (0 ∷ [])) buf 7 refl (omega arith)
      ∙ ap (λ (c : List ℕ). put c 0 buf)
      (ap (λ (k : ℕ). (0x80 ∷ 0xA8 ∷ 0 ∷ 0 ∷ (k + 2) ∷ 0x83 ∷ k ∷ []) ++ (d ++ (0 ∷ []))) (sym e) ∙ sym (options_short d (omega arith)))))

  large_written : 0x80 ≤ n → n ≤ most → n + 9 ≤ length buf
      → out ≡ put (d ++ (0 ∷ [])) 8 (laid (0x80 ∷ 0xA8 ∷ 0 ∷ 0 ∷ (n + 3) ∷ 0x83 ∷ 0x81 ∷ n ∷ []) 0 buf)
      → (n + 9 ≡ size_in (length buf) (options_command d)) × (out ≡ laid (options_command d) 0 buf)
  large_written h g room o =
      let size = large h g in
      let m = ended_length d in
      issued (options_command d) buf out (n + 9) (sym size) (omega arith)
      (o
      ∙ (two_pieces (0x80 ∷ 0xA8 ∷ 0 ∷ 0 ∷ (n + 3) ∷ 0x83 ∷ 0x81 ∷ n ∷ []) (d ++ (0 ∷ [])) buf 8 refl (omega arith)
      ∙ ap (λ (c : List ℕ). put c 0 buf)
      (ap (λ (k : ℕ). (0x80 ∷ 0xA8 ∷ 0 ∷ 0 ∷ (k + 3) ∷ 0x83 ∷ 0x81 ∷ k ∷ []) ++ (d ++ (0 ∷ []))) (sym e)
      ∙ sym (options_long d (omega arith) (omega arith)))))

pub returns-then-buf-n : goal.returns-then-buf-n
returns-then-buf-n c =
    let a = c.args in
    let d = filling (reading_of a.from.start.now) (told_in a.from.known.now) a.list.now in
    let size = small d a.buf.now [] c.data_size-n.result (counted _ _ a.list.now c.data_size-n.ensures.0) c.if-n-lt128.true in
    let both = unissued (options_command d) a.buf.now (omega arith) in
    record { size = both.0; buffer = both.1 }

pub returns-then-n-lt128 : goal.returns-then-n-lt128
returns-then-n-lt128 c =
    let a = c.args in
    let both = small_written (filling (reading_of a.from.start.now) (told_in a.from.known.now) a.list.now) a.buf.now
    c.lay_data.new.buf
    c.data_size-n.result
    (counted _ _ a.list.now c.data_size-n.ensures.0)
    c.if-n-lt128.true
    c.if-buf-n.false
    (c.lay_data.ensures
    ∙ ap (put (filling (reading_of a.from.start.now) (told_in a.from.known.now) a.list.now ++ (0 ∷ [])) 7)
    c.lay.ensures) in
    record { size = both.0; buffer = both.1 }

pub returns-then-buf-n-2 : goal.returns-then-buf-n-2
returns-then-buf-n-2 c =
    let a = c.args in
    let d = filling (reading_of a.from.start.now) (told_in a.from.known.now) a.list.now in
    let size = large d a.buf.now [] c.data_size-n.result (counted _ _ a.list.now c.data_size-n.ensures.0) c.if-n-lt128.false
    c.data_size-n.ensures.1 in
    let both = unissued (options_command d) a.buf.now (omega arith) in
    record { size = both.0; buffer = both.1 }

pub returns : goal.returns
returns c =
    let a = c.args in
    let both = large_written (filling (reading_of a.from.start.now) (told_in a.from.known.now) a.list.now) a.buf.now
    c.lay_data-2.new.buf
    c.data_size-n.result
    (counted _ _ a.list.now c.data_size-n.ensures.0)
    c.if-n-lt128.false
    c.data_size-n.ensures.1
    c.if-buf-n-2.false
    (c.lay_data-2.ensures
    ∙ ap (put (filling (reading_of a.from.start.now) (told_in a.from.known.now) a.list.now ++ (0 ∷ [])) 8)
    c.lay-2.ensures) in
    record { size = both.0; buffer = both.1 }
