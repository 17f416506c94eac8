-- `write::select` meets its contract: the head, the AID where it ends, and '00' after that.
-- Assumes nothing.
use mathlib.Core.Path.{◌≡◌, refl, sym, ap, ◌∙◌}
use mathlib.Core.List.{List, [], ◌∷◌, ◌++◌}
use Prim.Native.Nat.{ℕ, ◌+◌, ◌≤◌}
use lib.ListN.{length}
use Rattle.slices.specs.Writing.{put, laid}
use Rattle.start_fields.specs.Reading.{reading_of}
use Rattle.commands.specs.Commands.{select_command, size_in}
use Rattle.commands.proofs.Sizes.{unissued, issued, two_laid, two_pieces}
use Rattle.commands.proofs.Shapes.{ended_length, aid_most}
use Rattle.slices.proofs.Writing.{put_length, laid_fits}
use native.Mathlib.Omega.{arith}
use Rattle.commands.proofs.write.select.Goals as goal

module _ (name buf out : List ℕ) (n : ℕ) (e : length name ≡ n) where
  written : n + 6 ≤ length buf
      → out ≡ laid (0 ∷ []) (5 + n) (laid name 5 (laid (0x00 ∷ 0xA4 ∷ 0x04 ∷ 0x00 ∷ n ∷ []) 0 buf))
      → (n + 6 ≡ size_in (length buf) (select_command name)) × (out ≡ laid (select_command name) 0 buf)
  unfolding select_command
  written room o =
      let head : List ℕ = 0x00 ∷ 0xA4 ∷ 0x04 ∷ 0x00 ∷ n ∷ [] in
      let m = ended_length name in
      let fits : 0 + 5 ≤ length buf = omega arith in
      let one : laid head 0 buf ≡ put head 0 buf = laid_fits head 0 buf fits in
      let long : length (laid head 0 buf) ≡ length buf = ap length one ∙ put_length head 0 buf fits in
      issued (select_command name) buf out (n + 6) (omega arith) (omega arith)
      (o
      ∙ (two_laid name (0 ∷ []) (laid head 0 buf) 5 (5 + n) (omega arith) (omega arith)
      ∙ (two_pieces head (name ++ (0 ∷ [])) buf 5 refl (omega arith)
      ∙ ap (λ (k : ℕ). put (0x00 ∷ 0xA4 ∷ 0x04 ∷ 0x00 ∷ k ∷ (name ++ (0 ∷ []))) 0 buf) (sym e))))

pub returns-then-buf-n : goal.returns-then-buf-n
unfolding select_command
returns-then-buf-n c =
    let short : length c.aid-name.result.now ≡ length (reading_of c.args.start.now).aid =
    ap length c.aid-name.ensures
    in
    let a = c.args in
    let name = (reading_of a.start.now).aid in
    let e = short in
    let n = ended_length name in
    let both = unissued (select_command name) a.buf.now (omega arith) in
    record { size = both.0; buffer = both.1 }

pub overflow_cast-head : goal.overflow_cast-head
overflow_cast-head c =
    let short : length c.aid-name.result.now ≡ length (reading_of c.args.start.now).aid = ap length c.aid-name.ensures in
    let h = aid_most c.args.start.now in
    omega arith

pub returns : goal.returns
returns c =
    let a =
    c.args in
    let name =
    c.aid-name in
    let text = name.result.now in
    let same = name.ensures in
    let done =
    written text a.buf.now c.lay-3.new.buf (length text) refl
    c.if-buf-n.false
    (c.lay-3.ensures
    ∙ ap (laid (0 ∷ []) (5 + length text))
    (c.lay-2.ensures
    ∙ ap (laid text 5) c.lay.ensures)) in record {
      size = done.0 ∙ ap (λ (x : List ℕ). size_in (length a.buf.now) (select_command x)) same;
      buffer = done.1
          ∙ ap (λ (x : List ℕ). laid (select_command x) 0 a.buf.now) same;
    }
