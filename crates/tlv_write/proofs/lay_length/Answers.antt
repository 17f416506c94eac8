-- `tlv_write::lay_length` meets its contract: the bytes laid are those that the definition names.
-- Assumes nothing.
use mathlib.Core.Path.{sym, ap, ◌∙◌}
use mathlib.Core.List.{List}
use Prim.Native.Nat.{ℕ}
use borrow.Author.Tests.{lt-ltb, le-ltb}
use Rattle.slices.proofs.Choice.{pick_yes, pick_no}
use Rattle.slices.specs.Writing.{laid}
use Rattle.tlv_write.specs.Written.{length_bytes}
use Rattle.tlv_write.proofs.lay_length.Goals as goal

pub returns-then-n-lt128 : goal.returns-then-n-lt128
unfolding length_bytes
returns-then-n-lt128 c =
    let a = c.args in
    c.lay.ensures
    ∙ ap (λ (s : List ℕ). laid s a.at a.buf.now)
    (sym (pick_yes _ _ _ (lt-ltb _ _ c.if-n-lt128.true)))

pub returns-then-n-lt256 : goal.returns-then-n-lt256
unfolding length_bytes
returns-then-n-lt256 c =
    let a = c.args in
    c.lay-then-n-lt256.ensures
    ∙ ap (λ (s : List ℕ). laid s a.at a.buf.now)
    (sym
    (pick_no _ _ _ (le-ltb _ _ c.if-n-lt128.false)
    ∙ pick_yes _ _ _ (lt-ltb _ _ c.if-n-lt256.true)))

pub returns-else-n-lt256 : goal.returns-else-n-lt256
unfolding length_bytes
returns-else-n-lt256 c =
    let a = c.args in
    c.lay-else-n-lt256.ensures
    ∙ ap (λ (s : List ℕ). laid s a.at a.buf.now)
    (sym
    (pick_no _ _ _ (le-ltb _ _ c.if-n-lt128.false)
    ∙ pick_no _ _ _ (le-ltb _ _ c.if-n-lt256.false)))
