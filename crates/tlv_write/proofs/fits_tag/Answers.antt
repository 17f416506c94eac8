-- `tlv_write::fits_tag` meets its contract: the list check, asked only of a constructed object's value.
-- Assumes nothing.
use mathlib.Core.Path.{sym, ap, ◌∙◌}
use mathlib.Core.Bool.{not}
use Prim.Native.Nat.{ℕ}
use lib.Dec.{eqb}
use Rattle.slices.proofs.Choice.{pick_yes, pick_no}
use Rattle.tlv_list.proofs.Refusals.{checked}
use Rattle.tlv_write.specs.Written.{fits_tag}
use Rattle.tlv_write.proofs.fits_tag.Goals as goal

pub returns-then-not-is_constructed : goal.returns-then-not-is_constructed
unfolding fits_tag
returns-then-not-is_constructed c =
    ap not c.if-not-is_constructed.true
    ∙ sym (pick_no _ _ _ (sym c.is_constructed.ensures ∙ c.if-not-is_constructed.true))

pub returns-else-not-is_constructed : goal.returns-else-not-is_constructed
unfolding fits_tag
returns-else-not-is_constructed c =
    let v = c.args.value.now in
    ap (λ (n : ℕ). eqb n 0) c.list_refusal.ensures
    ∙ (checked v c.requires
    ∙ sym (pick_yes _ _ _ (sym c.is_constructed.ensures ∙ c.if-not-is_constructed.false)))
