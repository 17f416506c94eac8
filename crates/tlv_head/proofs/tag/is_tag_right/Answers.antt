-- `tag::is_tag_right` meets its contract: the tests that the definition makes, one after the other.
-- Assumes nothing.
use mathlib.Core.Path.{◌≡◌, sym, ◌∙◌, ap}
use mathlib.Core.Bool.{true, false}
use mathlib.Core.List.{List}
use Prim.Native.Nat.{ℕ}
use lib.Dec.{ltb}
use lib.ListN.{get_or}
use borrow.Author.Tests.{eq-eqb, ne_eqb}
use Rattle.slices.proofs.Choice.{pick_yes, pick_no}
use Rattle.tlv_head.specs.Head.{tag_right, two_bytes}
use Rattle.tlv_head.proofs.tag.is_tag_right.Goals as goal

module _ (s : List ℕ) (first : ℕ) (e : first ≡ get_or s 0 0) where
  filler : first ≡ 0 → false ≡ tag_right s
  unfolding tag_right
  filler z = sym (pick_yes _ _ _ (eq-eqb _ _ (sym e ∙ z)))

  module _ (other : first ≡ 0 → ⊥) where
    two : (second : ℕ) → second ≡ get_or s 1 0 → two_bytes first ≡ true → ltb second 0x80 ≡ tag_right s
    unfolding tag_right
    two second f t =
        ap (λ (b : ℕ). ltb b 0x80) f
        ∙ sym (pick_no _ _ _ (ne_eqb _ _ (λ z. other (e ∙ z))) ∙ pick_yes _ _ _ (ap two_bytes (sym e) ∙ t))

    one : two_bytes first ≡ false → true ≡ tag_right s
    unfolding tag_right
    one t = sym (pick_no _ _ _ (ne_eqb _ _ (λ z. other (e ∙ z))) ∙ pick_no _ _ _ (ap two_bytes (sym e) ∙ t))

pub returns-then-first-eq0 : goal.returns-then-first-eq0
returns-then-first-eq0 c =
    let b = c.byte-first in
    filler c.args.s.now b.result b.ensures.0 c.if-first-eq0.true

pub returns-then-has_two_bytes : goal.returns-then-has_two_bytes
returns-then-has_two_bytes c =
    let b = c.byte-first in
    two c.args.s.now b.result b.ensures.0 c.if-first-eq0.false
    c.byte.result c.byte.ensures.0 (sym c.has_two_bytes.ensures ∙ c.if-has_two_bytes.true)

pub returns-else-has_two_bytes : goal.returns-else-has_two_bytes
returns-else-has_two_bytes c =
    let b = c.byte-first in
    one c.args.s.now b.result b.ensures.0 c.if-first-eq0.false
    (sym c.has_two_bytes.ensures ∙ c.if-has_two_bytes.false)
