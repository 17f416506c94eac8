-- `place::next_checked` meets its contract: what the reader finds, and for a constructed object whether its value is refused.
-- Assumes nothing.
use mathlib.Core.Path.{◌≡◌, sym, ap, ◌∙◌}
use mathlib.Core.Bool.{true, false}
use mathlib.Core.List.{List}
use Prim.Native.Nat.{ℕ}
use borrow.Author.Tests.{eq-eqb, ne_eqb}
use Rattle.slices.proofs.Choice.{pick_yes, pick_no}
use Rattle.tlv_head.specs.Head.{constructed}
use Rattle.tlv_list.specs.Objects.{between, read_refusal}
use Rattle.tlv_list.specs.Place.{next_at, looked_into, checked_at}
use Rattle.tlv_head.specs.declared.Next.{Next}
use Rattle.tlv_head.specs.declared.Next.TheVariants.{Member, End, Broken}
use Rattle.tlv_list.proofs.place.next_checked.Goals as goal
use Rattle.tlv_list.proofs.place.next_checked.Goals.{else-is_constructed-via-then-is_constructed+else-list_refusal-ne0, else-is_constructed-via-else-is_constructed}

module _ (s : List ℕ) (at : ℕ) where
  found : (n : Next) → next_at s at ≡ n → checked_at s at ≡ looked_into s n
  unfolding checked_at
  found n e = ap (looked_into s) e

  at_end_lem : next_at s at ≡ End → End ≡ checked_at s at
  unfolding looked_into
  at_end_lem e = sym (found End e)

  broken : next_at s at ≡ Broken → Broken ≡ checked_at s at
  unfolding looked_into
  broken e = sym (found Broken e)

  module _ (tag start end : ℕ) (e : next_at s at ≡ Member tag start end) where
    plain : constructed tag ≡ false → Member tag start end ≡ checked_at s at
    unfolding looked_into
    plain c = sym (found (Member tag start end) e ∙ pick_no _ _ _ c)

    list_inside : constructed tag ≡ true → read_refusal (between s start end) ≡ 0 → Member tag start end ≡ checked_at s at
    unfolding looked_into
    list_inside c r = sym (found (Member tag start end) e ∙ (pick_yes _ _ _ c ∙ pick_yes _ _ _ (eq-eqb _ 0 r)))

    no_list_inside : constructed tag ≡ true → (read_refusal (between s start end) ≡ 0 → ⊥) → Broken ≡ checked_at s at
    unfolding looked_into
    no_list_inside c r = sym (found (Member tag start end) e ∙ (pick_yes _ _ _ c ∙ pick_no _ _ _ (ne_eqb _ 0 r)))

pub returns-then-list_refusal-ne0 : goal.returns-then-list_refusal-ne0
returns-then-list_refusal-ne0 c =
    no_list_inside _ _ c.in-Member.tag c.in-Member.start c.in-Member.end (sym c.next.ensures ∙ c.in-Member.is)
    (sym c.is_constructed.ensures ∙ c.if-is_constructed.true)
    (λ z. c.if-list_refusal-ne0.true (c.list_refusal.ensures ∙ (ap read_refusal c.value.ensures ∙ z)))

pub returns-in-End : goal.returns-in-End
returns-in-End c = at_end_lem _ _ (sym c.next.ensures ∙ c.in-End.is)

pub returns-in-Broken : goal.returns-in-Broken
returns-in-Broken c = broken _ _ (sym c.next.ensures ∙ c.in-Broken.is)

pub returns-else-is_constructed : goal.returns-else-is_constructed
returns-else-is_constructed c =
    let e = sym c.next.ensures ∙ c.in-Member.is in
    elim c.else-is_constructed.branch [
      | else-is_constructed-via-then-is_constructed+else-list_refusal-ne0 w ↦
          list_inside _ _ c.in-Member.tag c.in-Member.start c.in-Member.end e
          (sym c.is_constructed.ensures ∙ w.if-is_constructed.true)
          (sym (ap read_refusal w.value.ensures) ∙ (sym w.list_refusal.ensures ∙ w.if-list_refusal-ne0.false))
      | else-is_constructed-via-else-is_constructed w ↦
          plain _ _ c.in-Member.tag c.in-Member.start c.in-Member.end e (sym c.is_constructed.ensures ∙ w.if-is_constructed.false)
    ]
