-- `directory::entries_right` meets its contract. The loop's invariant: the entries from p on decide as all of them do.
-- Assumes nothing.
use mathlib.Core.Path.{◌≡◌, refl, sym, ap, ◌∙◌}
use mathlib.Core.Bool.{true, false}
use mathlib.Core.List.{List, map}
use Prim.Native.Nat.{ℕ}
use native.Mathlib.Omega.{arith}
use borrow.Author.Tests.{eq-eqb, ne_eqb}
use Rattle.slices.specs.Tests.{every}
use Rattle.slices.proofs.Choice.{pick_yes, pick_no}
use Rattle.slices.proofs.Tests.{held, failed}
use Rattle.tlv_list.specs.Objects.{between}
use Rattle.tlv_list.specs.Place.{next_at, places_from, follow, object_at}
use Rattle.tlv_head.specs.declared.Next.{Next}
use Rattle.tlv_head.specs.declared.Next.TheVariants.{Member, End, Broken}
use Rattle.tlv_list.proofs.Reading.{next_ahead}
use Rattle.tlv_list.proofs.Walking.{places_next}
use Rattle.select_answers.specs.Directory.{entry_tag, entries}
use Rattle.select_answers.proofs.directory.entries_right.Invariants.{right, from}
use Rattle.select_answers.proofs.directory.entries_right.Goals as goal
use Rattle.select_answers.proofs.directory.entries_right.Goals.{else-tag-eq-ENTRY-via-then-tag-eq-ENTRY+else-not-is_entry_right}
use Rattle.select_answers.proofs.directory.entries_right.Goals.{else-tag-eq-ENTRY-via-else-tag-eq-ENTRY}

module _ (s : List ℕ) (p : ℕ) where
  found : (n : Next) → next_at s p ≡ n → from s p ≡ every (map right (entries (map (object_at s) (follow (places_from s) n))))
  found n e = ap (λ l. every (map right (entries (map (object_at s) l)))) (places_next s p ∙ ap (follow (places_from s)) e)

  none_left : (n : Next) → next_at s p ≡ n → ((t start end : ℕ) → n ≡ Member t start end → ⊥) → true ≡ from s p
  unfolding every entries follow
  none_left (Member t start end) e h = absurd (h t start end refl)
  none_left End e h = sym (found End e)
  none_left Broken e h = sym (found Broken e)

  module _ (t start end : ℕ) (e : next_at s p ≡ Member t start end) where
    other : (t ≡ entry_tag → ⊥) → from s p ≡ from s end
    unfolding entries follow object_at
    other h = found (Member t start end) e ∙ ap (λ l. every (map right l)) (pick_no _ _ _ (ne_eqb _ _ h))

    entry : t ≡ entry_tag → right (between s start end) ≡ true → from s p ≡ from s end
    unfolding entries follow object_at
    entry h k = found (Member t start end) e ∙ (ap (λ l. every (map right l)) (pick_yes _ _ _ (eq-eqb _ _ h)) ∙ held refl _ k)

    faulty : t ≡ entry_tag → right (between s start end) ≡ false → from s p ≡ false
    unfolding entries follow object_at
    faulty h k =
        found (Member t start end) e ∙ (ap (λ l. every (map right l)) (pick_yes _ _ _ (eq-eqb _ _ h)) ∙ (failed refl _ k ∙ k))

pub loop-tag-smaller : goal.loop-tag-smaller
loop-tag-smaller c =
    let ahead = next_ahead c.args.s.now c.loop-tag.p _ _ _ (sym c.next.ensures ∙ c.in-Member.is) in
    omega arith

pub loop-tag-preserved : goal.loop-tag-preserved
loop-tag-preserved c =
    let s = c.args.s.now in
    let l = c.loop-tag in
    let e = sym c.next.ensures ∙ c.in-Member.is in
    elim c.else-tag-eq-ENTRY.branch [
      | else-tag-eq-ENTRY-via-then-tag-eq-ENTRY+else-not-is_entry_right w ↦
          let good = sym (w.is_entry_right.ensures ∙ ap right w.value.ensures) ∙ w.if-not-is_entry_right.false in
          sym (entry s l.p _ _ _ e w.if-tag-eq-ENTRY.true good) ∙ l.invariant
      | else-tag-eq-ENTRY-via-else-tag-eq-ENTRY w ↦ sym (other s l.p _ _ _ e w.if-tag-eq-ENTRY.false) ∙ l.invariant
    ]

pub returns-then-not-is_entry_right : goal.returns-then-not-is_entry_right
returns-then-not-is_entry_right c =
    let s = c.args.s.now in
    let l = c.loop-tag in
    let bad = sym (c.is_entry_right.ensures ∙ ap right c.value.ensures) ∙ c.if-not-is_entry_right.true in
    sym (faulty s l.p _ _ _ (sym c.next.ensures ∙ c.in-Member.is) c.if-tag-eq-ENTRY.true bad) ∙ l.invariant

pub returns : goal.returns
returns c = none_left c.args.s.now c.loop-tag.p _ (sym c.next.ensures) c.in_default.not-Member ∙ c.loop-tag.invariant
