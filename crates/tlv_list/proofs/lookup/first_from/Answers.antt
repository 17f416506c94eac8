-- `lookup::first_from` meets its contract. The loop's invariant: the first with the tag from p on is the first from `at` on.
-- Assumes nothing.
use mathlib.Core.Path.{◌≡◌, refl, sym, ap, ◌∙◌}
use mathlib.Core.List.{List}
use Prim.Native.Nat.{ℕ}
use borrow.Author.Tests.{eq-eqb, ne_eqb}
use Rattle.slices.proofs.Choice.{pick_yes, pick_no}
use Rattle.tlv_list.specs.Place.{next_at, places_from, follow}
use Rattle.tlv_list.specs.Lookup.{first_among, first_from}
use Rattle.tlv_head.specs.declared.Next.{Next}
use Rattle.tlv_head.specs.declared.Next.TheVariants.{Member, End, Broken}
use Rattle.tlv_list.specs.declared.Found.TheVariants.{Absent, Once}
use Rattle.tlv_list.proofs.Reading.{next_ahead}
use Rattle.tlv_list.proofs.Walking.{places_next}
use native.Mathlib.Omega.{arith}
use Rattle.tlv_list.proofs.lookup.first_from.Goals as goal

module _ (s : List ℕ) (tag p : ℕ) where
  found : (n : Next) → next_at s p ≡ n → first_from s p tag ≡ first_among tag (follow (places_from s) n)
  unfolding first_from
  found n e = ap (first_among tag) (places_next s p ∙ ap (follow (places_from s)) e)

  none_left : (n : Next) → next_at s p ≡ n → ((t start end : ℕ) → n ≡ Member t start end → ⊥) → Absent ≡ first_from s p tag
  unfolding first_among follow
  none_left (Member t start end) e h = absurd (h t start end refl)
  none_left End e h = sym (found End e)
  none_left Broken e h = sym (found Broken e)

  module _ (t start end : ℕ) (e : next_at s p ≡ Member t start end) where
    here : t ≡ tag → first_from s p tag ≡ Once start end
    unfolding first_among follow
    here h = found (Member t start end) e ∙ pick_yes _ _ _ (eq-eqb _ _ h)

    further : (t ≡ tag → ⊥) → first_from s p tag ≡ first_from s end tag
    unfolding first_among follow first_from
    further h = found (Member t start end) e ∙ pick_no _ _ _ (ne_eqb _ _ h)

pub returns-then-t-tag : goal.returns-then-t-tag
returns-then-t-tag c =
    let e = sym c.next.ensures ∙ c.in-Member.is in
    sym (here c.args.s.now c.args.tag c.loop-t.p _ _ _ e c.if-t-tag.true) ∙ c.loop-t.invariant

pub loop-t-smaller : goal.loop-t-smaller
loop-t-smaller c =
    let ahead = next_ahead c.args.s.now c.loop-t.p _ _ _ (sym c.next.ensures ∙ c.in-Member.is) in
    omega arith

pub loop-t-preserved : goal.loop-t-preserved
loop-t-preserved c =
    let e = sym c.next.ensures ∙ c.in-Member.is in
    sym (further c.args.s.now c.args.tag c.loop-t.p _ _ _ e c.if-t-tag.false) ∙ c.loop-t.invariant

pub returns : goal.returns
returns c = none_left c.args.s.now c.args.tag c.loop-t.p _ (sym c.next.ensures) c.in_default.not-Member ∙ c.loop-t.invariant
