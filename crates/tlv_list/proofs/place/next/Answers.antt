-- `place::next` meets its contract: past the end there is none, else the object at the first byte that is not '00'.
-- Assumes nothing.
use mathlib.Core.Path.{◌≡◌, sym, ap, ◌∙◌}
use mathlib.Core.List.{List}
use Prim.Native.Nat.{ℕ, ◌+◌, ◌≤◌, ◌<◌}
use lib.ListN.{length, drop}
use lib.Dec.{leb}
use borrow.Author.Tests.{le-leb, lt-leb}
use Rattle.slices.proofs.Choice.{pick_yes, pick_no}
use Rattle.tlv_list.specs.Place.{fillers, next_at}
use Rattle.tlv_head.specs.Member.{member_at}
use Rattle.tlv_head.specs.declared.Next.TheVariants.{End}
use Rattle.tlv_list.proofs.Reading.{next_end}
use Rattle.tlv_list.proofs.place.next.Goals as goal

module _ (s : List ℕ) (at p : ℕ) (e : p ≡ at + fillers (drop at s)) where
  ended : length s ≤ p → End ≡ next_at s at
  unfolding next_at
  ended h = sym (pick_yes _ _ _ (ap (leb (length s)) (sym e) ∙ le-leb (length s) p h))

  stands : p < length s → member_at s p ≡ next_at s at
  unfolding next_at
  stands h = ap (member_at s) e ∙ sym (pick_no _ _ _ (ap (leb (length s)) (sym e) ∙ lt-leb (length s) p h))

pub returns-then-s-at : goal.returns-then-s-at
returns-then-s-at c =
    let a = c.args in
    sym (next_end a.s.now a.at c.if-s-at.true)

pub returns-then-s-p : goal.returns-then-s-p
returns-then-s-p c =
    let a = c.args in
    ended a.s.now a.at c.past_fillers-p.result c.past_fillers-p.ensures.0 c.if-s-p.true

pub returns : goal.returns
returns c =
    let a = c.args in
    let p = c.past_fillers-p in
    c.member_at.ensures ∙ stands a.s.now a.at p.result p.ensures.0 c.if-s-p.false
