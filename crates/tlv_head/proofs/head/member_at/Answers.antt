-- `head::member_at` meets its contract: where a tag stands, what `sized` finds.
-- Assumes nothing.
use mathlib.Core.Path.{◌≡◌, ◌∙◌, sym, ap}
use mathlib.Core.List.{List, []}
use Prim.Native.Nat.{ℕ, ◌<◌}
use native.Mathlib.Nat.{le_of_lt}
use native.Mathlib.Omega.{arith}
use lib.ListN.{length, drop_of_length-le}
use Rattle.slices.proofs.Cutting.{rest_part}
use Rattle.tlv_head.specs.Head.{tag_of, tag_right, tag_size}
use Rattle.tlv_head.specs.Member.{member_at}
use Rattle.tlv_head.specs.declared.Next.TheVariants.{Broken}
use Rattle.tlv_head.proofs.Parts.{zero_no_tag}
use Rattle.tlv_head.proofs.Sized.{no_tag}
use Rattle.tlv_head.proofs.head.member_at.Goals as goal

nothing_there : (s : List ℕ) (p : ℕ) → length s < p → Broken ≡ member_at s p
nothing_there s p h = no_tag s p (ap tag_right (drop_of_length-le s (le_of_lt h)) ∙ zero_no_tag [] cc)

pub returns-then-s-p : goal.returns-then-s-p
returns-then-s-p c = nothing_there c.args.s.now c.args.p c.if-s-p.true

pub sized-requires : goal.sized-requires
sized-requires c =
    let a = c.args in
    let t = rest_part a.s.now a.p in (
      omega arith,
      c.tag_size.ensures.1,
      ap tag_right (sym t) ∙ sym c.is_tag_right.ensures ∙ c.if-is_tag_right.true,
      c.tag_of.ensures.0 ∙ ap tag_of t,
      c.tag_size.ensures.0 ∙ ap tag_size t,
    )

pub returns-else-is_tag_right : goal.returns-else-is_tag_right
returns-else-is_tag_right c =
    let a = c.args in
    no_tag a.s.now a.p
    (ap tag_right (sym (rest_part a.s.now a.p)) ∙ sym c.is_tag_right.ensures ∙ c.if-is_tag_right.false)
