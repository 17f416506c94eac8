-- `dol_wanted::is_entry` meets its contract: each test of the definition in turn.
-- Assumes nothing.
use mathlib.Core.Path.{◌≡◌, sym, ap, ◌∙◌}
use mathlib.Core.Bool.{Bool, true, false}
use mathlib.Core.List.{List}
use Prim.Native.Nat.{ℕ, ◌+◌}
use lib.ListN.{length}
use lib.Dec.{leb}
use Rattle.tlv_head.specs.Head.{tag_right, tag_size}
use Rattle.dol_wanted.specs.Wanted.{asks}
use Rattle.dol_wanted.proofs.is_entry.Goals as goal

module _ (s : List ℕ) where
  tag : tag_right s ≡ true → leb (tag_size s + 1) (length s) ≡ asks s
  unfolding asks
  tag r = rw r

  bad_tag : (r : Bool) → r ≡ tag_right s → r ≡ false → r ≡ asks s
  unfolding asks
  bad_tag r e f = rw (sym e ∙ f) f

pub returns-then-is_tag_right : goal.returns-then-is_tag_right
returns-then-is_tag_right c =
    let s = c.args.s.now in
    ap (λ (n : ℕ). leb (n + 1) (length s)) c.tag_size.ensures.0
    ∙ tag s (sym c.is_tag_right.ensures ∙ c.if-is_tag_right.true)

pub returns-else-is_tag_right : goal.returns-else-is_tag_right
returns-else-is_tag_right c = bad_tag c.args.s.now _ c.is_tag_right.ensures c.if-is_tag_right.false
