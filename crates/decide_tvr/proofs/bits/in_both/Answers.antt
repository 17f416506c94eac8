-- `decide_tvr::bits::in_both` meets its contract: a bit is shared where some pair of bytes shares one.
-- Assumes nothing.
use Rattle.std.proofs.Common.{rules}
use Rattle.std.proofs.lemmas.Iterator.{YieldsList-from_slice, YieldsList-from_zip}
use Rattle.std.proofs.lemmas.Iterator.Search.{any_from_yields_List}
use Rattle.std.specs.List.{list_any, zip}
use mathlib.Core.Bool.{Bool, true, false, not, ◌||◌}
use mathlib.Core.List.{List, [], ◌∷◌}
use mathlib.Core.Path.{◌≡◌, refl, ap, ◌∙◌}
use Prim.Native.Nat.{ℕ}
use lib.Bits.{bit_and}
use lib.Dec.{eqb}
use borrow.Author.Tests.{tests}
use Rattle.slices.specs.Choice.{pick}
use Rattle.decide_tvr.specs.Bits.{meet}
use Rattle.decide_tvr.proofs.bits.in_both.Goals as goal

-- two bytes that have a bit in common
abbrev shares : ℕ × ℕ → Bool
shares p = not (eqb (bit_and p.0 p.1) 0)

any_meet : (a b : List ℕ) → list_any shares (zip a b) ≡ meet a b
unfolding meet pick
any_meet [] b = refl
any_meet (x ∷ a) [] = refl
any_meet (x ∷ a) (y ∷ b) = one (eqb (bit_and x y) 0) ∙ ap (λ (t : Bool). pick (eqb (bit_and x y) 0) t true) (any_meet a b)
  where
    one : (t : Bool) → (not t || list_any shares (zip a b)) ≡ pick t (list_any shares (zip a b)) true
    one true = refl
    one false = refl

pub returns : goal.returns
returns c =
    let a = c.args.a.now in
    let b = c.args.b.now in
    any_from_yields_List shares c.any.new.self _ _ c.any.ensures.ran (YieldsList-from_zip (YieldsList-from_slice a cc) (YieldsList-from_slice b cc))
    (λ x t q k. search (rules, tests))
    ∙ any_meet a b
