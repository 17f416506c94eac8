-- `list::are_results` meets its contract: the number of bytes, and then a test of every byte.
-- Assumes nothing.
use Rattle.std.proofs.Common.{rules}
use Rattle.std.proofs.lemmas.Iterator.{YieldsList-from_slice}
use Rattle.std.proofs.lemmas.Iterator.Search.{all_from_yields_List}
use Rattle.std.specs.List.{list_all}
use mathlib.Core.Bool.{Bool, true, false, ◌&&◌}
use mathlib.Core.List.{List, [], ◌∷◌, map}
use mathlib.Core.Path.{◌≡◌, refl, sym, ap, ◌∙◌}
use Prim.Native.Nat.{ℕ}
use borrow.Author.Tests.{tests, eq-eqb, ne_eqb}
use Rattle.slices.specs.Choice.{pick}
use Rattle.slices.specs.Tests.{every}
use Rattle.slices.proofs.Tests.{held, failed}
use Rattle.cvm.specs.Lists.{is_result, are_results}
use Rattle.cvm.proofs.list.are_results.Goals as goal

-- a test of every element, as the library has it
all_every : (p : ℕ → Bool) (s : List ℕ) → list_all p s ≡ every (map p s)
unfolding every pick
all_every p [] = refl
all_every p (b ∷ s) = one (p b) ∙ ap (λ (t : Bool). pick (p b) t false) (all_every p s)
  where
    one : (t : Bool) → (t && list_all p s) ≡ pick t (list_all p s) false
    one true = refl
    one false = refl

pub returns-then-payload-count : goal.returns-then-payload-count
unfolding are_results is_result
returns-then-payload-count c =
    let s = c.args.payload.now in
    all_from_yields_List is_result _ _ _ c.all.ensures.ran (YieldsList-from_slice s cc) (λ x b q k. search (rules, tests))
    ∙ all_every is_result s
    ∙ sym (held refl _ (eq-eqb _ _ c.if-payload-count.true))

pub returns-else-payload-count : goal.returns-else-payload-count
unfolding are_results
returns-else-payload-count c = let e = ne_eqb _ _ c.if-payload-count.false in sym (failed refl _ e)
