-- `tvr_after_results` meets its contract: it joins the byte that the list sets.
-- Assumes nothing.
use mathlib.Core.Path.{sym, ap, ap₂, ◌∙◌}
use mathlib.Core.List.{List, [], ◌∷◌}
use Prim.Native.Nat.{ℕ}
use Rattle.cvm_rules.specs.declared.Circumstances.{Circumstances}
use Rattle.cvm.specs.Verified.{verified}
use Rattle.decide_tvr.specs.Bits.{joined}
use Rattle.decide_verification.specs.Verification.{tvr_after_results}
use Rattle.decide_verification.proofs.Listing.{list_whole}
use Rattle.decide_verification.proofs.tvr_after_results.Goals as goal

pub returns : goal.returns
unfolding tvr_after_results
returns c =
    let a = c.args in
    let bits =
    c.verify.ensures
    ∙ ap₂ (λ (l : List ℕ) (x : Circumstances). verified x l a.results.now)
    (c.value.ensures ∙ sym (list_whole a.told.now)) c.circumstances.ensures in
    c.join.ensures ∙ ap (λ (b : ℕ). joined a.tvr (0 ∷ 0 ∷ b ∷ 0 ∷ 0 ∷ [])) bits
