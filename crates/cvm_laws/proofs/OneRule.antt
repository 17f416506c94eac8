-- What one rule does to the rest of a list: passed over, it changes nothing; success ends the list, and so does a failure that
-- lets no other rule follow, with 'not successful'; after any other failure the next rule goes on. A list without rules is not
-- successful.
-- Assumes nothing.
use mathlib.Core.Path.{◌≡◌, ap, ap₂, ◌∙◌}
use mathlib.Core.Bool.{Bool, true, false}
use mathlib.Core.List.{List, [], ◌∷◌}
use Prim.Native.Nat.{ℕ, ◌<◌}
use native.Mathlib.Omega.{arith}
use lib.Dec.{eqb}
use lib.Bits.{bit_or, or_zero_r}
use lib.ListN.{drop, get_or, length-drop}
use borrow.Author.Tests.{ne_eqb}
use Rattle.slices.specs.Tables.{beside}
use Rattle.slices.proofs.Choice.{pick_yes, pick_no}
use Rattle.cvm_rules.specs.Bits.{not_successful}
use Rattle.cvm_rules.specs.Methods.{method_of, goes_on, succeeds, tried_bits}
use Rattle.cvm_rules.specs.Conditions.{satisfied}
use Rattle.cvm_rules.specs.Turns.{turn, passed_over, tried, tried_turn, turn_of}
use Rattle.cvm_rules.specs.declared.Circumstances.{Circumstances}
use Rattle.cvm_rules.specs.declared.Turn.{Turn}
use Rattle.cvm.specs.Lists.{limit_x, limit_y, rules_of, rules_in}
use Rattle.cvm.specs.Verified.{following, verified_from, verified}
use Rattle.cvm.proofs.Through.{exhausted}
use Rattle.cvm_laws.specs.Tries.{tries_from}

-- a code above 09 is never satisfied, and so no rule with it is tried
pub unknown_code : (c : Circumstances) (x y first code : ℕ) → 9 < code → tried c x y first code ≡ false
unfolding tried satisfied beside
unknown_code c x y first code h =
    pick_no _ _ _ (other 0 (omega arith))
    ∙ (pick_no _ _ _ (other 1 (omega arith))
    ∙ (pick_no _ _ _ (other 2 (omega arith))
    ∙ (pick_no _ _ _ (other 3 (omega arith))
    ∙ (pick_no _ _ _ (other 4 (omega arith))
    ∙ (pick_no _ _ _ (other 5 (omega arith))
    ∙ (pick_no _ _ _ (other 6 (omega arith))
    ∙ (pick_no _ _ _ (other 7 (omega arith))
    ∙ (pick_no _ _ _ (other 8 (omega arith))
    ∙ pick_no _ _ _ (other 9 (omega arith))))))))))
  where
    other : (k : ℕ) → k < code → eqb code k ≡ false
    other k l = ne_eqb code k (λ e. omega arith)

module _ (c : Circumstances) (x y first code result : ℕ) where
  -- the three turns of a rule that is tried, and the turn of one that is not
  pub over : tried c x y first code ≡ false → turn_of c x y first code result ≡ passed_over
  unfolding turn_of
  over e = pick_no _ _ _ e

  module _ (e : tried c x y first code ≡ true) where
    pub success : succeeds (method_of first) c.means result ≡ true
        → turn_of c x y first code result ≡ turn (tried_bits (method_of first) c.means result) true
    unfolding turn_of tried_turn
    success s = pick_yes _ _ _ e ∙ pick_yes _ _ _ s

    module _ (s : succeeds (method_of first) c.means result ≡ false) where
      pub failure : goes_on first ≡ false
          → turn_of c x y first code result ≡ turn (bit_or (tried_bits (method_of first) c.means result) not_successful) true
      unfolding turn_of tried_turn
      failure g = pick_yes _ _ _ e ∙ (pick_no _ _ _ s ∙ pick_no _ _ _ g)

      pub failure_goes_on : goes_on first ≡ true
          → turn_of c x y first code result ≡ turn (tried_bits (method_of first) c.means result) false
      unfolding turn_of tried_turn
      failure_goes_on g = pick_yes _ _ _ e ∙ (pick_no _ _ _ s ∙ pick_yes _ _ _ g)

-- and with the rest of the list
module _ (c : Circumstances) (x y bits first code : ℕ) (rules results : List ℕ) where
  -- this rule's turn, and what the list from it on comes to
  abbrev turn_here : Turn
  turn_here = turn_of c x y first code (get_or results 0 0)

  abbrev whole : ℕ
  whole = verified_from c x y bits (first ∷ code ∷ rules) results

  ended : (b : ℕ) → turn_here ≡ turn b true → whole ≡ bit_or bits b
  unfolding verified_from following
  ended b e = pick_yes _ _ _ (ap (λ (t : Turn). t.ends) e) ∙ ap (λ (t : Turn). bit_or bits t.bits) e

  followed : (b : ℕ) → turn_here ≡ turn b false → whole ≡ verified_from c x y (bit_or bits b) rules (drop 1 results)
  unfolding verified_from following
  followed b e =
      pick_no _ _ _ (ap (λ (t : Turn). t.ends) e)
      ∙ ap (λ (t : Turn). verified_from c x y (bit_or bits t.bits) rules (drop 1 results)) e

  pub passed_over_lem : tried c x y first code ≡ false → whole ≡ verified_from c x y bits rules (drop 1 results)
  passed_over_lem e =
      followed 0 (over c x y first code (get_or results 0 0) e)
      ∙ ap (λ (b : ℕ). verified_from c x y b rules (drop 1 results)) (or_zero_r bits)

  -- the tries up to here end with this rule
  abbrev Last : Type 0
  Last = tries_from c x y (first ∷ code ∷ rules) results ≡ true ∷ []

  module _ (e : tried c x y first code ≡ true) where
    last : (b : ℕ) → turn_here ≡ turn b true → Last
    unfolding tries_from
    last b t = ap₂ (λ (h : Bool) (l : List Bool). h ∷ l) e (pick_yes _ _ _ (ap (λ (u : Turn). u.ends) t))

    pub success_ends : succeeds (method_of first) c.means (get_or results 0 0) ≡ true
        → (whole ≡ bit_or bits (tried_bits (method_of first) c.means (get_or results 0 0))) × Last
    success_ends s = let t = success c x y first code (get_or results 0 0) e s in (ended _ t, last _ t)

    module _ (s : succeeds (method_of first) c.means (get_or results 0 0) ≡ false) where
      pub failure_ends : goes_on first ≡ false
          → (whole ≡ bit_or bits (bit_or (tried_bits (method_of first) c.means (get_or results 0 0)) not_successful)) × Last
      failure_ends g = let t = failure c x y first code (get_or results 0 0) e s g in (ended _ t, last _ t)

      pub failure_followed : goes_on first ≡ true
          → whole ≡ verified_from c x y (bit_or bits (tried_bits (method_of first) c.means (get_or results 0 0))) rules (drop 1 results)
      failure_followed g = followed _ (failure_goes_on c x y first code (get_or results 0 0) e s g)

pub no_rules : (c : Circumstances) (list results : List ℕ) → rules_in list ≡ 0 → verified c list results ≡ not_successful
unfolding verified rules_in rules_of
no_rules c list results e = exhausted c (limit_x list) (limit_y list) 0 (drop 8 list) results (simp length-drop (omega arith))
