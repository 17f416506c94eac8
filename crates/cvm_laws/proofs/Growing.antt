-- No bit is cleared on the way through a list: what stands after some rules stands after more of them, and at the end. Each rule
-- joins its bits to those so far, and what is joined stays.
-- Assumes nothing.
use mathlib.Core.Path.{◌≡◌, refl, ap}
use mathlib.Core.Bool.{Bool, true, false}
use mathlib.Core.List.{List, [], ◌∷◌}
use Prim.Native.Nat.{ℕ, zero, suc, ◌+◌, ◌≤◌, ◌<◌}
use native.Mathlib.Nat.{not-suc-le-zero}
use native.Mathlib.Omega.{arith}
use lib.Bits.{bit_or, or_self}
use lib.ListN.{length, drop, get_or}
use Rattle.slices.specs.Choice.{pick}
use Rattle.slices.proofs.Choice.{picked, pick_cong}
use Rattle.cvm_rules.specs.Bits.{not_successful}
use Rattle.cvm_rules.specs.Turns.{turn_of}
use Rattle.cvm_rules.specs.declared.Circumstances.{Circumstances}
use Rattle.cvm.specs.Verified.{following, verified_from}
use Rattle.decide_tvr.specs.Bits.{joined}
use Rattle.decide_tvr.proofs.Rows.{kept, kept_on}
use Rattle.cvm_laws.specs.Tries.{Keeps, bits_after}

-- a row of one byte, and its byte
abbrev one : ℕ → List ℕ
one a = a ∷ []

abbrev only_of : List ℕ → ℕ
only_of s = get_or s 0 0

pub joined_kept : (a b : ℕ) → Keeps a (bit_or a b)
unfolding joined
joined_kept a b = ap only_of (kept (one a) (one b))

pub kept_through : (a b d : ℕ) → Keeps a b → Keeps b d → Keeps a d
unfolding joined
kept_through a b d p q = ap only_of (kept_on (one a) (one b) (one d) (ap one p) (ap one q))

both_kept : (t : Bool) (more a b : ℕ) → Keeps a b → Keeps (pick t more a) (pick t more b)
unfolding pick
both_kept true more a b k = or_self more
both_kept false more a b k = k

module _ (c : Circumstances) (x y : ℕ) where
  begun_kept : (n bits : ℕ) (rules results : List ℕ) → Keeps bits (bits_after c x y n bits rules results)
  unfolding bits_after following
  begun_kept zero bits rules results = or_self bits
  begun_kept (suc n) bits [] results = joined_kept bits not_successful
  begun_kept (suc n) bits (b ∷ []) results = joined_kept bits not_successful
  begun_kept (suc n) bits (first ∷ code ∷ rules) results =
      let t = turn_of c x y first code (get_or results 0 0) in
      let more = bit_or bits t.bits in
      picked (Keeps bits) t.ends _ _
      (λ _. joined_kept bits t.bits)
      (λ _. kept_through bits more _ (joined_kept bits t.bits) (begun_kept n more rules (drop 1 results)))

  -- after more rules no bit is missing
  pub bits_kept : (n m bits : ℕ) (rules results : List ℕ) → n ≤ m
      → Keeps (bits_after c x y n bits rules results) (bits_after c x y m bits rules results)
  unfolding bits_after following
  bits_kept zero m bits rules results h = begun_kept m bits rules results
  bits_kept (suc n) zero bits rules results h = absurd (not-suc-le-zero h)
  bits_kept (suc n) (suc m) bits [] results h = or_self _
  bits_kept (suc n) (suc m) bits (b ∷ []) results h = or_self _
  bits_kept (suc n) (suc m) bits (first ∷ code ∷ rules) results h =
      let t = turn_of c x y first code (get_or results 0 0) in
      let more = bit_or bits t.bits in
      both_kept t.ends more _ _ (bits_kept n m more rules (drop 1 results) (omega arith))

  -- after one turn for each byte that is left, and one more, the list has ended
  pub all_through : (n bits : ℕ) (rules results : List ℕ) → length rules < n
      → bits_after c x y n bits rules results ≡ verified_from c x y bits rules results
  unfolding bits_after verified_from following
  all_through zero bits rules results h = absurd (not-suc-le-zero h)
  all_through (suc n) bits [] results h = refl
  all_through (suc n) bits (b ∷ []) results h = refl
  all_through (suc n) bits (first ∷ code ∷ rules) results h =
      let t = turn_of c x y first code (get_or results 0 0) in
      pick_cong t.ends _ _ _ _ (λ _. refl) (λ _. all_through n (bit_or bits t.bits) rules (drop 1 results) (omega arith))

  -- and at the end none is
  pub end_kept : (n bits : ℕ) (rules results : List ℕ)
      → Keeps (bits_after c x y n bits rules results) (verified_from c x y bits rules results)
  end_kept n bits rules results =
      let m = suc (n + length rules) in
      rw (← all_through m bits rules results (omega arith)) (bits_kept n m bits rules results (omega arith))
