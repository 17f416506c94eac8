-- Damage of any kind never passes: bytes whose last step is not whole, or some step of which fails its check, are read as no entries, and
-- PASS is said of entries alone. So no torn store passes, in place or behind the last block, on whatever bytes it fell.
-- Assumes nothing.
use mathlib.Core.Path.{◌≡◌, sym, ap, ◌∙◌, subst}
use mathlib.Core.Bool.{true}
use mathlib.Core.List.{List, [], ◌∷◌, ◌++◌}
use Prim.Native.Nat.{ℕ, ◌+◌, ◌*◌, ◌%◌, ◌≤◌, ◌<◌}
use native.Mathlib.Omega.{arith}
use lib.ListN.{length, take, drop, length-append, length-drop}
use lib.Seq.{length-take-le, take_all, drop_at}
use Rattle.tape_read.specs.Entries.{Entry, block_size}
use Rattle.tape_read.specs.Blocks.{check_bad, code_of}
use Rattle.tape_read.specs.Tapes.{entries, block_at, session_of, read_tape}
use Rattle.tape_read.proofs.Codes.{code_check_lem}
use Rattle.verdict.specs.declared.Verdict.TheVariants.{Pass, Unreadable}
use Rattle.verdict.specs.declared.Ruling.{Ruling}
use Rattle.verdict_judged.specs.Judged.{Judged, readable, damaged}
use Rattle.recover_laws.specs.Damage.{torn, stored}
use Rattle.recover_laws.specs.Recovers.{NeverPasses}
use Rattle.recover_laws.proofs.Steps.{steps}
use Rattle.recover_laws.proofs.Listing.{is_readable}
use Rattle.recover_laws.proofs.Naming.{codes_pass}
use Rattle.recover_laws.proofs.Appending.{torn_last}

-- what passes reads as entries
passes_read : (u : List ℕ) (a : Ruling) → Judged u a → a.verdict ≡ Pass → (es : List Entry) × (read_tape u ≡ entries es)
passes_read u a (readable es r j) p = (es, r)
passes_read u a (damaged place code r e) p =
    let other : Unreadable ≡ Pass = sym (ap (λ (x : Ruling). x.verdict) e) ∙ p in
    let z : ◌≡◌ {A = ℕ} 0 1 = cc in absurd (omega arith)

-- a short tail, behind whatever stands before it
pub ragged_never : (u : List ℕ) → (length u % block_size ≡ 0 → ⊥) → NeverPasses u
ragged_never u short a j p = let r = passes_read u a j p in short (is_readable u r.0 r.1).whole

-- a step that fails its check, whatever the others hold
pub bad_step_never : (u : List ℕ) (k : ℕ) → k < steps u → check_bad (block_at k u) ≡ true → NeverPasses u
bad_step_never u k there bad a j p =
    let r = passes_read u a j p in
    let none : 0 + k ≡ k = omega arith in
    let good = codes_pass (session_of u) u k 0 r.0 (omega arith) (is_readable u r.0 r.1).reads in
    let right = subst (λ (i : ℕ). code_of i (session_of u) (block_at i u) ≡ 0) none good in
    let wrong = code_check_lem k (session_of u) (block_at k u) bad in
    omega arith

-- an append that was torn over older bytes, behind whole blocks
module _ (t : List ℕ) (whole : length t % block_size ≡ 0) (old b : List ℕ) (last : length old ≡ block_size) (full : length b ≡ block_size)
    (n : ℕ) (most : n ≤ block_size) where
  abbrev mixed : List ℕ
  mixed = take n b ++ drop n old

  mixed_length : length mixed ≡ block_size
  mixed_length = length-append (take n b) (drop n old) ∙ omega (arith, length-drop n old, length-take-le n b (omega arith))

  last_step : block_at (steps t) (t ++ mixed) ≡ mixed
  unfolding block_at
  last_step =
      ap (take block_size) (drop_at t mixed (steps t * block_size) (omega arith))
      ∙ take_all block_size mixed (let e = mixed_length in omega arith)

  pub torn_append_never : check_bad mixed ≡ true → NeverPasses (stored (torn n (record { step = steps t; bytes = b }) ∷ []) (t ++ old))
  torn_append_never bad =
      subst NeverPasses (sym (torn_last t whole old b last full n most))
      (bad_step_never (t ++ mixed) (steps t) (let e = mixed_length in omega (arith, length-append t mixed)) (ap check_bad last_step ∙ bad))
