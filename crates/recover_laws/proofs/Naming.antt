-- The judge on an overwritten tape: the blocks before the first overwritten one pass as they did, and that one fails its check, which is
-- tested before all else. So the tape is unreadable there, with code 3.
-- Assumes nothing.
use mathlib.Core.Path.{◌≡◌, sym, ap, ap₂, ◌∙◌, subst}
use mathlib.Core.Bool.{Bool, true, false}
use mathlib.Core.List.{List}
use Prim.Native.Nat.{ℕ, zero, suc, ◌+◌, ◌*◌, ◌%◌, ◌≤◌, ◌<◌}
use native.Mathlib.Omega.{arith}
use lib.Dec.{ltb}
use lib.ListN.{drop, length-drop}
use borrow.Author.Tests.{ltb-true, ltb-false}
use Rattle.slices.proofs.Choice.{either}
use Rattle.tape_read.specs.Entries.{Entry, block_size}
use Rattle.tape_read.specs.Blocks.{session_in, check_bad, code_of, entry_in}
use Rattle.tape_read.specs.Tapes.{entries, unreadable, preceded, block_at, read_from, session_of, read_tape}
use Rattle.tape_read.proofs.Codes.{code_check_lem}
use Rattle.tape_read.proofs.Steps.{read_bad, read_good, rest_next, tape_blocks}
use Rattle.tape_read.proofs.OneReading.{first}
use Rattle.recover_laws.specs.Damage.{Overwritten, FirstHit}
use Rattle.recover_laws.proofs.Steps.{steps}
use Rattle.recover_laws.proofs.Listing.{Readable}

-- each block of bytes that read as entries passes
pub codes_pass : (s : ℕ) (t : List ℕ) (left n : ℕ) (es : List Entry) → n + left < steps t
    → read_from n s (drop (n * block_size) t) ≡ entries es
    → code_of (n + left) s (block_at (n + left) t) ≡ 0
unfolding block_at
codes_pass s t zero n es there r =
    let f = first n s (drop (n * block_size) t) es (omega (arith, length-drop (n * block_size) t)) r in
    let here : n ≡ n + 0 = omega arith in
    ap (λ (k : ℕ). code_of k s (block_at k t)) (sym here) ∙ f.good
codes_pass s t (suc left) n es there r =
    let f = first n s (drop (n * block_size) t) es (omega (arith, length-drop (n * block_size) t)) r in
    let place : n + suc left ≡ n + 1 + left = omega arith in
    ap (λ (k : ℕ). code_of k s (block_at k t)) place
    ∙ codes_pass s t left (n + 1) f.others (omega arith) (ap (read_from (n + 1) s) (sym (rest_next n t)) ∙ f.reads)

-- bytes whose step k fails its check, and those before it pass, are named there
named : (s : ℕ) (u : List ℕ) (left n : ℕ) → n + left < steps u → check_bad (block_at (n + left) u) ≡ true
    → ((j : ℕ) → j < n + left → code_of j s (block_at j u) ≡ 0) → read_from n s (drop (n * block_size) u) ≡ unreadable (n + left) 3
unfolding block_at preceded
named s u zero n there bad good =
    let here : n + 0 ≡ n = omega arith in
    let wrong : code_of n s (block_at n u) ≡ 3 = code_check_lem n s (block_at n u)
    (ap (λ (k : ℕ). check_bad (block_at k u)) (sym here) ∙ bad) in
    read_bad n s (drop (n * block_size) u) (omega (arith, length-drop (n * block_size) u)) (λ e. omega (arith, e, wrong))
    ∙ ap₂ unreadable (sym here) wrong
named s u (suc left) n there bad good =
    let place : n + suc left ≡ n + 1 + left = omega arith in
    let e = entry_in (block_at n u) in
    read_good n s (drop (n * block_size) u) (omega (arith, length-drop (n * block_size) u)) (good n (omega arith))
    ∙ (ap (λ (rest : List ℕ). preceded e (read_from (n + 1) s rest)) (rest_next n u)
    ∙ (ap (preceded e)
    (named s u left (n + 1) (omega arith) (ap (λ (k : ℕ). check_bad (block_at k u)) (sym place) ∙ bad) (λ j h. good j (omega arith)))
    ∙ ap (λ (k : ℕ). unreadable k 3) (sym place)))

module _ (hit : ℕ → Bool) (t u : List ℕ) (es : List Entry) (readable : Readable t es) (w : Overwritten hit t u) where
  module _ (k : ℕ) (first_hit : FirstHit hit k) (there : k < steps t) where
    before_pass : (j : ℕ) → j < k → code_of j (session_of u) (block_at j u) ≡ 0
    unfolding session_of
    before_pass j h =
        let none : 0 + j ≡ j = omega arith in
        ap₂ (code_of j) (ap session_in (w.kept 0 (first_hit.before 0 (omega arith)))) (w.kept j (first_hit.before j h))
        ∙ subst (λ (i : ℕ). code_of i (session_of t) (block_at i t) ≡ 0) none
        (codes_pass (session_of t) t j 0 es (omega arith) readable.reads)

    pub first_named : read_tape u ≡ unreadable k 3
    first_named =
        let none : 0 + k ≡ k = omega arith in
        let size = w.size in
        tape_blocks u (omega (arith, readable.fits)) (ap (λ (n : ℕ). n % block_size) size ∙ readable.whole)
        ∙ (named (session_of u) u k 0 (omega arith) (ap (λ (i : ℕ). check_bad (block_at i u)) none ∙ w.fails k there first_hit.here)
        (λ j h. before_pass j (omega arith))
        ∙ ap (λ (i : ℕ). unreadable i 3) none)

-- where some step is marked, one is the first
pub least : (hit : ℕ → Bool) (k : ℕ) → hit k ≡ true → (m : ℕ) × ((m ≤ k) × FirstHit hit m)
least hit k h = go k 0 (omega arith) (λ j below. absurd (omega arith))
  where
    go : (left n : ℕ) → n + left ≡ k → ((j : ℕ) → j < n → hit j ≡ false) → (m : ℕ) × ((m ≤ k) × FirstHit hit m)
    go zero n e before = (n, (omega arith, record { here = ap hit (omega arith) ∙ h; before = before }))
    go (suc left) n e before =
        either (hit n)
        (λ yes. (n, (omega arith, record { here = yes; before = before })))
        (λ no. go left (n + 1) (omega arith) (λ j below.
        either (ltb j n) (λ y. before j (ltb-true j n y)) (λ f. let same : j ≡ n = omega (arith, ltb-false j n f) in ap hit same ∙ no)))
