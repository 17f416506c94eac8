-- From the first block on, what is found is the finding of the tape: verdict, place and fourth number, where it reads as entries.
-- Assumes nothing.
use mathlib.Core.Path.{◌≡◌, refl, sym, ap, ◌∙◌, subst}
use mathlib.Core.Bool.{not}
use mathlib.Core.List.{List, [], ◌∷◌, map}
use Prim.Native.Nat.{ℕ, ◌+◌, ◌-◌, ◌/◌, ◌%◌, ◌^◌}
use native.Mathlib.Omega.{arith}
use lib.Dec.{eqb, ltb}
use lib.ListN.{length}
use borrow.Author.Tests.{eqb-false}
use Rattle.slices.proofs.Choice.{picked}
use Rattle.tape_read.specs.Entries.{Entry, block_size, tape_most}
use Rattle.tape_read.specs.Blocks.{code_of, entry_in}
use Rattle.tape_read.specs.Tapes.{Reading, entries, unreadable, preceded, cut, blocks_of, read_blocks, read_from, read_tape}
use Rattle.dol_fill.specs.Filled.{summed}
use Rattle.rulebook.specs.Phase.{opens}
use Rattle.rulebook_zeros.specs.Zeros.{unsupplied_in}
use Rattle.verdict_under.specs.Progress as Any
use Rattle.verdict_under.specs.Summing as Sums
use Rattle.verdict_under.proofs.Zeroing as Numbers
use Rattle.rulebook_zeros.specs.Summing.{zeros_of}
use Rattle.rulebook_zeros.proofs.Most.{zeros_most}
use Rattle.verdict_judged.specs.Judged.{Judged}
use Rattle.verdict_judged.specs.Zeroed.{Zeroed}
use Rattle.verdict_judged.specs.Progress.{begun, reads_all, concluded, finally}
use Rattle.verdict_judged.proofs.Meaning.{verdict_right, zeros_in, zeroed_right}
use Rattle.quick_said.specs.Said.{entries_from, zeros_after, said_from, found_from}

-- ---- what a tape reads as: the entries of its blocks, or a code that is not 0

unfoldable Held : List (List ℕ) → Reading → Type 0
Held bs (entries es) = es ≡ map entry_in bs
Held bs (unreadable place code) = code ≡ 0 → ⊥

held_behind : (b : List ℕ) (bs : List (List ℕ)) (r : Reading) → Held bs r → Held (b ∷ bs) (preceded (entry_in b) r)
unfolding Held preceded
held_behind b bs (entries es) h = ap (λ (x : List Entry). entry_in b ∷ x) h
held_behind b bs (unreadable place code) h = h

held_blocks : (n s : ℕ) (bs : List (List ℕ)) → Held bs (read_blocks n s bs)
unfolding read_blocks Held
held_blocks n s [] = refl
held_blocks n s (b ∷ bs) =
    picked (Held (b ∷ bs)) (eqb (code_of n s b) 0) _ _
    (λ y. held_behind b bs (read_blocks (n + 1) s bs) (held_blocks (n + 1) s bs))
    (λ f. eqb-false (code_of n s b) 0 f)

held_tape : (t : List ℕ) → Held (blocks_of t) (read_tape t)
unfolding read_tape read_from Held
held_tape t =
    picked (Held (blocks_of t)) (ltb tape_most (length t)) _ _ (λ y e. omega arith)
    (λ f. picked (Held (blocks_of t)) (not (eqb (length t % block_size) 0)) _ _ (λ y e. omega arith) (λ g. held_blocks 0 _ (blocks_of t)))

module _ (t : List ℕ) where
  pub code_there : (place code : ℕ) → read_tape t ≡ unreadable place code → code ≡ 0 → ⊥
  unfolding Held
  code_there place code h = subst (Held (blocks_of t)) h (held_tape t)

  module _ (es : List Entry) (h : read_tape t ≡ entries es) where
    entries_all : es ≡ entries_from 0 t
    unfolding Held entries_from blocks_of
    entries_all =
        let all : length t / block_size ≡ length t / block_size - 0 = omega arith in
        subst (Held (blocks_of t)) h (held_tape t) ∙ ap (λ (n : ℕ). map entry_in (cut n t)) all

    -- the finding of the tape
    pub found_right : Judged t (found_from opens 0 0 t).ruling × Zeroed t (found_from opens 0 0 t).zeros
    unfolding found_from said_from zeros_after Sums.new_in unsupplied_in summed Any.finally Any.verdict_of Numbers.zeros_in
    found_right =
        let most = zeros_most es in
        let counted : (0 + (0 + zeros_of es)) % 2 ^ 64 ≡ zeros_of es = omega arith in (
          verdict_right t _ (ap (λ (x : List Entry). concluded (reads_all begun x)) (sym entries_all) ∙ sym (ap (finally begun) h)),
          zeroed_right t _
              (ap (λ (x : List Entry). (0 + (0 + zeros_of x)) % 2 ^ 64) (sym entries_all) ∙ (counted ∙ sym (ap zeros_in h))),
        )
