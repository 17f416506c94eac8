-- What is said of a tape, one block at a time: a good block says nothing, and the first bad one decides. Assumes nothing.
use mathlib.Core.Path.{◌≡◌, refl, sym, ap, ◌∙◌}
use mathlib.Core.List.{List}
use Prim.Native.Nat.{ℕ, ◌+◌, ◌*◌, ◌/◌, ◌-◌, ◌≤◌, ◌<◌}
use native.Mathlib.Omega.{arith}
use lib.ListN.{length, take, drop, length-drop}
use lib.Seq.{length-take-le}
use Rattle.tape_read.specs.Entries.{Entry, block_size}
use Rattle.tape_read.specs.Blocks.{code_of}
use Rattle.tape_read.specs.Tapes.{Reading, entries, unreadable, preceded, read_from}
use Rattle.tape_read.proofs.Steps.{read_end, read_bad, read_good, rest_next}
use Rattle.tape_feed.specs.Feeding.{damaged}
use Rattle.quick_check.specs.Damages.{damage_said}

said_behind : (e : Entry) (r : Reading) → damage_said (preceded e r) ≡ damage_said r
unfolding damage_said preceded
said_behind e (entries es) = refl
said_behind e (unreadable place code) = refl

module _ (n s : ℕ) (rest : List ℕ) where
  pub said_end : length rest < block_size → damage_said (read_from n s rest) ≡ damaged 0 0
  unfolding damage_said
  said_end short = ap damage_said (read_end n s rest short)

  module _ (more : block_size ≤ length rest) where
    pub said_bad : (code_of n s (take block_size rest) ≡ 0 → ⊥)
        → damage_said (read_from n s rest) ≡ damaged n (code_of n s (take block_size rest))
    unfolding damage_said
    said_bad bad = ap damage_said (read_bad n s rest more bad)

    pub said_good : code_of n s (take block_size rest) ≡ 0
        → damage_said (read_from n s rest) ≡ damage_said (read_from (n + 1) s (drop block_size rest))
    said_good good = ap damage_said (read_good n s rest more good) ∙ said_behind _ _

-- ---- the same of a tape whose next block is lent

module _ (k s : ℕ) (tape : List ℕ) where
  abbrev rest : List ℕ
  rest = drop (k * block_size) tape

  abbrev lent : List ℕ
  lent = take ((k + 1) * block_size - k * block_size) rest

  next_block : lent ≡ take block_size rest
  next_block = ap (λ (n : ℕ). take n rest) one
    where
      one : (k + 1) * block_size - k * block_size ≡ block_size
      one = omega arith

  pub tape_end : length tape / block_size ≤ k → damage_said (read_from k s rest) ≡ damaged 0 0
  tape_end over = said_end k s rest (omega (arith, length-drop (k * block_size) tape))

  module _ (more : k < length tape / block_size) where
    there : block_size ≤ length rest
    there = omega (arith, length-drop (k * block_size) tape)

    pub lent_size : length lent ≡ block_size
    lent_size = ap length next_block ∙ length-take-le block_size rest there

    pub tape_bad : (code_of k s lent ≡ 0 → ⊥) → damage_said (read_from k s rest) ≡ damaged k (code_of k s lent)
    tape_bad bad =
        said_bad k s rest there (λ e. bad (ap (code_of k s) next_block ∙ e))
        ∙ ap (λ (b : List ℕ). damaged k (code_of k s b)) (sym next_block)

    pub tape_good : code_of k s lent ≡ 0
        → damage_said (read_from (k + 1) s (drop ((k + 1) * block_size) tape)) ≡ damage_said (read_from k s rest)
    tape_good good =
        ap (λ (t : List ℕ). damage_said (read_from (k + 1) s t)) (sym (rest_next k tape))
        ∙ sym (said_good k s rest there (sym (ap (code_of k s) next_block) ∙ good))

-- what the goals of `first_bad` stand on
pub ruleset each_block = (tape_end, lent_size, tape_bad, tape_good)
