-- What stands at a block, test by test.
-- Assumes nothing.
use mathlib.Core.Path.{◌≡◌, refl, sym, ap, ◌∙◌}
use mathlib.Core.Bool.{Bool, true, false, false≢true}
use mathlib.Core.List.{List}
use Rattle.std.proofs.Common.{Ok, Err}
use Prim.Native.Nat.{ℕ, ◌+◌, ◌/◌, ◌≤◌}
use native.Mathlib.Omega.{arith}
use lib.Dec.{eqb}
use lib.ListN.{length}
use borrow.Author.Tests.{leb-false}
use Rattle.slices.specs.Tests.{alike}
use Rattle.slices.proofs.Choice.{picked}
use Rattle.numbers.specs.Tables.{command, answer, silence}
use Rattle.tape_read.specs.Entries.{block_size}
use Rattle.verdict.specs.Saying.{finds}
use Rattle.verdict.specs.declared.Ruling.{Ruling}
use Rattle.verdict.specs.declared.Finding.{Finding}
use Rattle.quick_meet.specs.Meeting.{Met, is_end, ends, breaks, goes_on, kind_at, payload_at}
use Rattle.quick_meet.specs.Meeting.{word_met, closed_met, silence_met, answer_met, exchange_met}

-- whether what is due stands there
abbrev pub there : Met → Bool
there (Ok x) = true
there (Err said) = false

-- what is found of it, where it goes on and where it does not
pub goes_on_lem : (m : Met) (z : ℕ) (rest : Finding) → there m ≡ true → goes_on m z rest ≡ rest
unfolding goes_on
goes_on_lem (Ok x) z rest h = refl
goes_on_lem (Err said) z rest h = absurd (false≢true h)

pub stops : (m : Met) (z : ℕ) (rest : Finding) (said : Ruling) → m ≡ Err said → goes_on m z rest ≡ finds said z
unfolding goes_on
stops m z rest said e = ap (λ (x : Met). goes_on x z rest) e

-- what was met goes on, or is said, as the definition has it
module _ (m due : Met) (e : m ≡ due) (zeros : ℕ) (rest : Finding) where
  pub as_going : there m ≡ true → rest ≡ goes_on due zeros rest
  as_going h = sym (goes_on_lem m zeros rest h) ∙ ap (λ (x : Met). goes_on x zeros rest) e

  pub as_stopped : (said : Ruling) → m ≡ Err said → finds said zeros ≡ goes_on due zeros rest
  as_stopped said f = sym (stops m zeros rest said f) ∙ ap (λ (x : Met). goes_on x zeros rest) e

-- what is there is inside the tape
module _ (t : List ℕ) (k : ℕ) where
  abbrev Inside : ℕ → Met → Type 0
  Inside n m = there m ≡ true → n ≤ length t / block_size

  inside_not : (n : ℕ) → is_end t k ≡ false → (k + 1 ≡ n) → n ≤ length t / block_size
  unfolding is_end
  inside_not n f e = omega (arith, leb-false (length t / block_size) k f)

  pub word_inside : (kind : ℕ) → Inside (k + 1) (word_met kind k t)
  unfolding word_met ends breaks
  word_inside kind =
      picked (Inside (k + 1)) (is_end t k) _ _ (λ y h. absurd (false≢true h))
      (λ f. picked (Inside (k + 1)) (eqb (kind_at k t) kind) _ _ (λ y h. inside_not (k + 1) f refl) (λ n h. absurd (false≢true h)))

module _ (t : List ℕ) (k : ℕ) where
  abbrev Within : Met → Type 0
  Within m = there m ≡ true → k + 1 ≤ length t / block_size

  never : (m : Met) → there m ≡ false → Within m
  never m f h = absurd (false≢true (sym f ∙ h))

  silence_within : Within (silence_met k t)
  unfolding silence_met closed_met ends breaks
  silence_within =
      picked Within (eqb (kind_at k t) silence) _ _
      (λ y.
      picked Within (eqb (length (payload_at k t)) 0) _ _
      (λ v. picked Within (is_end t (k + 1)) _ _ (λ e. never (ends (k + 1)) refl) (λ n. never (breaks (k + 1)) refl))
      (λ n. never (breaks k) refl))
      (λ n. never (breaks k) refl)

  pub answer_inside : Within (answer_met k t)
  unfolding answer_met ends breaks is_end
  answer_inside =
      picked Within (is_end t k) _ _ (λ y. never (ends k) refl)
      (λ f. picked Within (eqb (kind_at k t) answer) _ _ (λ y h. omega (arith, leb-false (length t / block_size) k f))
      (λ n. silence_within))

-- a command that was answered
pub exchange_inside : (t : List ℕ) (k : ℕ) (c : List ℕ) → there (exchange_met c k t) ≡ true → k + 2 ≤ length t / block_size
unfolding exchange_met ends breaks
exchange_inside t k c =
    let within : Met → Type 0 = λ m. there m ≡ true → k + 2 ≤ length t / block_size in
    picked within (is_end t k) _ _ (λ y h. absurd (false≢true h))
    (λ f.
    picked within (eqb (kind_at k t) command) _ _
    (λ y.
    picked within (alike (payload_at k t) c) _ _ (λ v h. omega (arith, answer_inside t (k + 1) h)) (λ n h. absurd (false≢true h)))
    (λ n h. absurd (false≢true h)))
