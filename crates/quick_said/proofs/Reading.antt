-- What is found, one entry at a time: what an entry makes of the progress is what is found of the rest, and nothing behind a break or a
-- closing silence changes what is found.
-- Assumes nothing.
use mathlib.Core.Path.{◌≡◌, refl, ap, ◌∙◌}
use mathlib.Core.List.{List, [], ◌∷◌}
use mathlib.Core.Option.{Option, none, some}
use Prim.Native.Nat.{ℕ, ◌+◌, ◌^◌, ◌<◌}
use native.Mathlib.Nat.{add-zero}
use native.Mathlib.Omega.{arith}
use Rattle.slices.proofs.Choice.{picked}
use Rattle.tape_read.specs.Entries.{Entry}
use Rattle.dol_fill.specs.Filled.{summed}
use Rattle.sessions.specs.Machine.{next}
use Rattle.rulebook.specs.Phase.{Asked, Phase}
use Rattle.rulebook.specs.Machine.{Machine, at, owes, done}
use Rattle.rulebook.specs.Session.{rules}
use Rattle.rulebook_zeros.specs.Zeros.{unsupplied_in}
use Rattle.verdict_under.specs.Progress as Any
use Rattle.verdict_under.specs.Summing as Sums
use Rattle.rulebook_zeros.specs.Summing.{new_in, count_on, zeros_from}
use Rattle.verdict.specs.Saying.{says, finds}
use Rattle.verdict.specs.declared.Verdict.TheVariants.{Pass, Fail, Inconclusive}
use Rattle.verdict_judged.specs.Progress.{Progress, reached, closed, broken, closes, onward, reads, reads_all, concluded}
use Rattle.quick_said.specs.Said.{zeros_after, said_from}

-- ---- sums

pub sum_more : (z a b : ℕ) → summed z (a + b) ≡ summed (summed z a) b
unfolding summed
sum_more z a b = omega arith

pub sum_none : (z : ℕ) → z < 2 ^ 64 → summed z 0 ≡ z
unfolding summed
sum_none z h = omega arith

pub sum_small : (z a : ℕ) → summed z a < 2 ^ 64
unfolding summed
sum_small z a = omega arith

-- ---- one entry

module _ (σ : Machine) (n z : ℕ) (e : Entry) (es : List Entry) where
  adds : (o : Option Machine) → count_on (zeros_from es) o ≡ zeros_after (onward σ n e o) es
  unfolding Sums.count_on zeros_after onward
  adds (some τ) = refl
  adds none = picked (λ (m : Progress). 0 ≡ zeros_after m es) (closes σ e) _ _ (λ y. refl) (λ f. refl)

  pub said_one : said_from (reached σ n) z (e ∷ es) ≡ said_from (reads (reached σ n) e) (summed z (new_in σ)) es
  unfolding said_from Any.reads_all zeros_after Sums.zeros_from Any.reads
  said_one =
      let on = onward σ n e (next rules σ e) in
      ap (λ (x : ℕ). finds (concluded (reads_all on es)) x)
      (sum_more z (new_in σ) (count_on (zeros_from es) (next rules σ e)) ∙ ap (summed (summed z (new_in σ))) (adds (next rules σ e)))

-- ---- the ends

module _ (n z : ℕ) where
  pub phase_end : (p : Phase) → said_from (reached (at p) n) z [] ≡ finds (says Inconclusive n 0) (summed z (unsupplied_in p))
  unfolding said_from Any.reads_all zeros_after Sums.zeros_from concluded Sums.new_in
  phase_end p = ap (λ (x : ℕ). finds (says Inconclusive n 0) (summed z x)) (add-zero (unsupplied_in p))

  pub owes_end : (w : Asked) → said_from (reached (owes w) n) z [] ≡ finds (says Inconclusive n 0) (summed z 0)
  unfolding said_from Any.reads_all zeros_after Sums.zeros_from concluded Sums.new_in
  owes_end w = refl

  pub done_end : said_from (reached done n) z [] ≡ finds (says Pass n 0) (summed z 0)
  unfolding said_from Any.reads_all zeros_after Sums.zeros_from concluded Sums.new_in
  done_end = refl

  pub closed_end : said_from (closed n) z [] ≡ finds (says Inconclusive n 0) (summed z 0)
  unfolding said_from Any.reads_all zeros_after concluded
  closed_end = refl

  broken_all : (es : List Entry) → reads_all (broken n) es ≡ broken n
  unfolding Any.reads_all Any.reads
  broken_all [] = refl
  broken_all (e ∷ es) = broken_all es

  pub broken_on : (es : List Entry) → said_from (broken n) z es ≡ finds (says Fail n 0) (summed z 0)
  unfolding said_from zeros_after concluded
  broken_on es = ap (λ (m : Progress). finds (concluded m) (summed z 0)) (broken_all es)

  pub closed_more : (e : Entry) (es : List Entry) → said_from (closed n) z (e ∷ es) ≡ finds (says Fail n 0) (summed z 0)
  unfolding said_from Any.reads_all Any.reads zeros_after concluded
  closed_more e es = ap (λ (m : Progress). finds (concluded m) (summed z 0)) (broken_all es)
