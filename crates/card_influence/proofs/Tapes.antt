-- An answer that is exchanged leads the reading of a tape to the same state, so that all that follows is read alike: the verdict, which the
-- end of the reading says, and the fourth number, which is added up on the way.
-- Assumes nothing.
use mathlib.Core.Path.{◌≡◌, refl, sym, ap, ◌∙◌}
use mathlib.Core.Bool.{true}
use mathlib.Core.List.{List}
use mathlib.Core.Logic.{◌↔◌}
use mathlib.Core.Option.{some}
use Prim.Native.Nat.{ℕ, ◌+◌}
use Rattle.numbers.specs.Tables.{answer}
use Rattle.tape_read.specs.Entries.{Entry, entry}
use Rattle.tape_read.specs.Tapes.{read_tape}
use Rattle.sessions.specs.Session.{is_payload}
use Rattle.sessions.specs.Machine.{next}
use Rattle.sessions.proofs.Running.{takes_answer}
use Rattle.rulebook.specs.Phase.{Asked, Phase}
use Rattle.rulebook.specs.Turn.{turn}
use Rattle.rulebook.specs.Machine.{Machine, at, owes}
use Rattle.verdict_under.specs.Progress as Any
use Rattle.verdict_under.specs.Summing as Sums
use Rattle.verdict_under.proofs.Zeroing as Numbers
use Rattle.rulebook_zeros.specs.Summing.{new_in, count_on, zeros_from}
use Rattle.rulebook.specs.Session.{rules}
use Rattle.verdict.specs.declared.Ruling.{Ruling}
use Rattle.verdict_judged.specs.Judged.{Judged}
use Rattle.verdict_judged.specs.Zeroed.{Zeroed}
use Rattle.verdict_judged.specs.Progress.{Progress, reached, begun, onward, reads, reads_all, concluded, finally, verdict_of}
use Rattle.verdict_judged.proofs.Once.{zeroed_once}
use Rattle.verdict_judged.proofs.Meaning.{verdict_right, right_verdict, zeros_in, zeroed_found, zeroed_right}
use Rattle.card_seen.specs.Seen.{seen}
use Rattle.card_seen.specs.Given.{place_of}
use Rattle.card_seen.proofs.Turning.{settled}
use Rattle.card_influence.specs.Exchanged.{Exchanged, rest, kept, other, TapesAlike}

-- both answers are taken, and lead to the same state
same_state : (w : Asked) (a b : List ℕ) → is_payload a ≡ true → is_payload b ≡ true → seen (place_of w) a ≡ seen (place_of w) b
    → next rules (owes w) (entry answer b) ≡ some (at (turn w a))
same_state w a b ok ok' e = takes_answer rules w b ok' ∙ ap (λ (p : Phase). some (at p)) (sym (settled w a b e))

module _ (n : ℕ) where
  taken : (σ τ : Machine) (e : Entry) → next rules σ e ≡ some τ → reads (reached σ n) e ≡ reached τ (n + 1)
  unfolding Any.reads onward
  taken σ τ e h = ap (onward σ n e) h

pub same_progress : {σ : Machine} {es fs : List Entry} (n : ℕ) → Exchanged σ es fs → reads_all (reached σ n) es ≡ reads_all (reached σ n) fs
unfolding Any.reads_all
same_progress n rest = refl
same_progress n (kept {σ} {es} {fs} e τ h more) =
    ap (λ (m : Progress). reads_all m es) (taken n σ τ e h)
    ∙ (same_progress (n + 1) more ∙ sym (ap (λ (m : Progress). reads_all m fs) (taken n σ τ e h)))
same_progress n (other {w} {es} {fs} a b ok ok' same more) =
    ap (λ (m : Progress). reads_all m es) (taken n (owes w) (at (turn w a)) (entry answer a) (takes_answer rules w a ok))
    ∙ (same_progress (n + 1) more
    ∙ sym (ap (λ (m : Progress). reads_all m fs) (taken n (owes w) (at (turn w a)) (entry answer b) (same_state w a b ok ok' same))))

pub same_zeros : {σ : Machine} {es fs : List Entry} → Exchanged σ es fs → zeros_from es σ ≡ zeros_from fs σ
unfolding Sums.zeros_from Sums.count_on
same_zeros rest = refl
same_zeros (kept {σ} {es} {fs} e τ h more) =
    ap (count_on (zeros_from es)) h ∙ (ap (λ (n : ℕ). new_in τ + n) (same_zeros more) ∙ sym (ap (count_on (zeros_from fs)) h))
same_zeros (other {w} {es} {fs} a b ok ok' same more) =
    ap (count_on (zeros_from es)) (takes_answer rules w a ok)
    ∙ (ap (λ (n : ℕ). new_in (at (turn w a)) + n) (same_zeros more)
    ∙ sym (ap (count_on (zeros_from fs)) (same_state w a b ok ok' same)))

module _ (t u : List ℕ) (tapes : TapesAlike t u) where
  same_verdict : verdict_of t ≡ verdict_of u
  unfolding Any.verdict_of Any.finally
  same_verdict =
      ap (finally begun) tapes.first_read
      ∙ (ap concluded (same_progress 0 tapes.exchanged) ∙ sym (ap (finally begun) tapes.second_read))

  same_number : zeros_in (read_tape t) ≡ zeros_in (read_tape u)
  unfolding Numbers.zeros_in
  same_number = ap zeros_in tapes.first_read ∙ (same_zeros tapes.exchanged ∙ sym (ap zeros_in tapes.second_read))

-- tapes of which the same is said are judged alike, whatever that is
judged_on : (t u : List ℕ) → verdict_of t ≡ verdict_of u → (a : Ruling) → Judged t a → Judged u a
judged_on t u same a j = verdict_right u a (right_verdict t a j ∙ same)

zeroed_on : (t u : List ℕ) → zeros_in (read_tape t) ≡ zeros_in (read_tape u) → (n : ℕ) → Zeroed t n → Zeroed u n
zeroed_on t u same n z = zeroed_right u n (zeroed_once t n (zeros_in (read_tape t)) z (zeroed_found t) ∙ same)

pub judged_alike : (t u : List ℕ) → TapesAlike t u → (a : Ruling) → Judged t a ↔ Judged u a
judged_alike t u tapes a = (judged_on t u (same_verdict t u tapes) a, judged_on u t (sym (same_verdict t u tapes)) a)

pub zeroed_alike : (t u : List ℕ) → TapesAlike t u → (n : ℕ) → Zeroed t n ↔ Zeroed u n
zeroed_alike t u tapes n = (zeroed_on t u (same_number t u tapes) n, zeroed_on u t (sym (same_number t u tapes)) n)
