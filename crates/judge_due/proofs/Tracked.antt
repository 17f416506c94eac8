-- What a judgement finds due is what the rulebook has due after the entries that were read: it stands where the rulebook's machine stands
-- (judge_follow), and the machine stands there (verdict_judged).
-- Assumes nothing.
use mathlib.Core.Path.{◌≡◌, refl, sym, ap, ◌∙◌}
use mathlib.Core.List.{List, ◌∷◌, ◌++◌}
use Prim.Native.Nat.{ℕ}
use Rattle.numbers.specs.Tables.{command, decision}
use Rattle.tape_read.specs.Entries.{Entry}
use Rattle.sessions.proofs.Reading.{not_begun}
use Rattle.sessions.proofs.Breaks.{break_unlawful}
use Rattle.rulebook.specs.Situation.{Situation}
use Rattle.rulebook.specs.Phase.{Heard, terminal, says, asks, hears, decides, due_kind, decision_of}
use Rattle.rulebook.specs.Machine.{Machine, at, owes, done}
use Rattle.rulebook_due.specs.Due.{Due as Rule, nothing, count_in}
use Rattle.rulebook_due.specs.After.{due_at, due_in, due_after}
use Rattle.due_under.specs.After as Under
use Rattle.due_under.proofs.After.{none_due, unlawful_due}
use Rattle.rulebook.specs.Session.{rules}
use Rattle.rulebook.proofs.Kept.{kept}
use Rattle.session_phase.specs.Waiting.{wanted_of, awaited, count_due, outcome_of, reason_of}
use Rattle.session_phase.specs.declared.Waiting.{Waiting}
use Rattle.session_state.specs.Results.{decision_in}
use Rattle.session_moves.specs.Moves.{speaker_of, kept_as}
use Rattle.session_laws.specs.Agreeing.{StandsAt}
use Rattle.session_laws.proofs.Words.{kind_due}
use Rattle.session_laws.proofs.Standing.{stands_decision}
use Rattle.verdict_judged.specs.Progress.{Progress, reached, closed, broken, progress_of}
use Rattle.verdict_under.proofs.Meaning.{Means, progress_means}
use Rattle.judge_stages.specs.declared.Stage.{Stage}
use Rattle.judge_follow.specs.declared.Judgement.{Judgement}
use Rattle.judge_follow.proofs.Tracking.{Expects, Tracking, Tracks}
use Rattle.std.specs.Prelude.{Some}
use Rattle.judge_due.specs.declared.DueNext.{DueNext}
use Rattle.judge_due.specs.Telling.{numbers, handed, with_bytes, told}
use Rattle.judge_due.specs.Standing.{word_due, command_due, decision_due, stage_due}

-- what is due by the progress of the reading
unfoldable due_by : Progress → Rule
due_by (reached σ n) = due_at σ
due_by (closed n) = nothing
due_by (broken k) = nothing

means_due : (es : List Entry) (m : Progress) → Means rules m es → due_by m ≡ due_after es
unfolding due_by Under.due_after Under.due_in Means
means_due es (reached σ n) h = sym (ap due_in h.0)
means_due es (closed n) h = sym (none_due kept es (λ b. not_begun kept es b h.0))
means_due es (broken k) h = sym (unlawful_due kept es (break_unlawful kept es k h))

-- ---- by what the judgement expects

count_due_lem : (h : Heard) → wanted_of (speaker_of h) ≡ count_in h
unfolding wanted_of speaker_of count_in
count_due_lem terminal = refl
count_due_lem (says word s) = refl

module _ (j : Judgement) (out : List ℕ) where
  staged : (stage : Stage) → j.stage ≡ stage → stage_due j.stage j out ≡ stage_due stage j out
  staged stage e = ap (λ (x : Stage). stage_due x j out) e

  word_due_lem : (h : Heard) → StandsAt j.state (hears h) → word_due j ≡ numbers (due_kind h) (count_in h)
  unfolding word_due awaited count_due kept_as
  word_due_lem h s =
      let kind : awaited j.state.waiting ≡ due_kind h = ap awaited s.waits ∙ kind_due h in
      let count : count_due j.state.waiting ≡ count_in h = ap count_due s.waits ∙ count_due_lem h in
      λ i. numbers (kind i) (count i)

  decision_bytes : (outcome reason : ℕ) (z : Situation) → StandsAt j.state (decides outcome reason z)
      → decision_in j.state ≡ decision_of outcome reason z
  unfolding decision_in outcome_of reason_of kept_as
  decision_bytes outcome reason z s =
      ap (λ (x : Waiting). outcome_of x ∷ reason_of x ∷ (j.state.tvr ++ j.state.tsi)) s.waits
      ∙ sym (stands_decision j.state outcome reason z s)

  expected : (σ : Machine) → Expects j σ → stage_due j.stage j out ≡ told (due_at σ) out
  unfolding Expects stage_due command_due decision_due Under.due_at told
  expected (at (asks w)) x = staged _ x.1.0 ∙ ap (λ (c : List ℕ). with_bytes command c out) x.1.1
  expected (at (hears h)) x = staged _ x.0 ∙ ap (λ (d : DueNext). handed (Some d) out) (word_due_lem h x.1)
  expected (at (decides outcome reason z)) x =
      staged _ x.0 ∙ ap (λ (d : List ℕ). with_bytes decision d out) (decision_bytes outcome reason z x.1)
  expected (owes w) x = staged _ x.0
  expected done x = staged _ x

  tracked : (k : ℕ) (m : Progress) → Tracking k j m → stage_due j.stage j out ≡ told (due_by m) out
  unfolding Tracking stage_due due_by told
  tracked k (reached σ n) t = expected σ t.1
  tracked k (closed n) t = staged _ t.1
  tracked k (broken place) t = staged _ t

-- what a judgement that keeps up with the entries finds due
pub tracks_due : {k z : ℕ} (j : Judgement) (es : List Entry) (out : List ℕ) → Tracks k z j (progress_of es)
    → stage_due j.stage j out ≡ told (due_after es) out
tracks_due {k} j es out t =
    tracked j out k (progress_of es) t.tracking ∙ ap (λ (d : Rule). told d out) (means_due es (progress_of es) (progress_means kept es))
