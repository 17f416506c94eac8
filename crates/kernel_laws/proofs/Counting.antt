-- After any calls from fresh the session's number of entries filled with zeros is the rulebook's for its log: a call that is turned away
-- changes neither, a silence adds nothing, and any other that is taken adds what the phase it leads to lacks; the command or the
-- decision that the log then has adds nothing. No sum comes near the number at which the kernel would begin anew.
-- Assumes nothing.
use mathlib.Core.Path.{◌≡◌, refl, sym, ap, ◌∙◌, subst}
use mathlib.Core.Bool.{true}
use mathlib.Core.List.{List, [], ◌∷◌, ◌++◌, append-nil}
use mathlib.Core.Option.{some}
use Prim.Native.Nat.{ℕ, ◌+◌, ◌^◌, ◌<◌}
use native.Mathlib.Nat.{mod-eq_of_lt, add-zero}
use native.Mathlib.Omega.{arith}
use lib.Dec.{eqb}
use lib.Pow.{are_bytes}
use borrow.Author.Tests.{eqb-true, eqb-false}
use Rattle.slices.proofs.Choice.{either, and_left, and_right}
use Rattle.numbers.specs.Tables.{silence}
use Rattle.tape_read.specs.Entries.{Entry, entry}
use Rattle.dol_fill.specs.Filled.{summed}
use Rattle.sessions.specs.Machine.{next, run}
use Rattle.sessions.proofs.Lists.{snoc_same}
use Rattle.sessions.proofs.Running.{takes_command, takes_decision}
use Rattle.sessions.proofs.Reading.{awaits_run}
use Rattle.rulebook.specs.Phase.{Phase, opens, asks, hears, decides}
use Rattle.rulebook.specs.Machine.{Machine, at, owes}
use Rattle.rulebook_zeros.specs.Zeros.{unsupplied_in, Zeros}
use Rattle.verdict_under.specs.Summing as Sums
use Rattle.rulebook_zeros.specs.Summing.{count_on, zeros_from, zeros_of}
use Rattle.verdict_under.proofs.Summing.{zeros_on, zeros_stop, silence_stops, zeros_found}
use Rattle.rulebook_zeros.proofs.Most.{zeros_most}
use Rattle.rulebook.specs.Session.{rules}
use Rattle.rulebook.proofs.Kept.{kept}
use Rattle.session_events.specs.Events.{step}
use Rattle.session_laws.specs.Logging.{logged as ruled, Reached}
use Rattle.session_laws.proofs.Reaching.{reached_fresh}
use Rattle.kernel_refusals.specs.Refusals.{call_refusal}
use Rattle.kernel.specs.declared.Session.{Session}
use Rattle.kernel.specs.Calls.{Called, refused, accepted, closed_after, call, fresh_session}
use Rattle.kernel_laws.specs.Log.{Call, made, logged, logged_by, Played, after, plays_from, plays, all_bytes}
use Rattle.kernel_laws.proofs.Turning.{zero_or, call_taken, call_refused, taken_silence, taken_step, passed}
use Rattle.kernel_laws.proofs.Taking.{Taken, taken_event, taken_logged, silence_alone, silence_taken}
use Rattle.kernel_laws.proofs.Lasting.{Stands, going, shut, not_closed, stands_call}

-- the command or the decision of a phase adds nothing
own_zeros : (p : Phase) → zeros_from (ruled p) (at p) ≡ 0
unfolding ruled Sums.zeros_from Sums.count_on Sums.new_in
own_zeros (asks w) = ap (count_on (zeros_from [])) (takes_command rules w)
own_zeros (hears h) = refl
own_zeros (decides outcome reason z) = ap (count_on (zeros_from [])) (takes_decision rules outcome reason z)

-- an event that the machine takes, and what the phase puts on the tape
event_zeros : (σ : Machine) (e : Entry) (p : Phase) → next rules σ e ≡ some (at p)
    → zeros_from (e ∷ ruled p) σ ≡ unsupplied_in p
unfolding Sums.zeros_from Sums.count_on Sums.new_in
event_zeros σ e p h =
    ap (count_on (zeros_from (ruled p))) h ∙ (ap (λ (n : ℕ). unsupplied_in p + n) (own_zeros p) ∙ add-zero (unsupplied_in p))

module _ (s : Session) (es : List Entry) (buf : List ℕ) (e : Entry) (counted : s.zeros ≡ zeros_of es) where
  -- where a call leaves the number and the log
  abbrev Counts : Called → Type 0
  Counts r = r.session.zeros ≡ zeros_of (es ++ logged_by r e)

  counts_refused : (call_refusal s.state.waiting e buf ≡ 0 → ⊥) → Counts (call s e buf)
  unfolding refused logged_by logged
  counts_refused h = subst Counts (sym (call_refused s e buf h)) (counted ∙ ap zeros_of (sym (append-nil es)))

  -- the log grows by an event that the machine takes, and by what the phase puts on the tape
  longer : (σ : Machine) (p : Phase) → run rules es (at opens) ≡ some σ → next rules σ e ≡ some (at p)
      → zeros_of (es ++ (e ∷ ruled p)) ≡ zeros_of es + unsupplied_in p
  longer σ p read taken =
      zeros_on rules unsupplied_in es (e ∷ ruled p) (at opens) σ read ∙ ap (λ (n : ℕ). zeros_of es + n) (event_zeros σ e p taken)

  counts_step : (r : Called) (t : Taken es e buf s.zeros r) → logged_by r e ≡ e ∷ ruled t.to → Counts r
  unfolding accepted summed
  counts_step r t grows =
      let added : t.moved.zeros ≡ unsupplied_in t.to = t.steps.zeros in
      let sum = longer t.from t.to t.read t.steps.taken in
      let most = zeros_most (es ++ (e ∷ ruled t.to)) in
      let small : s.zeros + t.moved.zeros < 2 ^ 64 = omega arith in
      ap (λ (x : Called). x.session.zeros) t.same
      ∙ (mod-eq_of_lt small ∙ ((let e' : s.zeros + t.moved.zeros ≡ zeros_of es + unsupplied_in t.to = omega arith in e')
      ∙ (sym sum ∙ ap (λ (l : List Entry). zeros_of (es ++ l)) (sym grows))))

  module _ (there : Reached s.state es) (h : call_refusal s.state.waiting e buf ≡ 0) where
    counts_silent : e.kind ≡ silence → Counts (call s e buf)
    unfolding closed_after logged_by logged
    counts_silent k =
        let p = passed s e buf h in
        let silent = silence_taken s es buf there e p k in
        let same = snoc_same silent.before es (entry silence []) (entry silence []) (sym silent.ends) in
        let owed = awaits_run kept silent.before silent.awaits in
        let read = ap (λ (l : List Entry). run rules l (at opens)) (sym same.0) ∙ owed.1 in
        let stops = zeros_stop rules unsupplied_in es (entry silence []) [] (at opens) (owes owed.0) read
        (silence_stops rules owed.0) in
        let alone = silence_alone s es buf there e p k in
        subst Counts (sym (call_taken s e buf h ∙ taken_silence s e buf k))
        (counted ∙ (sym stops ∙ ap (λ (x : Entry). zeros_of (es ++ (x ∷ []))) (sym alone)))

    counts_event : are_bytes e.payload ≡ true → (e.kind ≡ silence → ⊥) → Counts (call s e buf)
    counts_event bytes n =
        let p = passed s e buf h in
        let r = accepted s.zeros (step s.state e.payload buf) in
        let t = taken_event s es buf there e p bytes n in
        subst Counts (sym (call_taken s e buf h ∙ taken_step s e buf n)) (counts_step r t (taken_logged es e buf s.zeros r p.room t))

  by_case : are_bytes e.payload ≡ true → Stands s es → call_refusal s.state.waiting e buf ≡ 0 → Counts (call s e buf)
  by_case bytes (going there) h =
      either (eqb e.kind silence)
      (λ y. counts_silent there h (eqb-true e.kind silence y))
      (λ n. counts_event there h bytes (eqb-false e.kind silence n))
  by_case bytes (shut c) h = absurd (not_closed s es buf e c.closed h)

  counts_call : are_bytes e.payload ≡ true → Stands s es → Counts (call s e buf)
  counts_call bytes st = zero_or (call_refusal s.state.waiting e buf) (by_case bytes st) counts_refused

-- from call to call
counts_from : (cs : List Call) (p : Played) → all_bytes cs ≡ true → Stands p.session p.log → p.session.zeros ≡ zeros_of p.log
    → (plays_from p cs).session.zeros ≡ zeros_of (plays_from p cs).log
unfolding plays_from all_bytes after made
counts_from [] p bytes st counted = counted
counts_from (c ∷ cs) p bytes st counted =
    let first = and_left (are_bytes c.event.payload) (all_bytes cs) bytes in
    counts_from cs (after p c) (and_right (are_bytes c.event.payload) (all_bytes cs) bytes)
    (stands_call p.session p.log c.buffer c.event first st)
    (counts_call p.session p.log c.buffer c.event counted first st)

pub plays_zeros : (cs : List Call) → all_bytes cs ≡ true → Zeros (plays cs).log (plays cs).session.zeros
unfolding plays fresh_session Sums.zeros_from
plays_zeros cs bytes =
    subst (Zeros (plays cs).log) (sym (counts_from cs (record { session = fresh_session; log = [] }) bytes (going reached_fresh) refl))
    (zeros_found kept unsupplied_in (plays cs).log)
