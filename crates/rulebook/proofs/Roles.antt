-- There are a right kernel and a right judge: what comes before settles the command or the decision that is due, and each list is a
-- session, or open, or breaks somewhere.
-- Assumes nothing.
use mathlib.Core.Path.{◌≡◌, refl, sym, ap, ◌∙◌}
use mathlib.Core.Bool.{Bool, true, false, false≢true}
use mathlib.Core.List.{List, [], ◌∷◌, ◌++◌}
use mathlib.Core.Logic.{inl, inr, ⊎_elim}
use mathlib.Core.Option.{Option, none, some}
use Prim.Native.Nat.{ℕ}
use Rattle.numbers.specs.Tables.{command, answer, decision}
use Rattle.tape_read.specs.Entries.{Entry, entry}
use Rattle.sessions.specs.Session as Under
use Rattle.sessions.specs.Stated.{Sort, finished, unfinished, neither}
use Rattle.sessions.specs.Machine.{due, next, run}
use Rattle.sessions.proofs.Running.{due_entry, due_test, chosen, taken, no_state, session_run}
use Rattle.sessions.proofs.Reading.{run_append}
use Rattle.sessions.proofs.Trichotomy.{sorted, one_sort}
use Rattle.sessions.proofs.Breaks.{one_break, break_unlawful, break_found}
use Rattle.rulebook.specs.Phase.{opens, asks, hears, decides, command_of, due_kind, decision_of}
use Rattle.rulebook.specs.Session.{rules, Session, Open, Lawful, BreaksAt}
use Rattle.rulebook.specs.Roles.{given, Kernel, RightKernel, Verdict, pass, inconclusive, fail, Judge, RightJudge}
use Rattle.slices.specs.Tests.{alike}
use Rattle.slices.proofs.Comparing.{alike_same}
use Rattle.rulebook.proofs.Said.{other_kinds}
use Rattle.rulebook.specs.Machine.{Machine, at, owes, done}
use Rattle.rulebook.proofs.Kept.{kept}

-- ---- kernels

-- the command or decision that is due in a state; elsewhere any entry
unfoldable due_in : Machine → Entry
due_in (at (asks w)) = entry command (command_of w)
due_in (at (hears h)) = entry (due_kind h) []
due_in (at (decides outcome reason s)) = entry decision (decision_of outcome reason s)
due_in (owes w) = entry answer []
due_in done = entry answer []

unfoldable after : Option Machine → Entry
after none = entry answer []
after (some σ) = due_in σ

not_given : {A : Type 0} (k : ℕ) (test : Bool) (e : Entry) → given (entry k e.payload) ≡ false → due k test e ≡ true → given e ≡ true → A
not_given k test e other d g = absurd (false≢true (sym other ∙ (sym (ap given (due_entry k test e d)) ∙ g)))

-- whatever is given is what is due
given_due : (σ τ : Machine) (e : Entry) → next rules σ e ≡ some τ → given e ≡ true → due_in σ ≡ e
unfolding next due_in given
given_due (at (asks w)) τ e h g =
    let d = (chosen (due command (alike e.payload (command_of w)) e) _ τ h).0 in
    let same = alike_same e.payload (command_of w) (due_test command _ e d) in
    sym (due_entry command _ e d ∙ ap (entry command) same)
given_due (at (hears x)) τ e h g =
    let k = other_kinds x in
    not_given (due_kind x) _ e (rw (k.no_command, k.no_decision)) (chosen (due (due_kind x) _ e) _ τ h).0 g
given_due (at (decides outcome reason s)) τ e h g =
    let d = (chosen (due decision (alike e.payload (decision_of outcome reason s)) e) _ τ h).0 in
    let same = alike_same e.payload (decision_of outcome reason s) (due_test decision _ e d) in
    sym (due_entry decision _ e d ∙ ap (entry decision) same)
given_due (owes w) τ e h g = not_given answer _ e refl (chosen (due answer _ e) _ τ h).0 g
given_due done τ e h g = no_state τ h

-- there is a right kernel
pub right_kernel : Kernel
right_kernel es = after (run rules es (at opens))

-- whichever START a session has
gives_due : (es : List Entry) (e : Entry) (rest : List Entry) → Session (es ++ (e ∷ rest)) → given e ≡ true → right_kernel es ≡ e
unfolding right_kernel after run
gives_due es e rest play g =
    let whole = sym (run_append rules es (e ∷ rest) (at opens)) ∙ session_run rules (es ++ (e ∷ rest)) play in
    let t = taken (run rules (e ∷ rest)) (run rules es (at opens)) done whole in
    let n = taken (run rules rest) (next rules t.0 e) done t.1.1 in
    ap after t.1.0 ∙ given_due t.0 n.0 e n.1.0 g

pub right_kernel_lem : RightKernel right_kernel
unfolding RightKernel
right_kernel_lem es e rest play begun g = gives_due es e rest play g

-- the entries before it settle what is given
pub one_given : (es : List Entry) (d e : Entry) (rest more : List Entry) → Session (es ++ (d ∷ rest)) → Session (es ++ (e ∷ more))
    → given d ≡ true → given e ≡ true → d ≡ e
one_given es d e rest more a b g h = sym (gives_due es d rest a g) ∙ gives_due es e more b h

-- ---- judges

unlawful : (es : List Entry) → (Session es → ⊥) → (Open es → ⊥) → Lawful es → ⊥
unfolding Under.Lawful
unlawful es s o l = ⊎_elim s o l

verdict_of : (es : List Entry) → Sort rules es → Verdict
verdict_of es (finished s) = pass
verdict_of es (unfinished o) = inconclusive
verdict_of es (neither s o) = fail (break_found kept es (unlawful es s o)).0

-- there is a right judge
pub right_judge : Judge
right_judge es = verdict_of es (sorted kept es)

of_session : (es : List Entry) (s : Session es) (t : Sort rules es) → verdict_of es t ≡ pass
unfolding verdict_of
of_session es s (finished t) = refl
of_session es s (unfinished o) = absurd (one_sort kept es s o)
of_session es s (neither t o) = absurd (t s)

of_open : (es : List Entry) (o : Open es) (t : Sort rules es) → verdict_of es t ≡ inconclusive
unfolding verdict_of
of_open es o (finished s) = absurd (one_sort kept es s o)
of_open es o (unfinished p) = refl
of_open es o (neither s p) = absurd (p o)

of_broken : (es : List Entry) (k : ℕ) (b : BreaksAt es k) (t : Sort rules es) → verdict_of es t ≡ fail k
unfolding verdict_of Under.Lawful
of_broken es k b (finished s) = absurd (break_unlawful kept es k b (inl s))
of_broken es k b (unfinished o) = absurd (break_unlawful kept es k b (inr o))
of_broken es k b (neither s o) = let f = break_found kept es (unlawful es s o) in ap fail (one_break kept es f.0 k f.1 b)

pub right_judge_lem : RightJudge right_judge
unfolding right_judge
right_judge_lem =
    record {
      finished = λ es s. of_session es s (sorted kept es);
      unfinished = λ es o. of_open es o (sorted kept es);
      broken = λ es k b. of_broken es k b (sorted kept es);
    }
