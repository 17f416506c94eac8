-- An edition that adds to today's rules reads every entry of today's as they do: the machine goes where theirs goes, the progress is
-- theirs, so is what is concluded, and what is counted where what was is counted as it was. Once START is read there is no entry that is
-- not today's; so a tape whose START is of an earlier edition is read as today to its end.
-- Assumes nothing.
use mathlib.Core.Path.{◌≡◌, refl, sym, ap, ◌∙◌, subst}
use mathlib.Core.Bool.{Bool, ◌&&◌}
use mathlib.Core.List.{List, [], ◌∷◌}
use mathlib.Core.Option.{Option, none, some}
use Prim.Native.Nat.{ℕ, ◌+◌}
use Rattle.slices.specs.Choice.{pick}
use Rattle.slices.proofs.Choice.{picked, pick_ap}
use Rattle.tape_read.specs.Entries.{Entry}
use Rattle.tape_read.specs.Tapes.{Reading, entries, unreadable, read_tape}
use Rattle.sessions.specs.Session.{is_payload}
use Rattle.sessions.specs.Machine.{due, sayable, next, and_on, run}
use Rattle.sessions.proofs.Running.{chosen, no_state}
use Rattle.rulebook.specs.Phase.{terminal, says, Phase, opens, asks, hears, decides}
use Rattle.rulebook.specs.Turn.{turn, after, opened}
use Rattle.rulebook.specs.Session.{rules}
use Rattle.rulebook.specs.Machine.{Machine, at, owes, done}
use Rattle.rulebook.specs.Later.{PhaseLater, Added, as_was, command_later, turn_later}
use Rattle.rulebook.specs.Later.{kind_later, allowed_later, after_later, later, Earlier}
use Rattle.rulebook.proofs.Later.{start_allows, start_after}
use Rattle.rulebook.proofs.Passing.{Holds, anything_lasts, turn_holds, after_holds}
use Rattle.verdict_under.specs.Summing.{new_in, count_on, zeros_from, zeros_of}
use Rattle.verdict_under.specs.Progress.{closes, onward, concluded, new_by, begun, reads, reads_all, finally, verdict_of}
use Rattle.verdict_under.proofs.Zeroing.{zeros_in}
use Rattle.verdict_judged.specs.Progress.{Progress, reached, closed, broken}
use Rattle.verdict_editions.specs.Editions.{First, FirstOf}
use Rattle.verdict_editions.specs.Was.{MachineLater, ProgressLater, was_state, was_next, was_progress, Started, StartRead}
use Rattle.verdict_editions.specs.Was.{OfToday, ReadsToday}

-- ---- START has been read

holds_started : (p : Phase) → Holds (λ s. Unit {0}) p → Started (at p)
unfolding Holds
holds_started (asks w) h = tt
holds_started (hears terminal) h = absurd h
holds_started (hears (says word s)) h = tt
holds_started (decides outcome reason s) h = tt

first_starts : (p : List ℕ) → Started (at (after terminal p))
unfolding after opened
first_starts p = tt

came : (τ ρ : Machine) → some τ ≡ some ρ → Started τ → Started ρ
came τ ρ e h = let same : τ ≡ ρ = cc e in subst Started same h

next_starts : (σ ρ : Machine) (e : Entry) → next rules σ e ≡ some ρ → Started ρ
unfolding next
next_starts (at (asks w)) ρ e h = came (owes w) ρ (chosen _ _ ρ h).1 tt
next_starts (at (hears terminal)) ρ e h = came (at (after terminal e.payload)) ρ (chosen _ _ ρ h).1 (first_starts e.payload)
next_starts (at (hears (says word s))) ρ e h =
    came (at (after (says word s) e.payload)) ρ (chosen _ _ ρ h).1
    (holds_started (after (says word s) e.payload) (after_holds (λ t. Unit {0}) word s e.payload tt))
next_starts (at (decides outcome reason s)) ρ e h = came done ρ (chosen _ _ ρ h).1 tt
next_starts (owes w) ρ e h =
    came (at (turn w e.payload)) ρ (chosen _ _ ρ h).1
    (holds_started (turn w e.payload) (turn_holds (λ s. Unit {0}) anything_lasts w e.payload tt))
next_starts done ρ e h = no_state ρ h

onward_starts : (σ : Machine) (n : ℕ) (e : Entry) (o : Option Machine) → ((τ : Machine) → o ≡ some τ → Started τ)
    → StartRead (onward σ n e o)
unfolding onward
onward_starts σ n e (some τ) h = h τ refl
onward_starts σ n e none h = picked StartRead (closes σ e) _ _ (λ y. tt) (λ f. tt)

reads_starts : (m : Progress) (e : Entry) → StartRead (reads rules m e)
unfolding reads
reads_starts (reached σ n) e = onward_starts σ n e (next rules σ e) (λ τ h. next_starts σ τ e h)
reads_starts (closed n) e = tt
reads_starts (broken k) e = tt

module _ {A H : Type 0} (added : Added A H) where
  of_today : (σ : Machine) (e : Entry) → Started σ → OfToday added σ e
  of_today (at (asks w)) e h = tt
  of_today (at (hears terminal)) e h = absurd h
  of_today (at (hears (says word s))) e h = tt
  of_today (at (decides outcome reason s)) e h = tt
  of_today (owes w) e h = tt
  of_today done e h = tt

  pub reads_today : (m : Progress) (e : Entry) → StartRead m → ReadsToday added m e
  reads_today (reached σ n) e h = of_today σ e h
  reads_today (closed n) e h = tt
  reads_today (broken k) e h = tt

  -- ---- one entry

  pub next_was : (σ : Machine) (e : Entry) → OfToday added σ e → next (later added) (was_state σ) e ≡ was_next (next rules σ e)
  unfolding next sayable was_state was_next as_was command_later turn_later kind_later allowed_later after_later
  next_was (at (asks w)) e h = sym (pick_ap was_next _ _ _)
  next_was (at (hears terminal)) e h =
      let p = e.payload in
      (λ i.
      pick (due (rules.due_kind terminal) (start_allows added p h i && is_payload p) e) (some (at (start_after added p h i))) none)
      ∙ sym (pick_ap was_next _ _ _)
  next_was (at (hears (says word s))) e h = sym (pick_ap was_next _ _ _)
  next_was (at (decides outcome reason s)) e h = sym (pick_ap was_next _ _ _)
  next_was (owes w) e h = sym (pick_ap was_next _ _ _)
  next_was done e h = refl

  -- and the states after it, as far as there are any
  and_on_was : (es : List Entry) (o : Option Machine)
      → ((τ : Machine) → o ≡ some τ → run (later added) es (was_state τ) ≡ was_next (run rules es τ))
      → and_on (run (later added) es) (was_next o) ≡ was_next (and_on (run rules es) o)
  unfolding and_on was_next
  and_on_was es none h = refl
  and_on_was es (some τ) h = h τ refl

  run_rest : (es : List Entry) (σ : Machine) → Started σ → run (later added) es (was_state σ) ≡ was_next (run rules es σ)
  unfolding run was_next
  run_rest [] σ h = refl
  run_rest (e ∷ es) σ h =
      ap (and_on (run (later added) es)) (next_was σ e (of_today σ e h))
      ∙ and_on_was es (next rules σ e) (λ τ n. run_rest es τ (next_starts σ τ e n))

  -- from the opening on, where START is of an earlier edition
  pub run_was : (es : List Entry) → First (Earlier added) es
      → run (later added) es (at (later added).opens) ≡ was_next (run rules es (at opens))
  unfolding run was_next was_state as_was First
  run_was [] first = refl
  run_was (e ∷ es) first =
      ap (and_on (run (later added) es)) (next_was (at opens) e first)
      ∙ and_on_was es (next rules (at opens) e) (λ τ n. run_rest es τ (next_starts (at opens) τ e n))

  closes_was : (σ : Machine) (e : Entry) → closes (was_state {A = A} {H = H} σ) e ≡ closes σ e
  unfolding closes was_state
  closes_was (at p) e = refl
  closes_was (owes w) e = refl
  closes_was done e = refl

  onward_was : (σ : Machine) (n : ℕ) (e : Entry) (o : Option Machine)
      → onward {A = _} {H = _} {S = _} (was_state {A = A} {H = H} σ) n e (was_next o) ≡ was_progress (onward σ n e o)
  unfolding onward was_next was_progress
  onward_was σ n e (some τ) = refl
  onward_was σ n e none =
      ap (λ (b : Bool). pick b (closed (n + 1)) (broken n)) (closes_was σ e) ∙ sym (pick_ap was_progress (closes σ e) _ _)

  -- an entry of today's makes of the progress what it makes of it today
  pub reads_was : (m : Progress) (e : Entry) → ReadsToday added m e → reads (later added) (was_progress m) e
      ≡ was_progress (reads rules m e)
  unfolding reads was_progress
  reads_was (reached σ n) e h = ap (onward (was_state σ) n e) (next_was σ e h) ∙ onward_was σ n e (next rules σ e)
  reads_was (closed n) e h = refl
  reads_was (broken k) e h = refl

  concluded_was : (m : Progress) → concluded (was_progress {A = A} {H = H} m) ≡ concluded m
  unfolding concluded was_progress was_state
  concluded_was (reached (at p) n) = refl
  concluded_was (reached (owes w) n) = refl
  concluded_was (reached done n) = refl
  concluded_was (closed n) = refl
  concluded_was (broken k) = refl

  -- ---- all entries

  -- once START is read
  pub all_was : (es : List Entry) (m : Progress) → StartRead m
      → reads_all (later added) (was_progress m) es ≡ was_progress (reads_all rules m es)
  unfolding reads_all
  all_was [] m h = refl
  all_was (e ∷ es) m h =
      ap (λ (x : ProgressLater A H). reads_all (later added) x es) (reads_was m e (reads_today m e h))
      ∙ all_was es (reads rules m e) (reads_starts m e)

  -- from the opening on, where START is of an earlier edition
  pub progress_was : (es : List Entry) → First (Earlier added) es
      → reads_all (later added) (begun (later added)) es ≡ was_progress (reads_all rules (begun rules) es)
  unfolding reads_all First was_progress was_state as_was
  progress_was [] first = refl
  progress_was (e ∷ es) first =
      ap (λ (x : ProgressLater A H). reads_all (later added) x es) (reads_was (begun rules) e first)
      ∙ all_was es (reads rules (begun rules) e) (reads_starts (begun rules) e)

  module _ (t : List ℕ) (first : FirstOf (Earlier added) t) where
    finally_was : (r : Reading) → read_tape t ≡ r → finally (later added) (begun (later added)) r ≡ finally rules (begun rules) r
    unfolding finally FirstOf
    finally_was (entries es) h = ap concluded (progress_was es (first es h)) ∙ concluded_was (reads_all rules (begun rules) es)
    finally_was (unreadable place code) h = refl

    -- the verdict of a tape whose START is of an earlier edition
    pub verdict_was : verdict_of (later added) t ≡ verdict_of rules t
    unfolding verdict_of
    verdict_was = finally_was (read_tape t) refl

  -- ---- what is counted, where what was is counted as it was

  module _ (c : PhaseLater A H → ℕ) (d : Phase → ℕ) (same : (q : Phase) → c (as_was q) ≡ d q) where
    new_was : (σ : Machine) → new_in c (was_state σ) ≡ new_in d σ
    unfolding new_in was_state
    new_was (at p) = same p
    new_was (owes w) = refl
    new_was done = refl

    pub new_by_was : (m : Progress) → new_by c (was_progress m) ≡ new_by d m
    unfolding new_by was_progress
    new_by_was (reached σ n) = new_was σ
    new_by_was (closed n) = refl
    new_by_was (broken k) = refl

    sum_next : (f : MachineLater A H → ℕ) (g : Machine → ℕ) (o : Option Machine) → ((τ : Machine) → o ≡ some τ → f (was_state τ) ≡ g τ)
        → count_on c f (was_next o) ≡ count_on d g o
    unfolding count_on was_next
    sum_next f g none h = refl
    sum_next f g (some τ) h = λ i. new_was τ i + h τ refl i

    sum_rest : (es : List Entry) (σ : Machine) → Started σ → zeros_from (later added) c es (was_state σ) ≡ zeros_from rules d es σ
    unfolding zeros_from
    sum_rest [] σ h = refl
    sum_rest (e ∷ es) σ h =
        ap (count_on c (zeros_from (later added) c es)) (next_was σ e (of_today σ e h))
        ∙ sum_next (zeros_from (later added) c es) (zeros_from rules d es) (next rules σ e)
        (λ τ n. sum_rest es τ (next_starts σ τ e n))

    -- from the opening on, where START is of an earlier edition
    pub sum_was : (es : List Entry) → First (Earlier added) es → zeros_of (later added) c es ≡ zeros_of rules d es
    unfolding zeros_from First was_state as_was
    sum_was [] first = refl
    sum_was (e ∷ es) first =
        ap (count_on c (zeros_from (later added) c es)) (next_was (at opens) e first)
        ∙ sum_next (zeros_from (later added) c es) (zeros_from rules d es) (next rules (at opens) e)
        (λ τ n. sum_rest es τ (next_starts (at opens) τ e n))

    module _ (t : List ℕ) (first : FirstOf (Earlier added) t) where
      number_was : (r : Reading) → read_tape t ≡ r → zeros_in (later added) c r ≡ zeros_in rules d r
      unfolding zeros_in FirstOf
      number_was (entries es) h = sum_was es (first es h)
      number_was (unreadable place code) h = refl

      -- the number of a tape whose START is of an earlier edition
      pub zeros_was : zeros_in (later added) c (read_tape t) ≡ zeros_in rules d (read_tape t)
      zeros_was = number_was (read_tape t) refl
