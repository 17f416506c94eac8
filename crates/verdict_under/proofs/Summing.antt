-- The sum beside the machine is the fourth number of every list of entries, and the only one: over a session's beginning both add the
-- same, entry by entry, and where the machine stops nothing more is added, as before the entry that breaks the rules.
-- Assumes nothing.
use mathlib.Core.Path.{◌≡◌, refl, sym, ap, ◌∙◌, subst}
use mathlib.Core.List.{List, [], ◌∷◌, ◌++◌, append-nil, append_assoc}
use mathlib.Core.Logic.{inl, inr, ⊎_elim}
use mathlib.Core.Option.{Option, none, some}
use Prim.Native.Nat.{ℕ, suc, ◌+◌, ◌≤◌}
use native.Mathlib.Nat.{add_assoc, zero-add}
use native.Mathlib.Omega.{arith}
use lib.ListN.{length, take, drop, get_or}
use lib.Seq.{split_at, take-suc}
use Rattle.slices.proofs.Choice.{pick_no}
use Rattle.numbers.specs.Tables.{command, answer, silence, decision}
use Rattle.tape_read.specs.Entries.{Entry, entry}
use Rattle.sessions.specs.Rules.{Phase, asks, hears, decides, Rules}
use Rattle.sessions.specs.Session.{Plays, exchanged, heard, decided, Session, Beginning, AwaitsCard, Closed, Open, Lawful, BreaksAt}
use Rattle.sessions.specs.Kept.{Kept}
use Rattle.sessions.specs.Stated.{Sort, finished, unfinished, neither}
use Rattle.sessions.specs.Machine.{Machine, at, owes, done, next, run}
use Rattle.sessions.proofs.Lists.{head_same, tail_same}
use Rattle.sessions.proofs.Running.{taken, session_run, takes_command, takes_answer, takes_heard, takes_decision}
use Rattle.sessions.proofs.Reading.{awaits_run, beginning_run, other_kind}
use Rattle.sessions.proofs.Trichotomy.{sorted}
use Rattle.sessions.proofs.Breaks.{break_found, break_within}
use Rattle.sessions.proofs.States.{state_lawful, state_next}
use Rattle.verdict_under.specs.Counted.{sum, added_by, Summed, SummedClosed, SumOf, Counts, lawful, broken}
use Rattle.verdict_under.specs.Summing.{new_in, count_on, zeros_from, zeros_of}

module _ {A H S : Type 0} (rules : Rules A H S) where
  pub silence_stops : (w : A) → next rules (owes w) (entry silence []) ≡ none
  unfolding next
  silence_stops w = pick_no _ _ _ (other_kind answer silence _ [] refl)

module _ {A H S : Type 0} (rules : Rules A H S) (count : Phase A H S → ℕ) where
  open rules use {opens, turn, after}

  -- ---- over a session's beginning

  -- an entry that the machine takes
  counted : (σ τ : Machine A H S) (x e : Entry) (es : List Entry) → x ≡ e → next rules σ x ≡ some τ
      → zeros_from rules count (e ∷ es) σ ≡ new_in count τ + zeros_from rules count es τ
  unfolding zeros_from count_on
  counted σ τ x e es same h = ap (count_on count (zeros_from rules count es)) (ap (next rules σ) (sym same) ∙ h)

  play_sum : {p : Phase A H S} {fs : List Entry} (play : Plays rules p fs) (es rest : List Entry) → fs ≡ es ++ rest
      → sum (take (length es) (added_by rules count play)) ≡ zeros_from rules count es (at p)
  unfolding zeros_from added_by sum new_in
  play_sum play [] rest h = refl
  play_sum (exchanged {w} {c} {a} {es = fs} f ok play) (e ∷ []) rest h =
      let first : entry command c ≡ e = head_same _ e _ rest h in
      sym (counted (at (asks w)) (owes w) (entry command c) e [] first (ap (λ (x : List ℕ). next rules (at (asks w)) (entry command x)) f
      ∙ takes_command rules w))
  play_sum (exchanged {w} {c} {a} {es = fs} f ok play) (e ∷ d ∷ es) rest h =
      let first : entry command c ≡ e = head_same _ e _ (d ∷ (es ++ rest)) h in
      let left : entry answer a ∷ fs ≡ d ∷ (es ++ rest) = tail_same _ e _ (d ∷ (es ++ rest)) h in
      let second : entry answer a ≡ d = head_same _ d _ (es ++ rest) left in
      let on = play_sum {p = turn w a} play es rest (tail_same _ d _ (es ++ rest) left) in
      let went = counted (at (asks w)) (owes w) (entry command c) e (d ∷ es) first
      (ap (λ (x : List ℕ). next rules (at (asks w)) (entry command x)) f ∙ takes_command rules w) in
      let came = counted (owes w) (at (turn w a)) (entry answer a) d es second (takes_answer rules w a ok) in
      ap (λ (n : ℕ). 0 + (count (turn w a) + n)) on ∙ (ap (λ (n : ℕ). 0 + n) (sym came) ∙ sym went)
  play_sum (heard {h = x} {k} {p} {es = fs} f fits ok play) (e ∷ es) rest h =
      let first : entry k p ≡ e = head_same _ e _ (es ++ rest) h in
      let on = play_sum {p = after x p} play es rest (tail_same _ e _ (es ++ rest) h) in
      let came = counted (at (hears x)) (at (after x p)) (entry k p) e es first (ap (λ (n : ℕ). next rules (at (hears x)) (entry n p)) f
      ∙ takes_heard rules x p fits ok) in
      ap (λ (n : ℕ). count (after x p) + n) on ∙ sym came
  play_sum (decided {outcome} {reason} {s} {d} f) (e ∷ []) rest h =
      let first : entry decision d ≡ e = head_same _ e _ rest h in
      let now : next rules (at (decides outcome reason s)) (entry decision d) ≡ some done
      = ap (λ (x : List ℕ). next rules (at (decides outcome reason s)) (entry decision x)) f ∙ takes_decision rules outcome reason s in
      sym (counted (at (decides outcome reason s)) done (entry decision d) e [] first now)
  play_sum (decided {d = d} f) (e ∷ x ∷ es) rest h =
      let none_left : [] ≡ x ∷ (es ++ rest) = tail_same (entry decision d) e [] (x ∷ (es ++ rest)) h in
      absurd (let z : ◌≡◌ {A = ℕ} 0 1 = cc in omega arith)

  -- every part of a session has its sum, and no other
  part_summed : (es rest : List Entry) → Session rules (es ++ rest) → Summed rules count es (zeros_of rules count es)
  unfolding Session Summed
  part_summed es rest play = (rest, (play, sym (play_sum play es rest refl)))

  summed_is : (es : List Entry) (n : ℕ) → Summed rules count es n → n ≡ zeros_of rules count es
  unfolding Summed
  summed_is es n s = s.1.1 ∙ play_sum s.1.0 es s.0 refl

  -- ---- where the machine stops

  pub zeros_stop : (es : List Entry) (e : Entry) (more : List Entry) (σ τ : Machine A H S) → run rules es σ ≡ some τ → next rules τ e ≡ none
      → zeros_from rules count (es ++ (e ∷ more)) σ ≡ zeros_from rules count es σ
  unfolding zeros_from count_on run
  zeros_stop [] e more σ τ h stops =
      let here : σ ≡ τ = cc h in
      ap (count_on count (zeros_from rules count more)) (ap (λ (x : Machine A H S). next rules x e) here ∙ stops)
  zeros_stop (x ∷ es) e more σ τ h stops =
      let t = taken (run rules es) (next rules σ x) τ h in
      let on = zeros_stop es e more t.0 τ t.1.1 stops in
      ap (count_on count (zeros_from rules count (es ++ (e ∷ more)))) t.1.0
      ∙ (ap (λ (n : ℕ). new_in count t.0 + n) on ∙ sym (ap (count_on count (zeros_from rules count es)) t.1.0))

  -- and where it does not stop, the rest is counted from the state that it has reached
  pub zeros_on : (es more : List Entry) (σ τ : Machine A H S) → run rules es σ ≡ some τ
      → zeros_from rules count (es ++ more) σ ≡ zeros_from rules count es σ + zeros_from rules count more τ
  unfolding zeros_from count_on run
  zeros_on [] more σ τ h =
      let here : σ ≡ τ = cc h in
      ap (zeros_from rules count more) here ∙ sym (zero-add (zeros_from rules count more τ))
  zeros_on (x ∷ es) more σ τ h =
      let t = taken (run rules es) (next rules σ x) τ h in
      let on = zeros_on es more t.0 τ t.1.1 in
      ap (count_on count (zeros_from rules count (es ++ more))) t.1.0
      ∙ (ap (λ (n : ℕ). new_in count t.0 + n) on
      ∙ (sym (add_assoc (new_in count t.0) (zeros_from rules count es t.0) (zeros_from rules count more τ))
      ∙ ap (λ (n : ℕ). n + zeros_from rules count more τ) (sym (ap (count_on count (zeros_from rules count es)) t.1.0))))

  counted_grows : (f g : Machine A H S → ℕ) (o : Option (Machine A H S)) → ((τ : Machine A H S) → f τ ≤ g τ)
      → count_on count f o ≤ count_on count g o
  unfolding count_on
  counted_grows f g none h = omega arith
  counted_grows f g (some τ) h = let more = h τ in omega arith

  -- the sum never falls, however the entries go on
  zeros_grow : (es more : List Entry) (σ : Machine A H S) → zeros_from rules count es σ ≤ zeros_from rules count (es ++ more) σ
  unfolding zeros_from
  zeros_grow [] more σ = omega arith
  zeros_grow (e ∷ es) more σ =
      counted_grows (zeros_from rules count es) (zeros_from rules count (es ++ more)) (next rules σ e) (zeros_grow es more)

module _ {A H S : Type 0} {rules : Rules A H S} (kept : Kept rules) (count : Phase A H S → ℕ) where
  open rules use {opens}

  abbrev sum_of : List Entry → ℕ
  sum_of = zeros_of rules count

  -- a closing silence adds nothing, nor does what follows it
  closed_zeros : (before more : List Entry) → AwaitsCard rules before → sum_of (before ++ (entry silence [] ∷ more)) ≡ sum_of before
  closed_zeros before more a =
      let w = awaits_run kept before a in
      zeros_stop rules count before (entry silence []) more (at opens) (owes w.0) w.1 (silence_stops rules w.0)

  -- ---- the fourth number of lawful entries

  session_sum : (es : List Entry) → Session rules es → SumOf rules count es (sum_of es)
  unfolding SumOf
  session_sum es play = inl (part_summed rules count es [] (subst (Session rules) (sym (append-nil es)) play))

  beginning_sum : (es : List Entry) → Beginning rules es → SumOf rules count es (sum_of es)
  unfolding SumOf Beginning
  beginning_sum es b = inl (part_summed rules count es (b.0 ∷ b.1.0) b.1.1)

  closed_sum : (es : List Entry) → Closed rules es → SumOf rules count es (sum_of es)
  unfolding SumOf SummedClosed Closed AwaitsCard
  closed_sum es c =
      let before = c.0 in
      let waits = c.1.0 in
      let same : sum_of es ≡ sum_of before = ap sum_of c.1.1 ∙ closed_zeros before [] waits in
      inr (
        before,
        (
          subst (Summed rules count before) (sym same)
              (part_summed rules count before (entry answer waits.0 ∷ waits.1.0) waits.1.1),
          (waits, c.1.1),
        ),
      )

  lawful_sum : (es : List Entry) → Lawful rules es → SumOf rules count es (sum_of es)
  unfolding Lawful Open
  lawful_sum es l = ⊎_elim (session_sum es) (λ o. ⊎_elim (beginning_sum es) (closed_sum es) o) l

  sum_is : (es : List Entry) (n : ℕ) → SumOf rules count es n → n ≡ sum_of es
  unfolding SumOf SummedClosed
  sum_is es n s =
      ⊎_elim (summed_is rules count es n)
      (λ c. summed_is rules count c.0 n c.1.0 ∙ sym (ap sum_of c.1.1.1 ∙ closed_zeros c.0 [] c.1.1.0))
      s

  -- ---- and of broken ones

  module _ (es : List Entry) (e : Entry) (more : List Entry) where
    abbrev longer : List Entry
    longer = es ++ (e ∷ more)

    -- after entries that the machine reads, the one that breaks the rules is refused
    read_zeros : (σ : Machine A H S) → run rules es (at opens) ≡ some σ → (Lawful rules (es ++ (e ∷ [])) → ⊥) → sum_of longer ≡ sum_of es
    read_zeros σ h never = by_next (next rules σ e) refl
      where
        by_next : (o : Option (Machine A H S)) → next rules σ e ≡ o → sum_of longer ≡ sum_of es
        by_next none n = zeros_stop rules count es e more (at opens) σ h n
        by_next (some τ) n = absurd (never (state_lawful kept (es ++ (e ∷ [])) τ (state_next kept es σ e h τ n)))

    pub after_closed : Closed rules es → sum_of longer ≡ sum_of es
    unfolding Closed
    after_closed c =
        let before = c.0 in
        let joined : longer ≡ before ++ (entry silence [] ∷ e ∷ more)
        = ap (λ (l : List Entry). l ++ (e ∷ more)) c.1.1 ∙ append_assoc before (entry silence [] ∷ []) (e ∷ more) in
        ap sum_of joined
        ∙ (closed_zeros before (e ∷ more) c.1.0 ∙ sym (ap sum_of c.1.1 ∙ closed_zeros before [] c.1.0))

    broken_zeros : Lawful rules es → (Lawful rules (es ++ (e ∷ [])) → ⊥) → sum_of longer ≡ sum_of es
    unfolding Lawful Open
    broken_zeros l never =
        ⊎_elim (λ s. read_zeros done (session_run rules es s) never)
        (λ o. ⊎_elim (λ b. let r = beginning_run rules es b in read_zeros r.0 r.1.0 never) after_closed o)
        l

  pub break_zeros : (es : List Entry) (k : ℕ) → BreaksAt rules es k → sum_of es ≡ sum_of (take k es)
  break_zeros es k b =
      let inside = break_within kept es k b in
      let part = take k es in
      let e = get_or es k (entry 0 []) in
      let more = drop (suc k) es in
      let split : es ≡ part ++ (e ∷ more) = split_at es k (entry 0 []) inside in
      let one_more : take (k + 1) es ≡ part ++ (e ∷ []) =
      ap (λ (n : ℕ). take n es) (let e : k + 1 ≡ suc k = omega arith in e) ∙ take-suc es k (entry 0 []) inside in
      ap sum_of split ∙ broken_zeros part e more (b.before k (omega arith)) (λ l. b.broken (subst (Lawful rules) (sym one_more) l))

  -- ---- every list of entries has one fourth number, and it is this

  broken_found : (es : List Entry) (k : ℕ) → BreaksAt rules es k → Counts rules count es (sum_of es)
  broken_found es k b =
      broken k b (subst (SumOf rules count (take k es)) (sym (break_zeros es k b)) (lawful_sum (take k es) (b.before k (omega arith))))

  by_sort : (es : List Entry) → Sort rules es → Counts rules count es (sum_of es)
  unfolding Lawful
  by_sort es (finished s) = lawful (lawful_sum es (inl s))
  by_sort es (unfinished o) = lawful (lawful_sum es (inr o))
  by_sort es (neither s o) = let b = break_found kept es (λ l. ⊎_elim s o l) in broken_found es b.0 b.1

  pub zeros_found : (es : List Entry) → Counts rules count es (sum_of es)
  zeros_found es = by_sort es (sorted kept es)

  pub zeros_is : (es : List Entry) (n : ℕ) → Counts rules count es n → n ≡ sum_of es
  zeros_is es n (lawful s) = sum_is es n s
  zeros_is es n (broken k b s) = sum_is (take k es) n s ∙ sym (break_zeros es k b)

  pub zeros_once : (es : List Entry) (n m : ℕ) → Counts rules count es n → Counts rules count es m → n ≡ m
  zeros_once es n m a b = zeros_is es n a ∙ sym (zeros_is es m b)

  -- a longer list has no smaller one
  pub zeros_longer : (es more : List Entry) (n m : ℕ) → Counts rules count es n → Counts rules count (es ++ more) m → n ≤ m
  zeros_longer es more n m a b =
      let first = zeros_is es n a in
      let second = zeros_is (es ++ more) m b in
      let h = zeros_grow rules count es more (at opens) in
      omega arith
