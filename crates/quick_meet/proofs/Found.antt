-- What is found of a tape from a block on, by what stands there: at each phase the entry that is due leads on, and anything else is said
-- of the tape at once.
-- Assumes nothing.
use mathlib.Core.Path.{◌≡◌, refl, sym, ap, ◌∙◌}
use mathlib.Core.Bool.{true, false}
use mathlib.Core.List.{List}
use Prim.Native.Nat.{ℕ, ◌+◌, ◌^◌, ◌<◌}
use native.Mathlib.Omega.{arith}
use lib.Dec.{eqb}
use lib.ListN.{length}
use lib.Pow.{are_bytes}
use borrow.Author.Tests.{eqb-true, eqb-false}
use Rattle.slices.specs.Choice.{pick}
use Rattle.slices.specs.Tests.{alike}
use Rattle.slices.proofs.Choice.{pick_yes, pick_no, either}
use Rattle.slices.proofs.Comparing.{alike_same}
use Rattle.slices.proofs.Cutting.{none_left}
use Rattle.numbers.specs.Tables.{command, answer, silence, decision}
use Rattle.tape_read.specs.Entries.{entry}
use Rattle.dol_fill.specs.Filled.{summed}
use Rattle.rulebook.specs.Situation.{Situation}
use Rattle.rulebook.specs.Phase.{Asked, Heard, Phase, asks, hears, decides, command_of, due_kind, decision_of}
use Rattle.rulebook.specs.Turn.{turn, allowed, after}
use Rattle.rulebook.specs.Machine.{at, owes, done}
use Rattle.rulebook_zeros.specs.Zeros.{unsupplied_asking, unsupplied_in}
use Rattle.rulebook.specs.Session.{rules}
use Rattle.verdict_under.specs.Summing as Sums
use Rattle.rulebook_zeros.specs.Summing.{new_in}
use Rattle.verdict.specs.Saying.{says, finds}
use Rattle.verdict.specs.declared.Verdict.TheVariants.{Pass, Fail, Inconclusive}
use Rattle.verdict.specs.declared.Finding.{Finding}
use Rattle.verdict_judged.specs.Progress.{reached, closed, broken, reads}
use Rattle.verdict_under.proofs.Taking.{reads_heard, heard_invalid, heard_missing, reads_command, command_wrong, command_missing}
use Rattle.verdict_under.proofs.Taking.{reads_answer, reads_silence, silence_wrong, answer_missing, reads_decision}
use Rattle.verdict_under.proofs.Taking.{decision_wrong, decision_missing, reads_after_end}
use Rattle.quick_said.specs.Said.{entries_from, said_from, found_from}
use Rattle.quick_said.proofs.Reading.{sum_none, sum_small, phase_end, owes_end, done_end}
use Rattle.quick_meet.specs.Meeting.{is_end, ends, breaks, goes_on, kind_at, payload_at}
use Rattle.quick_meet.specs.Meeting.{word_met, silence_met, answer_met, exchange_met, last_met, decision_met}
use Rattle.quick_meet.proofs.OneBlock.{different, none_left_there, payload_there, read_one, breaks_here, as_kind}
use Rattle.quick_meet.proofs.OneBlock.{met, at_ends, at_breaks, at_stands, broken_here, closed_found}

-- ---- the card's answer, or its silence

module _ (t : List ℕ) (bytes : are_bytes t ≡ true) (k z : ℕ) (small : z < 2 ^ 64) (w : Asked) where
  abbrev answered : Finding
  answered = found_from (turn w (payload_at k t)) (k + 1) z t

  abbrev owed : Finding
  owed = said_from (reached (owes w) k) z (entries_from k t)

  nothing_new : new_in (owes w) ≡ 0
  unfolding Sums.new_in
  nothing_new = refl

  silence_found : is_end t k ≡ false → eqb (kind_at k t) answer ≡ false → owed ≡ goes_on (silence_met k t) z answered
  unfolding silence_met Sums.new_in
  silence_found n a =
      let p = payload_at k t in
      let other = eqb-false (kind_at k t) answer a in
      let broken_at = broken_here t bytes k z small answered (owes w) nothing_new n in
      either (eqb (kind_at k t) silence)
      (λ y.
      let e = as_kind t bytes k silence (eqb-true (kind_at k t) silence y) (reached (owes w) k) in
      met t bytes k z small answered (pick_yes _ _ _ y)
      (either (eqb (length p) 0)
      (λ v.
      met t bytes k z small answered (pick_yes _ _ _ v)
      (read_one t bytes k (owes w) z (closed (k + 1)) n (e ∙ reads_silence rules k w p (none_left p (eqb-true (length p) 0 v)))
      ∙ (ap (λ (x : ℕ). said_from (closed (k + 1)) x (entries_from (k + 1) t)) (sum_none z small)
      ∙ closed_found t bytes (k + 1) z small answered)))
      (λ v.
      met t bytes k z small answered (pick_no _ _ _ v)
      (broken_at (e ∙ silence_wrong rules k w p (λ q. eqb-false (length p) 0 v (ap length q)))))))
      (λ s.
      met t bytes k z small answered (pick_no _ _ _ s)
      (broken_at (answer_missing rules k w p (kind_at k t) other (eqb-false (kind_at k t) silence s))))

  pub answer_found : owed ≡ goes_on (answer_met k t) z answered
  unfolding answer_met Sums.new_in found_from
  answer_found =
      let p = payload_at k t in
      either (is_end t k)
      (λ y.
      met t bytes k z small answered (pick_yes _ _ _ y)
      (ap (said_from (reached (owes w) k) z) (none_left_there t bytes k y)
      ∙ (owes_end k z w ∙ (ap (finds (says Inconclusive k 0)) (sum_none z small) ∙ sym (at_ends t bytes k z small answered k)))))
      (λ n.
      met t bytes k z small answered (pick_no _ _ _ n)
      (either (eqb (kind_at k t) answer)
      (λ y.
      met t bytes k z small answered (pick_yes _ _ _ y)
      (read_one t bytes k (owes w) z (reached (at (turn w p)) (k + 1)) n
      (as_kind t bytes k answer (eqb-true (kind_at k t) answer y) (reached (owes w) k) ∙ reads_answer rules k w p (payload_there t bytes k))
      ∙ (ap (λ (x : ℕ). said_from (reached (at (turn w p)) (k + 1)) x (entries_from (k + 1) t)) (sum_none z small)
      ∙ sym (at_stands t bytes k z small answered))))
      (λ a. met t bytes k z small answered (pick_no _ _ _ a) (silence_found n a))))

-- ---- a command and its answer

module _ (t : List ℕ) (bytes : are_bytes t ≡ true) (k z : ℕ) (w : Asked) where
  -- with what its list lacks
  abbrev filled : ℕ
  filled = summed z (unsupplied_asking w)

  abbrev onward : Finding
  onward = found_from (turn w (payload_at (k + 1) t)) (k + 2) filled t

  abbrev asked : Finding
  asked = found_from (asks w) k z t

  small_sum : filled < 2 ^ 64
  small_sum = sum_small z (unsupplied_asking w)

  asked_broken : is_end t k ≡ false → reads (reached (at (asks w)) k) (entry (kind_at k t) (payload_at k t)) ≡ broken k
      → asked ≡ goes_on (breaks k) filled onward
  unfolding found_from Sums.new_in unsupplied_in
  asked_broken n e = breaks_here t bytes k (at (asks w)) z n e ∙ sym (at_breaks t bytes k filled small_sum onward k)

  asked_answered : is_end t k ≡ false → eqb (kind_at k t) command ≡ true → alike (payload_at k t) (command_of w) ≡ true
      → asked ≡ goes_on (answer_met (k + 1) t) filled onward
  unfolding found_from Sums.new_in unsupplied_in
  asked_answered n y v =
      let p = payload_at k t in
      let next : k + 1 + 1 ≡ k + 2 = omega arith in
      read_one t bytes k (at (asks w)) z (reached (owes w) (k + 1)) n
      (as_kind t bytes k command (eqb-true (kind_at k t) command y) (reached (at (asks w)) k)
      ∙ reads_command rules k w p (alike_same p (command_of w) v))
      ∙ (answer_found t bytes (k + 1) filled small_sum w
      ∙ ap (λ (n : ℕ). goes_on (answer_met (k + 1) t) filled (found_from (turn w (payload_at (k + 1) t)) n filled t)) next)

  asked_end : is_end t k ≡ true → asked ≡ goes_on (ends k) filled onward
  unfolding found_from unsupplied_in
  asked_end y =
      ap (said_from (reached (at (asks w)) k) z) (none_left_there t bytes k y)
      ∙ (phase_end k z (asks w) ∙ sym (at_ends t bytes k filled small_sum onward k))

  pub asks_found : asked ≡ goes_on (exchange_met (command_of w) k t) filled onward
  unfolding exchange_met
  asks_found =
      let p = payload_at k t in
      let c = command_of w in
      either (is_end t k)
      (λ y. met t bytes k filled small_sum onward (pick_yes _ _ _ y) (asked_end y))
      (λ n.
      met t bytes k filled small_sum onward (pick_no _ _ _ n)
      (either (eqb (kind_at k t) command)
      (λ y.
      met t bytes k filled small_sum onward (pick_yes _ _ _ y)
      (either (alike p c) (λ v. met t bytes k filled small_sum onward (pick_yes _ _ _ v) (asked_answered n y v))
      (λ v. met t bytes k filled small_sum onward (pick_no _ _ _ v)
      (asked_broken n (command_wrong rules k w p (kind_at k t) (different p c v))))))
      (λ o.
      met t bytes k filled small_sum onward (pick_no _ _ _ o)
      (asked_broken n (command_missing rules k w p (kind_at k t) (eqb-false (kind_at k t) command o))))))

-- ---- somebody else's word

module _ (t : List ℕ) (bytes : are_bytes t ≡ true) (k z : ℕ) (small : z < 2 ^ 64) where
  module _ (h : Heard) where
    abbrev said : Finding
    said = pick (allowed h (payload_at k t)) (found_from (after h (payload_at k t)) (k + 1) z t) (finds (says Fail k 0) z)

    abbrev due : Finding
    due = found_from (hears h) k z t

    heard_broken : is_end t k ≡ false → reads (reached (at (hears h)) k) (entry (kind_at k t) (payload_at k t)) ≡ broken k
        → due ≡ finds (says Fail k 0) z
    unfolding found_from Sums.new_in unsupplied_in
    heard_broken n e = breaks_here t bytes k (at (hears h)) z n e ∙ ap (finds (says Fail k 0)) (sum_none z small)

    heard_said : is_end t k ≡ false → kind_at k t ≡ due_kind h → due ≡ said
    unfolding found_from Sums.new_in unsupplied_in
    heard_said n e =
        let p = payload_at k t in
        let named = as_kind t bytes k (due_kind h) e (reached (at (hears h)) k) in
        either (allowed h p)
        (λ y.
        read_one t bytes k (at (hears h)) z (reached (at (after h p)) (k + 1)) n
        (named ∙ reads_heard rules k h p y (payload_there t bytes k))
        ∙ (ap (λ (x : ℕ). said_from (reached (at (after h p)) (k + 1)) x (entries_from (k + 1) t)) (sum_none z small)
        ∙ sym (pick_yes _ _ _ y)))
        (λ f. heard_broken n (named ∙ heard_invalid rules k h p f) ∙ sym (pick_no _ _ _ f))

    heard_end : is_end t k ≡ true → due ≡ goes_on (ends k) z said
    unfolding found_from unsupplied_in
    heard_end y =
        ap (said_from (reached (at (hears h)) k) z) (none_left_there t bytes k y)
        ∙ (phase_end k z (hears h) ∙ (ap (finds (says Inconclusive k 0)) (sum_none z small) ∙ sym (at_ends t bytes k z small said k)))

    pub hears_found : due ≡ goes_on (word_met (due_kind h) k t) z said
    unfolding word_met
    hears_found =
        either (is_end t k)
        (λ y. met t bytes k z small said (pick_yes _ _ _ y) (heard_end y))
        (λ n.
        met t bytes k z small said (pick_no _ _ _ n)
        (either (eqb (kind_at k t) (due_kind h))
        (λ y.
        met t bytes k z small said (pick_yes _ _ _ y)
        (heard_said n (eqb-true (kind_at k t) (due_kind h) y) ∙ sym (at_stands t bytes k z small said)))
        (λ o.
        met t bytes k z small said (pick_no _ _ _ o)
        (heard_broken n (heard_missing rules k h (payload_at k t) (kind_at k t) (eqb-false (kind_at k t) (due_kind h) o))
        ∙ sym (at_breaks t bytes k z small said k)))))

  -- ---- the decision

  module _ (outcome reason : ℕ) (s : Situation) where
    abbrev phase : Phase
    phase = decides outcome reason s

    abbrev last : Finding
    last = last_met (k + 1) z t

    abbrev right : Finding
    right = pick (alike (payload_at k t) (decision_of outcome reason s)) last (finds (says Fail k 0) z)

    abbrev decided : Finding
    decided = found_from phase k z t

    decided_broken : is_end t k ≡ false → reads (reached (at phase) k) (entry (kind_at k t) (payload_at k t)) ≡ broken k
        → decided ≡ finds (says Fail k 0) z
    unfolding found_from Sums.new_in unsupplied_in
    decided_broken n e = breaks_here t bytes k (at phase) z n e ∙ ap (finds (says Fail k 0)) (sum_none z small)

    over : said_from (reached done (k + 1)) z (entries_from (k + 1) t) ≡ last
    unfolding last_met Sums.new_in
    over =
        let j = k + 1 in
        either (is_end t j)
        (λ y.
        ap (said_from (reached done j) z) (none_left_there t bytes j y)
        ∙ (done_end j z ∙ (ap (finds (says Pass j 0)) (sum_none z small) ∙ sym (pick_yes _ _ _ y))))
        (λ n.
        breaks_here t bytes j done z n (reads_after_end rules j _)
        ∙ (ap (finds (says Fail j 0)) (sum_none z small) ∙ sym (pick_no _ _ _ n)))

    decided_said : is_end t k ≡ false → kind_at k t ≡ decision → decided ≡ right
    unfolding found_from Sums.new_in unsupplied_in
    decided_said n e =
        let p = payload_at k t in
        let d = decision_of outcome reason s in
        either (alike p d)
        (λ y.
        read_one t bytes k (at phase) z (reached done (k + 1)) n
        (as_kind t bytes k decision e (reached (at phase) k) ∙ reads_decision rules k outcome reason s p (alike_same p d y))
        ∙ (ap (λ (x : ℕ). said_from (reached done (k + 1)) x (entries_from (k + 1) t)) (sum_none z small)
        ∙ (over ∙ sym (pick_yes _ _ _ y))))
        (λ f. decided_broken n (decision_wrong rules k outcome reason s p (kind_at k t) (different p d f)) ∙ sym (pick_no _ _ _ f))

    decided_end : is_end t k ≡ true → decided ≡ goes_on (ends k) z right
    unfolding found_from unsupplied_in
    decided_end y =
        ap (said_from (reached (at phase) k) z) (none_left_there t bytes k y)
        ∙ (phase_end k z phase ∙ (ap (finds (says Inconclusive k 0)) (sum_none z small) ∙ sym (at_ends t bytes k z small right k)))

    pub decides_found : decided ≡ decision_met (decision_of outcome reason s) k z t
    unfolding decision_met word_met
    decides_found =
        either (is_end t k)
        (λ y. met t bytes k z small right (pick_yes _ _ _ y) (decided_end y))
        (λ n.
        met t bytes k z small right (pick_no _ _ _ n)
        (either (eqb (kind_at k t) decision)
        (λ y.
        met t bytes k z small right (pick_yes _ _ _ y)
        (decided_said n (eqb-true (kind_at k t) decision y) ∙ sym (at_stands t bytes k z small right)))
        (λ o.
        met t bytes k z small right (pick_no _ _ _ o)
        (decided_broken n (decision_missing rules k outcome reason s (payload_at k t) (kind_at k t) (eqb-false (kind_at k t) decision o))
        ∙ sym (at_breaks t bytes k z small right k)))))
