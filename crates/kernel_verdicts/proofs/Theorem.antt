-- The kernel, the recorder and the judge together: whatever calls a kernel session is played with, recorded as they are made they leave
-- exactly the blocks of its log, and that tape is PASS where the kernel has decided, INCONCLUSIVE everywhere else, a closing silence
-- included, and INCONCLUSIVE where it is cut before its last block. The kernel's log is a session of the rulebook or open, every such
-- list can be stored on a tape, and the judge's verdict is over the rulebook alone.
-- Assumes nothing.
use mathlib.Core.Path.{◌≡◌, refl, sym, ap, ◌∙◌, subst}
use mathlib.Core.Bool.{true, false}
use mathlib.Core.List.{List, [], ◌∷◌, ◌++◌}
use mathlib.Core.Logic.{inl, inr}
use Prim.Native.Nat.{ℕ, ◌*◌, ◌^◌, ◌<◌, ◌≤◌}
use native.Mathlib.Omega.{arith}
use lib.ListN.{length, take, drop, length-append}
use lib.Seq.{length-take-le}
use Rattle.slices.proofs.Choice.{either}
use Rattle.numbers.specs.Tables.{silence}
use Rattle.tape_read.specs.Entries.{Entry, entry, storable, block_size, blocks_most, tape_most}
use Rattle.tape_read.specs.Tapes.{written}
use Rattle.tape_read.proofs.Roundtrip.{tape_back, cut_back}
use Rattle.sessions.specs.Session as Under
use Rattle.sessions.proofs.Breaks.{part_begins}
use Rattle.rulebook.specs.Session.{Beginning, Open, Lawful}
use Rattle.rulebook.proofs.Bound.{session_bound}
use Rattle.rulebook.proofs.Kept.{kept}
use Rattle.verdict.specs.Saying.{says}
use Rattle.verdict_judged.specs.Judged.{Judges, passes, undecided, Judged, readable}
use Rattle.verdict_judged.specs.Zeroed.{Zeroed, readable as counted}
use Rattle.verdict.specs.declared.Ruling.{Ruling}
use Rattle.verdict.specs.declared.Verdict.TheVariants.{Pass, Fail, Inconclusive}
use Rattle.verdict_under.proofs.Stored.{written_judged}
use Rattle.verdict_judged.proofs.Stored.{session_fits}
use Rattle.verdict_storable.proofs.Theorem.{lawful_storable}
use Rattle.verdict_storable.proofs.Recorded.{session_exceeded}
use Rattle.kernel_laws.specs.Log.{Call, plays, all_bytes}
use Rattle.session_phase.specs.Waiting.{is_decided}
use Rattle.kernel_laws.specs.Saying.{Lawfully}
use Rattle.kernel_laws.proofs.Lawful.{any_calls}
use Rattle.kernel_laws.proofs.Counting.{plays_zeros}
use Rattle.kernel.specs.declared.Session.{Session as KernelSession}
use Rattle.kernel_record.specs.Recording.{Kept}
use Rattle.kernel_verdicts.specs.Taping.{recorded_all, tape_of}
use Rattle.kernel_verdicts.proofs.Taping.{recorded_session, recorded_kept, grown_tape, grown_bytes, grown_answer}

-- what is not finished fits a tape too
begun_fits : (es : List Entry) → Beginning es → length es < blocks_most
unfolding Under.Beginning
begun_fits es b =
    let rest = b.0 ∷ b.1.0 in
    omega (arith, session_bound (es ++ rest) b.1.1, length-append es rest)

open_fits : (es : List Entry) → Open es → length es ≤ blocks_most
unfolding Under.Open Under.Closed Under.AwaitsCard
open_fits es (inl b) = let h = begun_fits es b in omega arith
open_fits es (inr c) =
    let before = c.0 in
    let rest = entry 3 c.1.0.0 ∷ c.1.0.1.0 in
    omega (
      arith,
      session_bound (before ++ rest) c.1.0.1.1,
      length-append before rest,
      ap length c.1.1,
      length-append before (entry silence [] ∷ []),
    )

lawful_fits : (es : List Entry) → Lawful es → length es ≤ blocks_most
unfolding Under.Lawful
lawful_fits es (inl s) = session_fits es s
lawful_fits es (inr o) = open_fits es o

-- whatever breaks no rule, cut after any block before its last: as many entries as are left
lawful_cut : (number : ℕ) → number < 2 ^ 32 → (es : List Entry) → Lawful es → (k : ℕ) → k < length es
    → Judged (take (k * block_size) (written 0 number es)) (says Inconclusive k 0)
unfolding Under.Open
lawful_cut number known es l k h =
    readable (take k es) (cut_back k number es (lawful_storable es l) (lawful_fits es l) known)
    (undecided (inl (part_begins kept es k h l)) (ap (λ (n : ℕ). says Inconclusive n 0) (sym (length-take-le k es (omega arith)))))

module _ (cs : List Call) (bytes : all_bytes cs ≡ true) where
  said : Lawfully (plays cs).session (plays cs).log
  said = any_calls cs bytes

  lawful : Lawful (plays cs).log
  unfolding Under.Lawful
  lawful = either (is_decided (plays cs).session.state.waiting) (λ d. inl (said.finished d)) (λ n. inr (said.unfinished n))

  module _ (number : ℕ) (known : number < 2 ^ 32) where
    stored : (a : Ruling) → Judges (plays cs).log a → Judged (written 0 number (plays cs).log) a
    stored a j = written_judged number known (plays cs).log (lawful_storable _ lawful) (lawful_fits _ lawful) a j

    -- decided: PASS, with all entries
    pub decided_passes : is_decided (plays cs).session.state.waiting ≡ true
        → Judged (written 0 number (plays cs).log) (says Pass (length (plays cs).log) 0)
    decided_passes d = stored _ (passes (said.finished d) refl)

    -- not decided, whether it waits or was closed by silence: INCONCLUSIVE, with all entries
    pub undecided_inconclusive : is_decided (plays cs).session.state.waiting ≡ false
        → Judged (written 0 number (plays cs).log) (says Inconclusive (length (plays cs).log) 0)
    undecided_inconclusive d = stored _ (undecided (said.unfinished d) refl)

    -- cut after any block before the last, decided or not: INCONCLUSIVE, with the entries so far
    pub cut_inconclusive : (k : ℕ) → k < length (plays cs).log
        → Judged (take (k * block_size) (written 0 number (plays cs).log)) (says Inconclusive k 0)
    cut_inconclusive = lawful_cut number known (plays cs).log lawful

    -- one entry more after the decision: FAIL at that entry
    pub exceeded_fails : is_decided (plays cs).session.state.waiting ≡ true → (e : Entry) → storable e ≡ true
        → Judged (written 0 number ((plays cs).log ++ (e ∷ []))) (says Fail (length (plays cs).log) 0)
    exceeded_fails d = session_exceeded number known (plays cs).log (said.finished d)

-- ---- from the calls to the verdict

-- what any calls on a fresh session leave, recorded under a number on a tape that begins as t. Of every beginning of the calls it holds
-- too, so that no call on the way was turned away by the tape
pub record EndToEnd (cs : List Call) (number : ℕ) (t : List ℕ) : Type 0 where
  -- the session is the one that the calls make, and the writer has used a block for each entry of its log
  pub session : (recorded_all number t cs).session ≡ (plays cs).session
  pub answer : (recorded_all number t cs).kept.answer
      ≡ record { writer = record { used = length (plays cs).log; session = number }; refusal = 0 }
  -- the log's blocks stand at the front of the buffer, and behind them nothing has changed
  pub buffer : (recorded_all number t cs).kept.tape ≡ written 0 number (plays cs).log ++ drop (length (plays cs).log * block_size) t
  pub tape : tape_of (recorded_all number t cs).kept ≡ written 0 number (plays cs).log
  -- its verdict, where the session is decided, where it is not, and cut after any block before the last
  pub decided : is_decided (recorded_all number t cs).session.state.waiting ≡ true
      → Judged (tape_of (recorded_all number t cs).kept) (says Pass (length (plays cs).log) 0)
  pub waiting : is_decided (recorded_all number t cs).session.state.waiting ≡ false
      → Judged (tape_of (recorded_all number t cs).kept) (says Inconclusive (length (plays cs).log) 0)
  pub cut : (k : ℕ) → k < length (plays cs).log
      → Judged (take (k * block_size) (tape_of (recorded_all number t cs).kept)) (says Inconclusive k 0)
  -- and its fourth number, decided or not, is the session's own
  pub zeros : Zeroed (tape_of (recorded_all number t cs).kept) (recorded_all number t cs).session.zeros

-- the fourth number of the log's blocks is that of the session
log_zeroed : (cs : List Call) → all_bytes cs ≡ true → (number : ℕ) → number < 2 ^ 32
    → Zeroed (written 0 number (plays cs).log) (plays cs).session.zeros
log_zeroed cs bytes number known =
    let log = (plays cs).log in
    let l = lawful cs bytes in
    counted log (tape_back number log (lawful_storable log l) (lawful_fits log l) known) (plays_zeros cs bytes)

same_verdict : {t u : List ℕ} {a : Ruling} → t ≡ u → Judged u a → Judged t a
same_verdict {a = a} same j = subst (λ (v : List ℕ). Judged v a) (sym same) j

pub end_to_end : (cs : List Call) → all_bytes cs ≡ true → (number : ℕ) → number < 2 ^ 32 → (t : List ℕ) → tape_most ≤ length t
    → EndToEnd cs number t
end_to_end cs bytes number known t room =
    let log = (plays cs).log in
    let good = lawful_storable log (lawful cs bytes) in
    let session = recorded_session cs number t in
    let all = recorded_kept cs number t good (lawful_fits log (lawful cs bytes)) room in
    let tape : tape_of (recorded_all number t cs).kept ≡ written 0 number log = ap tape_of all ∙ grown_bytes number log t good in
    let phase = ap (λ (s : KernelSession). is_decided s.state.waiting) session in
    record {
      session = session;
      answer = ap (λ (k : Kept). k.answer) all ∙ grown_answer number log t good;
      buffer = ap (λ (k : Kept). k.tape) all ∙ grown_tape number log t good;
      tape = tape;
      decided = λ d. same_verdict tape (decided_passes cs bytes number known (sym phase ∙ d));
      waiting = λ d. same_verdict tape (undecided_inconclusive cs bytes number known (sym phase ∙ d));
      cut = λ k h. same_verdict (ap (take (k * block_size)) tape) (cut_inconclusive cs bytes number known k h);
      zeros =
          subst (Zeroed (tape_of (recorded_all number t cs).kept)) (sym (ap (λ (s : KernelSession). s.zeros) session))
          (subst (λ (v : List ℕ). Zeroed v (plays cs).session.zeros) (sym tape) (log_zeroed cs bytes number known));
    }
