-- The verdicts of sessions as they are stored: since every session can be stored, nothing is asked of its entries.
-- Assumes nothing.
use mathlib.Core.Path.{◌≡◌, refl}
use mathlib.Core.Bool.{true}
use mathlib.Core.List.{List, [], ◌∷◌, ◌++◌}
use Prim.Native.Nat.{ℕ, ◌+◌, ◌*◌, ◌^◌, ◌≤◌, ◌<◌}
use native.Mathlib.Omega.{arith}
use lib.ListN.{length, take, length-append}
use Rattle.slices.proofs.Choice.{and_both}
use Rattle.numbers.specs.Tables.{silence}
use Rattle.tape_read.specs.Entries.{Entry, entry, block_size, blocks_most, storable, all_storable}
use Rattle.tape_read.specs.Tapes.{written}
use Rattle.tape_write.specs.Appending.{append_all, fresh}
use Rattle.rulebook.specs.Session.{Session, AwaitsCard}
use Rattle.rulebook.proofs.Bound.{session_bound}
use Rattle.rulebook.proofs.Kept.{kept}
use Rattle.verdict.specs.Saying.{says}
use Rattle.verdict_judged.specs.Judged.{passes, Judged}
use Rattle.verdict.specs.declared.Verdict.TheVariants.{Pass, Fail, Inconclusive}
use Rattle.verdict_under.proofs.Stored.{storable_append, written_judged, appended_judged, session_judged, cut_judged, closed_judged}
use Rattle.verdict_judged.proofs.Stored.{session_fits}
use Rattle.verdict_under.proofs.Endings.{after_decision}
use Rattle.verdict_storable.proofs.Theorem.{session_storable, awaiting_storable}

module _ (number : ℕ) (known : number < 2 ^ 32) (es : List Entry) where
  module _ (session : Session es) where
    fit : all_storable es ≡ true
    fit = session_storable es session

    -- a finished session, written block by block, passes,
    pub session_recorded : Judged (written 0 number es) (says Pass (length es) 0)
    session_recorded = session_judged kept session_fits number known es fit session

    -- and so it does as a writer appended it on an empty tape;
    pub session_appended : (t : List ℕ) → length es * block_size ≤ length t
        → Judged (take (length es * block_size) (append_all (fresh number) es t).tape) (says Pass (length es) 0)
    session_appended = appended_judged number known es fit (session_fits es session) (says Pass (length es) 0) (passes session refl)

    -- cut after any block before the last, it is inconclusive;
    pub session_cut : (k : ℕ) → k < length es → Judged (take (k * block_size) (written 0 number es)) (says Inconclusive k 0)
    session_cut = cut_judged kept session_fits number known es fit session

    -- with any one entry more that can be stored, it fails at that entry
    pub session_exceeded : (e : Entry) → storable e ≡ true → Judged (written 0 number (es ++ (e ∷ []))) (says Fail (length es) 0)
    unfolding all_storable
    session_exceeded e h =
        let longer = es ++ (e ∷ []) in
        let few : length longer ≤ blocks_most = omega (arith, length-append es (e ∷ []), session_bound es session) in
        written_judged number known longer (storable_append es (e ∷ []) fit (and_both (storable e) true h refl)) few
        (says Fail (length es) 0)
        (after_decision kept es e [] session)

  -- closed by one silence, what waits for the card is inconclusive
  pub silence_recorded : AwaitsCard es → Judged (written 0 number (es ++ (entry silence [] ∷ []))) (says Inconclusive (length es + 1) 0)
  silence_recorded a = closed_judged kept session_fits number known es (awaiting_storable es a) a
