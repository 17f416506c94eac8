-- Verdicts of tapes as they are written: what was stored in order reads back as exactly those entries, so a tape has the verdict of its
-- entries, and one whose writing was cut short is an unfinished beginning.
-- Assumes nothing.
use mathlib.Core.Path.{◌≡◌, refl, sym, ap}
use mathlib.Core.Bool.{true}
use mathlib.Core.List.{List, [], ◌∷◌, ◌++◌}
use mathlib.Core.Logic.{inl}
use Prim.Native.Nat.{ℕ, ◌+◌, ◌*◌, ◌^◌, ◌≤◌, ◌<◌}
use native.Mathlib.Omega.{arith}
use lib.ListN.{length, take, length-append}
use lib.Seq.{length-take-le}
use Rattle.slices.proofs.Choice.{and_both}
use Rattle.numbers.specs.Tables.{answer, silence, is_kind}
use Rattle.tape_read.specs.Entries.{Entry, entry, block_size, blocks_most, storable, all_storable}
use Rattle.tape_read.specs.Tapes.{written}
use Rattle.tape_write.specs.Appending.{append_all, fresh}
use Rattle.tape_read.proofs.Roundtrip.{first_storable, rest_storable, tape_back, cut_back}
use Rattle.tape_write.proofs.Growing.{appends_read}
use Rattle.sessions.specs.Rules.{Rules}
use Rattle.sessions.specs.Session.{Session, AwaitsCard, Open}
use Rattle.sessions.specs.Kept.{Kept}
use Rattle.sessions.proofs.Breaks.{session_part}
use Rattle.verdict.specs.Saying.{says}
use Rattle.verdict_under.specs.Judged.{JudgesUnder, passes, undecided, JudgedUnder, readable}
use Rattle.verdict.specs.declared.Verdict.TheVariants.{Pass, Inconclusive}
use Rattle.verdict.specs.declared.Ruling.{Ruling}
use Rattle.verdict_under.proofs.Silence.{closing_silence}

pub storable_append : (es fs : List Entry) → all_storable es ≡ true → all_storable fs ≡ true → all_storable (es ++ fs) ≡ true
unfolding all_storable
storable_append [] fs h k = k
storable_append (e ∷ es) fs h k = and_both _ _ (first_storable e es h) (storable_append es fs (rest_storable e es h) k)

module _ {A H S : Type 0} {rules : Rules A H S} (s : ℕ) (number : s < 2 ^ 32) (es : List Entry) (fit : all_storable es ≡ true) where
  module _ (few : length es ≤ blocks_most) (a : Ruling) (j : JudgesUnder rules es a) where
    -- blocks stored in order have the verdict of their entries,
    pub written_judged : JudgedUnder rules (written 0 s es) a
    written_judged = readable es (tape_back s es fit few number) j

    -- and so has what a writer appended on an empty tape
    pub appended_judged : (t : List ℕ) → length es * block_size ≤ length t
        → JudgedUnder rules (take (length es * block_size) (append_all (fresh s) es t).tape) a
    appended_judged t room = readable es (appends_read s es t fit few room number) j

module _ {A H S : Type 0} {rules : Rules A H S} (kept : Kept rules) where
  -- an unfinished beginning of a session: as many entries as are there
  pub part_judges : (es : List Entry) (k : ℕ) → Session rules es → k < length es → JudgesUnder rules (take k es) (says Inconclusive k 0)
  unfolding Open
  part_judges es k s h =
      undecided (inl (session_part kept es k h s)) (ap (λ (n : ℕ). says Inconclusive n 0) (sym (length-take-le k es (omega arith))))

  -- where every session fits a tape
  module _ (fits : (es : List Entry) → Session rules es → length es ≤ blocks_most) where
    -- what waits for the card leaves room for one block more
    waiting_fits : (es : List Entry) → AwaitsCard rules es → length (es ++ (entry silence [] ∷ [])) ≤ blocks_most
    unfolding AwaitsCard
    waiting_fits es a =
        omega
        (arith, length-append es (entry silence [] ∷ []), length-append es (entry answer a.0 ∷ a.1.0), fits _ a.1.1)

    module _ (s : ℕ) (number : s < 2 ^ 32) (es : List Entry) (fit : all_storable es ≡ true) where
      module _ (session : Session rules es) where
        -- a session's tape passes
        pub session_judged : JudgedUnder rules (written 0 s es) (says Pass (length es) 0)
        session_judged = written_judged s number es fit (fits es session) _ (passes session refl)

        -- cut after any block before the last, it is inconclusive
        pub cut_judged : (k : ℕ) → k < length es → JudgedUnder rules (take (k * block_size) (written 0 s es)) (says Inconclusive k 0)
        cut_judged k h = readable (take k es) (cut_back k s es fit (fits es session) number) (part_judges es k session h)

      -- one closing silence after what waits for the card, stored too, leaves it inconclusive
      pub closed_judged : AwaitsCard rules es
          → JudgedUnder rules (written 0 s (es ++ (entry silence [] ∷ []))) (says Inconclusive (length es + 1) 0)
      unfolding all_storable storable is_kind
      closed_judged a =
          readable _ (tape_back s (es ++ (entry silence [] ∷ [])) (storable_append es (entry silence [] ∷ []) fit refl)
          (waiting_fits es a) number)
          (closing_silence kept es a)
