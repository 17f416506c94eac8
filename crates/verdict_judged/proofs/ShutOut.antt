-- The wrong judges that 01 names under "Pinning every answer down": for each a tape on which the right answer is another. A right one
-- exists, so that nothing here holds for want of any.
-- Assumes nothing.
use mathlib.Core.Path.{◌≡◌, refl, sym, ap, ◌∙◌}
use mathlib.Core.List.{List, [], ◌∷◌}
use mathlib.Core.Logic.{inl}
use Prim.Native.Nat.{ℕ}
use native.Mathlib.Omega.{arith}
use Rattle.numbers.specs.Tables.{start, command, is_kind}
use Rattle.tape_read.specs.Entries.{Entry, entry, storable, all_storable}
use Rattle.tape_read.specs.Tapes.{entries, read_tape, session_of, written}
use Rattle.tape_read.proofs.Steps.{read_end, tape_ragged, tape_blocks}
use Rattle.sessions.specs.Session as Under
use Rattle.sessions.proofs.Breaks.{begins_empty}
use Rattle.rulebook.specs.Session.{BreaksAt}
use Rattle.rulebook.proofs.Made.{start_of, select, tc}
use Rattle.rulebook.proofs.Offline.{offline, approved_offline}
use Rattle.rulebook_worked.proofs.ShutOut.{breaks_at_0, breaks_at_1}
use Rattle.rulebook.proofs.Kept.{kept}
use Rattle.verdict.specs.Saying.{says}
use Rattle.verdict_judged.specs.Judged.{undecided, fails, Judged, readable, damaged}
use Rattle.verdict.specs.declared.Verdict.{Verdict}
use Rattle.verdict.specs.declared.Verdict.TheVariants.{Pass, Fail, Inconclusive, Unreadable}
use Rattle.verdict.specs.declared.Ruling.{Ruling}
use Rattle.verdict_judged.proofs.Once.{judged_once}
use Rattle.verdict_judged.specs.Progress.{verdict_of}
use Rattle.verdict_judged.proofs.Meaning.{verdict_judged}
use Rattle.verdict_under.proofs.Stored.{written_judged, session_judged}
use Rattle.verdict_judged.proofs.Stored.{session_fits}

-- ---- named tapes

-- no input: INCONCLUSIVE 0 0
pub nothing_judged : Judged [] (says Inconclusive 0 0)
unfolding Under.Open
nothing_judged =
    readable [] (tape_blocks [] (omega arith) refl ∙ read_end 0 (session_of []) [] (omega arith)) (undecided (inl (begins_empty kept)) refl)

-- one byte, whichever: UNREADABLE 0 2
pub byte_judged : (b : ℕ) → Judged (b ∷ []) (says Unreadable 0 2)
byte_judged b = damaged 0 2 (tape_ragged (b ∷ []) (omega arith) (λ e. omega arith)) refl

-- a session approved offline: PASS 10 0
abbrev pub approved : List ℕ
approved = written 0 7 (offline 2 tc 1)

pub approved_judged : Judged approved (says Pass 10 0)
unfolding all_storable storable is_kind
approved_judged = session_judged kept session_fits 7 (omega arith) (offline 2 tc 1) refl approved_offline.0

-- a tape that begins with a command, and one with two STARTs: FAIL 0 0 and FAIL 1 0
abbrev pub unstarted : List Entry
unstarted = entry command select ∷ []

abbrev pub restarted : List Entry
restarted = entry start (start_of 2) ∷ entry start (start_of 2) ∷ []

pub unstarted_judged : Judged (written 0 7 unstarted) (says Fail 0 0)
unfolding all_storable storable is_kind
unstarted_judged = written_judged 7 (omega arith) unstarted refl (omega arith) _ (fails 0 breaks_at_0 refl)

pub restarted_judged : Judged (written 0 7 restarted) (says Fail 1 0)
unfolding all_storable storable is_kind
restarted_judged = written_judged 7 (omega arith) restarted refl (omega arith) _ (fails 1 breaks_at_1 refl)

-- ---- judges

abbrev pub Judge : Type 0
Judge = List ℕ → Ruling

abbrev pub Right : Judge → Type 0
Right j = (t : List ℕ) → Judged t (j t)

pub right_judge_lem : Right verdict_of
right_judge_lem = verdict_judged

module _ (j : Judge) (right : Right j) where
  -- a right judge has no choice
  pub no_choice : (t : List ℕ) (a : Ruling) → Judged t a → j t ≡ a
  no_choice t a h = judged_once (right t) h

  says_so : (t : List ℕ) (v : Verdict) (place code : ℕ) → Judged t (says v place code) → (j t).verdict ≡ v
  says_so t v place code h = ap (λ (a : Ruling). a.verdict) (no_choice t (says v place code) h)

  -- each verdict is right for some tape
  pub each_verdict : (v : Verdict) → (t : List ℕ) × ((j t).verdict ≡ v)
  each_verdict Pass = (approved, says_so approved Pass 10 0 approved_judged)
  each_verdict Fail = (written 0 7 restarted, says_so (written 0 7 restarted) Fail 1 0 restarted_judged)
  each_verdict Inconclusive = ([], says_so [] Inconclusive 0 0 nothing_judged)
  each_verdict Unreadable = (0 ∷ [], says_so (0 ∷ []) Unreadable 0 2 (byte_judged 0))

  -- so none is right for all: no input and one byte already have two
  pub not_fixed : (v : Verdict) → ((t : List ℕ) → (j t).verdict ≡ v) → ⊥
  not_fixed v wrong =
      let one : v ≡ Inconclusive = sym (wrong []) ∙ says_so [] Inconclusive 0 0 nothing_judged in
      let other : v ≡ Unreadable = sym (wrong (0 ∷ [])) ∙ says_so (0 ∷ []) Unreadable 0 2 (byte_judged 0) in
      let z : ◌≡◌ {A = ℕ} 0 1 = cc in
      omega arith

  -- and none can be left out
  pub not_without : (v : Verdict) → ((t : List ℕ) → (j t).verdict ≡ v → ⊥) → ⊥
  not_without v wrong = let e = each_verdict v in wrong e.0 e.1

  -- no place is right for all that fail,
  pub not_one_place : (m : ℕ) → ((t : List ℕ) → (j t).verdict ≡ Fail → (j t).place ≡ m) → ⊥
  not_one_place m wrong =
      let a = wrong (written 0 7 unstarted) (says_so _ Fail 0 0 unstarted_judged) in
      let b = wrong (written 0 7 restarted) (says_so _ Fail 1 0 restarted_judged) in
      let c = ap (λ (x : Ruling). x.place) (no_choice _ _ unstarted_judged) in
      let d = ap (λ (x : Ruling). x.place) (no_choice _ _ restarted_judged) in
      omega arith

  -- and for each there is one only: where the rules are first broken
  pub not_invented : (t : List ℕ) (es : List Entry) (k : ℕ) → read_tape t ≡ entries es → BreaksAt es k → j t ≡ says Fail k 0
  not_invented t es k r b = no_choice t _ (readable es r (fails k b refl))
