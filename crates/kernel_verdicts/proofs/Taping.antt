-- What any calls leave on a tape with room: the blocks of their log, one after the other, and nothing else changed.
-- Assumes nothing.
use mathlib.Core.Path.{◌≡◌, refl, sym, ap, ap₂, ◌∙◌}
use mathlib.Core.Bool.{true}
use mathlib.Core.List.{List, [], ◌∷◌, ◌++◌, append_assoc, append-nil}
use Prim.Native.Nat.{ℕ, ◌+◌, ◌*◌, ◌≤◌}
use native.Mathlib.Nat.{add-zero}
use native.Mathlib.Omega.{arith}
use lib.ListN.{length, take, drop, length-append}
use lib.Seq.{take_at}
use Rattle.slices.specs.Writing.{put}
use Rattle.slices.proofs.Writing.{put_length, put_start, put_step, put_nothing}
use Rattle.tape_read.specs.Entries.{Entry, block_size, blocks_most, tape_most, all_storable}
use Rattle.tape_read.specs.Blocks.{block}
use Rattle.tape_read.specs.Tapes.{written}
use Rattle.tape_read.proofs.Roundtrip.{rest_storable, written_length}
use Rattle.verdict_storable.proofs.Theorem.{front_storable}
use Rattle.tape_write.specs.Appending.{fresh}
use Rattle.tape_write.specs.declared.Writer.{Writer}
use Rattle.kernel.specs.declared.Session.{Session}
use Rattle.session_phase.specs.declared.Reply.{Reply}
use Rattle.session_phase.specs.declared.Reply.TheVariants.{Command, Due, Decided, Closed, Refused}
use Rattle.kernel.specs.Calls.{Called, fresh_session}
use Rattle.kernel_laws.specs.Log.{Call, made, logged, logged_by, Played, after, plays_from, plays}
use Rattle.kernel_record.specs.Recording.{Kept, kept, grown, kept_all, recorded}
use Rattle.kernel_record.proofs.Refusing.{Fitting, none_wrong, fits_call}
use Rattle.kernel_record.proofs.Keeping.{further, all_kept}
use Rattle.kernel_verdicts.specs.Taping.{Taped, taped_by, taped, taped_from, recorded_all, tape_of}

-- ---- the log of calls, from any session on

pub log_from : Session → List Call → List Entry
log_from s [] = []
log_from s (c ∷ cs) = logged_by (made s c) c.event ++ log_from (made s c).session cs

log_from_lem : (cs : List Call) (p : Played) → (plays_from p cs).log ≡ p.log ++ log_from p.session cs
unfolding plays_from after log_from
log_from_lem [] p = sym (append-nil p.log)
log_from_lem (c ∷ cs) p =
    log_from_lem cs (after p c)
    ∙ append_assoc p.log (logged_by (made p.session c) c.event) (log_from (made p.session c).session cs)

-- what is recorded of a call is what is logged of it
recorded_logged : (q : Reply) (r : Called) (e : Entry) → recorded e q r.buffer r.session ≡ logged q r e
unfolding recorded logged
recorded_logged (Command n) r e = refl
recorded_logged (Due kind) r e = refl
recorded_logged Decided r e = refl
recorded_logged Closed r e = refl
recorded_logged (Refused n) r e = refl

same_session : (cs : List Call) (q : Taped) (p : Played) → q.session ≡ p.session → (taped_from q cs).session ≡ (plays_from p cs).session
unfolding taped_from taped taped_by plays_from after
same_session [] q p h = h
same_session (c ∷ cs) q p h = same_session cs (taped q c) (after p c) (ap (λ (s : Session). (made s c).session) h)

-- ---- some entries, and then others

back_storable : (es fs : List Entry) → all_storable (es ++ fs) ≡ true → all_storable fs ≡ true
back_storable [] fs h = h
back_storable (e ∷ es) fs h = back_storable es fs (rest_storable e (es ++ fs) h)

written_append : (n s : ℕ) (es fs : List Entry) → written n s (es ++ fs) ≡ written n s es ++ written (n + length es) s fs
unfolding written
written_append n s [] fs = ap (λ (k : ℕ). written k s fs) (sym (add-zero n))
written_append n s (e ∷ es) fs =
    let place : n + 1 + length es ≡ n + length (e ∷ es) = omega arith in
    ap (◌++◌ (block n s e)) (written_append (n + 1) s es fs ∙ ap (λ (k : ℕ). written (n + 1) s es ++ written k s fs) place)
    ∙ sym (append_assoc (block n s e) (written (n + 1) s es) (written (n + length (e ∷ es)) s fs))

module _
    (w : Writer) (es : List Entry) (t : List ℕ) (good : all_storable es ≡ true)
    (room : (w.used + length es) * block_size ≤ length t)
  where
    abbrev laid : List ℕ
    laid = put (written w.used w.session es) (w.used * block_size) t

    laid_length : length laid ≡ length t
    laid_length =
        let size = written_length w.used w.session es good in
        put_length (written w.used w.session es) (w.used * block_size) t (omega arith)

    grown_more : (fs : List Entry) → grown (further w (length es)) fs laid ≡ grown w (es ++ fs) t
    unfolding grown
    grown_more fs =
        let front = written w.used w.session es in
        let back = written (w.used + length es) w.session fs in
        let size = written_length w.used w.session es good in
        let place : (w.used + length es) * block_size ≡ w.used * block_size + length front = omega arith in
        let count : w.used + length es + length fs ≡ w.used + length (es ++ fs) = omega (arith, length-append es fs) in
        ap₂ kept
        (ap (λ (n : ℕ). record { writer = record { used = n; session = w.session }; refusal = 0 }) count)
        (ap (λ (n : ℕ). put back n laid) place
        ∙ (sym (put_step front back (w.used * block_size) t (omega arith))
        ∙ ap (λ (x : List ℕ). put x (w.used * block_size) t) (sym (written_append w.used w.session es fs))))

-- ---- calls on a tape with room

abbrev standing : Session → Writer → List ℕ → Taped
standing s w t = record { session = s; kept = kept (record { writer = w; refusal = 0 }) t }

grown_none : (w : Writer) (t : List ℕ) → kept (record { writer = w; refusal = 0 }) t ≡ grown w [] t
unfolding grown written
grown_none w t =
    ap₂ (λ (n : ℕ) (u : List ℕ). kept (record { writer = record { used = n; session = w.session }; refusal = 0 }) u)
    (sym (add-zero w.used)) (sym (put_nothing (w.used * block_size) t))

one_taped : (s : Session) (w : Writer) (t : List ℕ) (c : Call) → Fitting w.used (logged_by (made s c) c.event) t
    → (taped (standing s w t) c).kept ≡ grown w (logged_by (made s c) c.event) t
unfolding taped taped_by logged_by kept
one_taped s w t c fits =
    let new = logged_by (made s c) c.event in
    ap (λ (es : List Entry). kept_all w es t) (recorded_logged (made s c).reply (made s c) c.event)
    ∙ all_kept w new t (fits_call w.used new t fits)

pub calls_taped : (cs : List Call) (s : Session) (w : Writer) (t : List ℕ) → all_storable (log_from s cs) ≡ true
    → w.used + length (log_from s cs) ≤ blocks_most → (w.used + length (log_from s cs)) * block_size ≤ length t
    → (taped_from (standing s w t) cs).kept ≡ grown w (log_from s cs) t
unfolding taped_from taped taped_by log_from grown
calls_taped [] s w t good few room = grown_none w t
calls_taped (c ∷ cs) s w t good few room =
    let new = logged_by (made s c) c.event in
    let s' = (made s c).session in
    let more = log_from s' cs in
    let size = length-append new more in
    let fit = front_storable new more good in
    let inside : (w.used + length new) * block_size ≤ length t = omega arith in
    let fits : Fitting w.used new t = record { right = none_wrong new fit; blocks = omega arith; bytes = inside } in
    let stays = laid_length w new t fit inside in
    ap (λ (k : Kept). (taped_from (record { session = s'; kept = k }) cs).kept) (one_taped s w t c fits)
    ∙ (calls_taped cs s' (further w (length new)) (laid w new t fit inside) (back_storable new more good) (omega arith) (omega arith)
    ∙ grown_more w new t fit inside more)

-- ---- from a fresh session

pub plays_log : (cs : List Call) → (plays cs).log ≡ log_from fresh_session cs
unfolding plays
plays_log cs = log_from_lem cs (record { session = fresh_session; log = [] })

module _ (cs : List Call) (number : ℕ) (t : List ℕ) where
  pub recorded_session : (recorded_all number t cs).session ≡ (plays cs).session
  unfolding recorded_all plays
  recorded_session = same_session cs _ _ refl

  module _ (good : all_storable (plays cs).log ≡ true) (few : length (plays cs).log ≤ blocks_most) (room : tape_most ≤ length t) where
    pub recorded_kept : (recorded_all number t cs).kept ≡ grown (fresh number) (plays cs).log t
    unfolding recorded_all
    recorded_kept =
        let same = plays_log cs in
        let size : length (log_from fresh_session cs) ≡ length (plays cs).log = ap length (sym same) in
        calls_taped cs fresh_session (fresh number) t (ap all_storable (sym same) ∙ good) (omega arith) (omega arith)
        ∙ ap (λ (es : List Entry). grown (fresh number) es t) (sym same)

-- ---- the blocks at the front of an empty tape

module _ (number : ℕ) (es : List Entry) (t : List ℕ) (good : all_storable es ≡ true) where
  pub grown_tape : (grown (fresh number) es t).tape ≡ written 0 number es ++ drop (length es * block_size) t
  unfolding grown kept
  grown_tape =
      put_start (written 0 number es) t
      ∙ ap (λ (n : ℕ). written 0 number es ++ drop n t) (written_length 0 number es good)

  pub grown_bytes : tape_of (grown (fresh number) es t) ≡ written 0 number es
  unfolding grown kept tape_of
  grown_bytes =
      let count : 0 + length es ≡ length es = omega arith in
      ap₂ (λ (n : ℕ) (u : List ℕ). take (n * block_size) u) count grown_tape
      ∙ take_at (written 0 number es) _ (length es * block_size) (written_length 0 number es good)

  pub grown_answer : (grown (fresh number) es t).answer ≡ record { writer = record { used = length es; session = number }; refusal = 0 }
  unfolding grown kept
  grown_answer =
      let count : 0 + length es ≡ length es = omega arith in
      ap (λ (n : ℕ). record { writer = record { used = n; session = number }; refusal = 0 }) count
