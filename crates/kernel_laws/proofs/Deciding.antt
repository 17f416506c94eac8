-- The log of a session that has decided ends with the decision that is read off the session: the call that decided it logged those
-- bytes, and nothing is taken after it.
-- Assumes nothing.
use mathlib.Core.Path.{◌≡◌, refl, sym, ap, ◌∙◌, subst}
use mathlib.Core.Bool.{true, false, false≢true}
use mathlib.Core.List.{List, [], ◌∷◌, ◌++◌, append_assoc}
use Prim.Native.Nat.{ℕ}
use lib.Pow.{are_bytes}
use Rattle.slices.proofs.Choice.{and_left, and_right}
use Rattle.numbers.specs.Tables.{decision}
use Rattle.tape_read.specs.Entries.{Entry, entry}
use Rattle.rulebook.specs.Phase.{Phase, asks, hears, decides}
use Rattle.session_phase.specs.Waiting.{is_decided}
use Rattle.session_phase.specs.declared.Waiting.{Waiting}
use Rattle.session_state.specs.Results.{decision_in}
use Rattle.session_state.specs.Keeping.{state_at, fresh}
use Rattle.session_moves.specs.Moves.{kept_as}
use Rattle.session_laws.specs.Logging.{logged as ruled}
use Rattle.session_laws.proofs.Reaching.{reached_fresh}
use Rattle.kernel.specs.declared.Session.{Session}
use Rattle.kernel.specs.Calls.{fresh_session}
use Rattle.kernel_laws.specs.Log.{Call, made, logged_by, Played, after, plays_from, plays, all_bytes}
use Rattle.kernel_laws.specs.Saying.{Gives, Replies, follows, closes, refuses}
use Rattle.kernel_laws.specs.Ending.{EndsDecided}
use Rattle.kernel_laws.proofs.Lasting.{Stands, going, stands_call}
use Rattle.kernel_laws.proofs.Refusing.{unchanged_after}
use Rattle.kernel_laws.proofs.Telling.{stands_replies}

undecided : (s : Session) (log : List Entry) (x : Waiting) → s.state.waiting ≡ x → is_decided x ≡ false → EndsDecided s log
undecided s log x e n d = absurd (false≢true (sym n ∙ (ap is_decided (sym e) ∙ d)))

module _ (p : Played) (c : Call) where
  abbrev s : Session
  s = (made p.session c).session

  abbrev longer : List Entry
  longer = p.log ++ logged_by (made p.session c) c.event

  by_phase_lem : (q : Phase) → Gives q c.buffer (made p.session c) → s.state.waiting ≡ kept_as q
      → logged_by (made p.session c) c.event ≡ c.event ∷ ruled q → EndsDecided s longer
  unfolding Gives kept_as is_decided ruled
  by_phase_lem (asks w) g k l = undecided s longer (kept_as (asks w)) k refl
  by_phase_lem (hears h) g k l = undecided s longer (kept_as (hears h)) k refl
  by_phase_lem (decides outcome reason z) g k l =
      λ d. (
        p.log ++ (c.event ∷ []),
        ap (λ (x : List Entry). p.log ++ x) (l ∙ ap (λ (x : List ℕ). c.event ∷ entry decision x ∷ []) (sym g.1))
            ∙ sym (append_assoc p.log (c.event ∷ []) (entry decision (decision_in s.state) ∷ [])),
      )

  by_reply : EndsDecided p.session p.log → Replies p c → EndsDecided s longer
  unfolding after is_decided
  by_reply h (follows f) = by_phase_lem f.phase f.gives f.waits f.grows
  by_reply h (closes e reply buffer k) = undecided s longer _ k.closed refl
  by_reply h (refuses n e u) = subst (λ (q : Played). EndsDecided q.session q.log) (sym (unchanged_after p c u)) h

ends_from : (cs : List Call) (p : Played) → all_bytes cs ≡ true → Stands p.session p.log → EndsDecided p.session p.log
    → EndsDecided (plays_from p cs).session (plays_from p cs).log
unfolding plays_from all_bytes after made
ends_from [] p bytes st h = h
ends_from (c ∷ cs) p bytes st h =
    let mine = and_left (are_bytes c.event.payload) (all_bytes cs) bytes in
    ends_from cs (after p c) (and_right (are_bytes c.event.payload) (all_bytes cs) bytes)
    (stands_call p.session p.log c.buffer c.event mine st)
    (by_reply p c h (stands_replies p c mine st))

pub decision_last : (cs : List Call) → all_bytes cs ≡ true → EndsDecided (plays cs).session (plays cs).log
unfolding plays fresh_session fresh state_at is_decided
decision_last cs bytes =
    ends_from cs (record { session = fresh_session; log = [] }) bytes (going reached_fresh) (undecided fresh_session [] _ refl refl)
