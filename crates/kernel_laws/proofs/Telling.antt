-- What is said after any calls from fresh is what the rulebook's phase for the log names, and so is what the last call gave: the
-- session stands at that phase, and the call was a step to it.
-- Assumes nothing.
use mathlib.Core.Path.{◌≡◌, sym, ap, ◌∙◌, subst}
use mathlib.Core.Bool.{true}
use mathlib.Core.List.{List, [], ◌∷◌, ◌++◌}
use Prim.Native.Nat.{ℕ}
use lib.Dec.{eqb}
use lib.Pow.{are_bytes}
use borrow.Author.Tests.{eqb-true, eqb-false}
use Rattle.slices.proofs.Choice.{either}
use Rattle.numbers.specs.Tables.{silence}
use Rattle.tape_read.specs.Entries.{Entry, entry}
use Rattle.session_events.specs.Events.{step}
use Rattle.session_laws.specs.Agreeing.{StandsAt}
use Rattle.session_laws.specs.Logging.{Reached}
use Rattle.kernel_refusals.specs.Refusals.{call_refusal}
use Rattle.kernel.specs.declared.Session.{Session}
use Rattle.kernel.specs.Calls.{Called, accepted, refused, closed_after, call}
use Rattle.kernel_laws.specs.Log.{Call, made, Played, plays, all_bytes}
use Rattle.kernel_laws.specs.Saying.{Follows, Named, Says, named, silenced, Silenced, Replies, follows, closes, refuses}
use Rattle.kernel_laws.proofs.Turning.{zero_or, call_taken, call_refused, taken_silence, taken_step, passed}
use Rattle.kernel_laws.proofs.Giving.{decision_read}
use Rattle.kernel_laws.proofs.Taking.{taken_event, silence_alone, silence_taken, taken_follows}
use Rattle.kernel_laws.proofs.Lasting.{Stands, going, shut, not_closed, stands_plays}
use Rattle.kernel_laws.proofs.Refusing.{turned_away}

-- ---- the session
reached_named : (s : Session) (es : List Entry) → Reached s.state es → Named s es
reached_named s es there =
    record {
      phase = there.phase;
      leads = there.leads;
      waits = there.stands.waits;
      tvr = there.stands.tvr;
      tsi = there.stands.tsi;
      decision = λ outcome reason z e. decision_read s.state outcome reason z (subst (StandsAt s.state) e there.stands);
    }

stands_says : (s : Session) (es : List Entry) → Stands s es → Says s es
stands_says s es (going there) = named (reached_named s es there)
stands_says s es (shut c) = silenced c

pub plays_says : (cs : List Call) → all_bytes cs ≡ true → Says (plays cs).session (plays cs).log
plays_says cs bytes = stands_says (plays cs).session (plays cs).log (stands_plays cs bytes)

-- ---- a call
module _ (p : Played) (c : Call) (bytes : are_bytes c.event.payload ≡ true) where
  abbrev s : Session
  s = p.session

  abbrev e : Entry
  e = c.event

  abbrev buf : List ℕ
  buf = c.buffer

  by_refusal : (call_refusal s.state.waiting e buf ≡ 0 → ⊥) → Replies p c
  unfolding made refused
  by_refusal h =
      refuses (call_refusal s.state.waiting e buf) (ap (λ (r : Called). r.reply) (call_refused s e buf h)) (turned_away s c h)

  module _ (there : Reached s.state p.log) (h : call_refusal s.state.waiting e buf ≡ 0) where
    followed : (e.kind ≡ silence → ⊥) → Replies p c
    unfolding made
    followed n =
        let q = passed s e buf h in
        follows
        (subst (Follows p.log e buf) (sym (call_taken s e buf h ∙ taken_step s e buf n))
        (taken_follows p.log e buf s.zeros (accepted s.zeros (step s.state e.payload buf)) q.room
        (taken_event s p.log buf there e q bytes n)))

    closed : e.kind ≡ silence → Replies p c
    unfolding made closed_after
    closed k =
        let q = passed s e buf h in
        let same : call s e buf ≡ closed_after s buf = call_taken s e buf h ∙ taken_silence s e buf k in
        closes (silence_alone s p.log buf there e q k) (ap (λ (r : Called). r.reply) same) (ap (λ (r : Called). r.buffer) same)
        (subst (λ (r : Called). Silenced r.session (p.log ++ (entry silence [] ∷ []))) (sym same)
        (silence_taken s p.log buf there e q k))

  by_standing : Stands s p.log → call_refusal s.state.waiting e buf ≡ 0 → Replies p c
  by_standing (going there) h =
      either (eqb e.kind silence)
      (λ y. closed there h (eqb-true e.kind silence y))
      (λ n. followed there h (eqb-false e.kind silence n))
  by_standing (shut k) h = absurd (not_closed s p.log buf e k.closed h)

  pub stands_replies : Stands s p.log → Replies p c
  stands_replies st = zero_or (call_refusal s.state.waiting e buf) (by_standing st) by_refusal

-- any call after any calls from fresh
pub plays_replies : (cs : List Call) (c : Call) → all_bytes cs ≡ true → are_bytes c.event.payload ≡ true → Replies (plays cs) c
plays_replies cs c bytes also = stands_replies (plays cs) c also (stands_plays cs bytes)
