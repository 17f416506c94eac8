-- Every session can be stored on a tape, and so can every unfinished one: what is due is a payload at each phase that a session passes.
-- Assumes nothing.
use mathlib.Core.Path.{◌≡◌, refl, ap, ◌∙◌}
use mathlib.Core.Bool.{true}
use mathlib.Core.List.{List, [], ◌∷◌, ◌++◌}
use mathlib.Core.Logic.{⊎_elim}
use Prim.Native.Nat.{ℕ}
use Rattle.slices.proofs.Choice.{and_both}
use Rattle.numbers.specs.Tables.{command, answer, silence, decision, is_kind}
use Rattle.tape_read.specs.Entries.{Entry, entry, storable, all_storable}
use Rattle.tape_read.proofs.Roundtrip.{first_storable, rest_storable}
use Rattle.sessions.specs.Session.{is_payload}
use Rattle.sessions.specs.Session as Under
use Rattle.sessions.proofs.Payloads.{payload_bytes}
use Rattle.rulebook.specs.Phase.{Phase}
use Rattle.rulebook.specs.Session.{Plays, exchanged, heard, decided, Session, Beginning, AwaitsCard, Closed, Open, Lawful}
use Rattle.verdict_under.proofs.Stored.{storable_append}
use Rattle.verdict_storable.proofs.Staying.{Stays, after_stays, turn_stays}
use Rattle.verdict_storable.proofs.Payloads.{asked_payload, decision_payload}
use Rattle.rulebook.proofs.Said.{kinds_readable}

-- an entry of a kind, with a payload, before others
stored : (kind : ℕ) (p : List ℕ) (es : List Entry) → is_kind kind ≡ true → is_payload p ≡ true → all_storable es ≡ true
    → all_storable (entry kind p ∷ es) ≡ true
unfolding all_storable storable is_payload
stored kind p es h k l = and_both _ _ (and_both _ _ h k) l

plays_storable : {p : Phase} {es : List Entry} → Plays p es → Stays p → all_storable es ≡ true
unfolding is_kind all_storable
plays_storable (exchanged {w} {c} {a} {es} f ok play) k =
    stored command c (entry answer a ∷ es) refl (ap is_payload f ∙ asked_payload w k)
    (stored answer a es refl ok (plays_storable play (turn_stays w a k (payload_bytes a ok))))
plays_storable (heard {h} {k = n} {p} {es} f fits ok play) k =
    stored n p es (ap is_kind f ∙ kinds_readable h) ok (plays_storable play (after_stays h p k (payload_bytes p ok)))
plays_storable (decided {outcome} {reason} {s} {d} f) k =
    stored decision d [] refl (ap is_payload f ∙ decision_payload outcome reason s k) refl

-- ---- sessions

-- every session can be stored,
pub session_storable : (es : List Entry) → Session es → all_storable es ≡ true
unfolding Under.Session
session_storable es play = plays_storable play tt

-- and so can what it begins with
pub front_storable : (es fs : List Entry) → all_storable (es ++ fs) ≡ true → all_storable es ≡ true
unfolding all_storable
front_storable [] fs h = refl
front_storable (e ∷ es) fs h = and_both _ _ (first_storable e (es ++ fs) h) (front_storable es fs (rest_storable e (es ++ fs) h))

pub begun_storable : (es : List Entry) → Beginning es → all_storable es ≡ true
unfolding Under.Beginning
begun_storable es b = front_storable es (b.0 ∷ b.1.0) (session_storable _ b.1.1)

pub awaiting_storable : (es : List Entry) → AwaitsCard es → all_storable es ≡ true
unfolding Under.AwaitsCard
awaiting_storable es a = front_storable es (entry answer a.0 ∷ a.1.0) (session_storable _ a.1.1)

closed_storable : (es : List Entry) → Closed es → all_storable es ≡ true
unfolding Under.Closed all_storable storable is_kind
closed_storable es c = ap all_storable c.1.1 ∙ storable_append c.0 (entry silence [] ∷ []) (awaiting_storable c.0 c.1.0) refl

-- every unfinished one,
pub open_storable : (es : List Entry) → Open es → all_storable es ≡ true
unfolding Under.Open
open_storable es o = ⊎_elim (begun_storable es) (closed_storable es) o

-- and so whatever breaks no rule
pub lawful_storable : (es : List Entry) → Lawful es → all_storable es ≡ true
unfolding Under.Lawful
lawful_storable es l = ⊎_elim (session_storable es) (open_storable es) l
