-- Every session of the rulebook that can be begun is the log of a kernel session, decided at its end: its events are bytes that the
-- kernel takes one after the other. And the kernel, as a function of the entries so far, gives what the rulebook asks of one.
-- Assumes nothing.
use mathlib.Core.Path.{◌≡◌, refl, sym, ap, ◌∙◌, subst}
use mathlib.Core.Bool.{true, false}
use mathlib.Core.List.{List, [], ◌∷◌, ◌++◌, append_assoc}
use Prim.Native.Nat.{ℕ, ◌≤◌}
use native.Mathlib.Omega.{arith}
use lib.ListN.{length, drop}
use lib.Pow.{are_bytes}
use lib.Seq.{drop_at}
use Rattle.slices.specs.Choice.{pick}
use Rattle.slices.specs.Writing.{zeros}
use Rattle.slices.proofs.Choice.{and_both}
use Rattle.slices.proofs.Writing.{zeros_length}
use Rattle.numbers.specs.Tables.{command, answer, decision}
use Rattle.tape_read.specs.Entries.{Entry, entry}
use Rattle.commands.specs.Commands.{longest}
use Rattle.sessions.specs.Session as Under
use Rattle.sessions.specs.Machine.{run}
use Rattle.sessions.proofs.Payloads.{payload_bytes}
use Rattle.sessions.proofs.Running.{taken, session_run}
use Rattle.sessions.proofs.Reading.{run_append}
use Rattle.rulebook.specs.Phase.{Phase, opens}
use Rattle.rulebook.specs.Session.{rules, Plays, exchanged, heard, decided, Session as WholeSession}
use Rattle.rulebook.specs.Machine.{at, done}
use Rattle.rulebook.specs.Roles.{given, begins, RightKernel}
use Rattle.kernel_laws.specs.Log.{Call, plays, all_bytes}
use Rattle.kernel_laws.specs.Replay.{calls_in, first_entry, given_after}
use Rattle.kernel_laws.specs.Ending.{Reproduces}
use Rattle.kernel_laws.proofs.Lawful.{any_calls}
use Rattle.kernel_laws.proofs.Playing.{pending, own_entry, event_entry, word_event, read_played, session_played}

-- ---- what a session hands in are bytes
own_bytes : (buf : List ℕ) (e : Entry) (es : List Entry) → given e ≡ true → all_bytes (calls_in buf es) ≡ true
    → all_bytes (calls_in buf (e ∷ es)) ≡ true
own_bytes buf e es g h = ap all_bytes (own_entry buf e es g) ∙ h

event_bytes : (buf : List ℕ) (e : Entry) (es : List Entry) → given e ≡ false → are_bytes e.payload ≡ true
    → all_bytes (calls_in buf es) ≡ true
    → all_bytes (calls_in buf (e ∷ es)) ≡ true
unfolding all_bytes
event_bytes buf e es g b h = ap all_bytes (event_entry buf e es g) ∙ and_both (are_bytes e.payload) (all_bytes (calls_in buf es)) b h

plays_bytes : (buf : List ℕ) {p : Phase} {es : List Entry} → Plays p es → all_bytes (calls_in buf es) ≡ true
unfolding given calls_in all_bytes
plays_bytes buf (exchanged {c} {a} {es} f ok rest) =
    own_bytes buf (entry command c) (entry answer a ∷ es) refl
    (event_bytes buf (entry answer a) es refl (payload_bytes a ok) (plays_bytes buf rest))
plays_bytes buf (heard {h} {k} {p = b} {es} f fits ok rest) =
    event_bytes buf (entry k b) es (ap (λ (n : ℕ). given (entry n b)) f ∙ word_event h b) (payload_bytes b ok) (plays_bytes buf rest)
plays_bytes buf (decided {d} f) = own_bytes buf (entry decision d) [] refl refl

-- ---- the kernel plays every session
-- with any buffer that is long enough
pub session_logged : (buf : List ℕ) → longest ≤ length buf → (es : List Entry) → WholeSession es → begins es ≡ true → Reproduces buf es
unfolding Under.Session
session_logged buf room es whole begun =
    let bytes = plays_bytes buf whole in
    let log = session_played buf room es whole begun in
    record { bytes = bytes; log = log; decides = (any_calls (calls_in buf es) bytes).decided (subst WholeSession (sym log) whole) }

pub every_session : (es : List Entry) → WholeSession es → begins es ≡ true → (cs : List Call) × ((plays cs).log ≡ es)
every_session es whole begun =
    let size = zeros_length longest in
    (calls_in (zeros longest) es, (session_logged (zeros longest) (omega arith) es whole begun).log)

-- ---- and is right, in the rulebook's sense
module _ (buf : List ℕ) where
  calls_append : (es fs : List Entry) → calls_in buf fs ≡ [] → calls_in buf (es ++ fs) ≡ calls_in buf es
  unfolding calls_in
  calls_append [] fs h = h
  calls_append (e ∷ es) fs h =
      ap (λ (cs : List Call). pick (given e) cs (record { event = e; buffer = buf } ∷ cs)) (calls_append es fs h)

  -- an entry of the kernel's own is no call
  no_call : (e : Entry) → given e ≡ true → calls_in buf (e ∷ []) ≡ []
  unfolding calls_in
  no_call e g = own_entry buf e [] g

  -- it is the first entry that begins a session, however many follow
  front_begins : (es : List Entry) (e : Entry) (rest : List Entry) → begins (es ++ (e ∷ rest)) ≡ begins (es ++ (e ∷ []))
  unfolding begins
  front_begins [] e rest = refl
  front_begins (x ∷ es) e rest = refl

  pub right : longest ≤ length buf → RightKernel (given_after buf)
  unfolding RightKernel given_after first_entry
  right room es e rest whole begun g =
      let split = append_assoc es (e ∷ []) rest in
      let read = session_run rules (es ++ (e ∷ rest)) whole in
      let t =
      taken (run rules rest) (run rules (es ++ (e ∷ [])) (at opens)) done
      (sym (run_append rules (es ++ (e ∷ [])) rest (at opens)) ∙ (ap (λ (l : List Entry). run rules l (at opens)) split ∙ read))
      in
      let log : (plays (calls_in buf es)).log ≡ es ++ (e ∷ pending t.0) =
      ap (λ (cs : List Call). (plays cs).log) (sym (calls_append es (e ∷ []) (no_call e g)))
      ∙ (read_played buf room (es ++ (e ∷ [])) t.0 t.1.0 (sym (front_begins es e rest) ∙ begun)
      ∙ append_assoc es (e ∷ []) (pending t.0))
      in
      ap (λ (l : List Entry). first_entry (drop (length es) l)) log ∙ ap first_entry (drop_at es (e ∷ pending t.0) (length es) refl)
