-- The wrong kernels of 01, "Pinning every answer down", said of this one: it is right in the rulebook's sense, so what the rulebook
-- shuts out is not it. Terminating everything and leaving the buffer alone are also shut out by the calls themselves.
-- Assumes nothing.
use mathlib.Core.Path.{◌≡◌, refl, sym, ap, ◌∙◌}
use mathlib.Core.Bool.{true}
use mathlib.Core.List.{List, [], ◌∷◌, ◌++◌}
use Prim.Native.Nat.{ℕ, ◌≤◌}
use native.Mathlib.Omega.{arith}
use lib.ListN.{length, take, get_or}
use Rattle.slices.specs.Choice.{pick}
use Rattle.slices.specs.Writing.{zeros}
use Rattle.slices.proofs.Writing.{zeros_length}
use Rattle.start_fields.specs.Reading.{reading_of}
use Rattle.start_valid.specs.Start.{valid_kind, valid_digits, valid_random, valid_percentages}
use Rattle.start_fields.specs.Layout.{is_length}
use Rattle.start_valid.specs.Start.{valid_threshold, valid_aid, valid_start, begins_session}
use Rattle.start_valid.proofs.Laws.{begins_valid}
use Rattle.slices.specs.Tests.{every, between}
use Rattle.decimal_dates.specs.Decimal.{decimal_from, decimal, decimal_byte, digits_only, zeros_only}
use Rattle.decimal_dates.specs.Dates.{month_and_day, valid_start_date}
use Rattle.numbers.specs.Tables.{command, decision}
use Rattle.tape_read.specs.Entries.{Entry, entry}
use Rattle.commands.specs.Commands.{longest, select_command}
use Rattle.sessions.specs.Session.{is_payload}
use Rattle.sessions.proofs.Lists.{snoc_same}
use Rattle.rulebook.specs.Situation.{begun}
use Rattle.rulebook.specs.Phase.{selecting, terminal, opens, command_of, due_kind}
use Rattle.rulebook.specs.Turn.{opened, allowed, after}
use Rattle.rulebook.specs.Machine.{at}
use Rattle.rulebook.proofs.Made.{start_of, tc, aac, given as cryptogram, opening, exchange, first_asked}
use Rattle.rulebook.proofs.Offline.{offline, approved_offline}
use Rattle.rulebook_worked.proofs.ShutOut.{Parts, begun as offline_begins, not_terminating, not_always_aac, not_idle, not_settled}
use Rattle.session_phase.specs.Waiting.{kind_of, is_decided, outcome_of}
use Rattle.session_phase.specs.declared.Speaker.TheVariants.{Terminal}
use Rattle.session_state.specs.Results.{decision_in}
use Rattle.session_state.specs.Keeping.{state_at, fresh}
use Rattle.session_moves.specs.Moves.{speaker_of}
use Rattle.session_events.specs.Events.{step}
use Rattle.session_laws.proofs.Stepping.{fresh_stands, word_step_lem}
use Rattle.kernel.specs.declared.Session.{Session}
use Rattle.kernel.specs.Calls.{Called, accepted, fresh_session}
use Rattle.kernel_laws.specs.Log.{Call, made, plays, all_bytes}
use Rattle.kernel_laws.specs.Replay.{calls_in, given_after}
use Rattle.kernel_laws.specs.Saying.{Gives}
use Rattle.kernel_laws.proofs.Turning.{call_taken, taken_step}
use Rattle.kernel_laws.proofs.Giving.{step_gives}
use Rattle.kernel_laws.proofs.Admitting.{word_free}
use Rattle.kernel_laws.proofs.Words.{taken_by}
use Rattle.kernel_laws.proofs.Complete.{session_logged, right}
use Rattle.kernel_laws.proofs.Deciding.{decision_last}

-- a buffer that is long enough
room : longest ≤ length (zeros longest)
room = let size = zeros_length longest in omega arith

abbrev kernel : List Entry → Entry
kernel = given_after (zeros longest)

-- ---- as a function of the entries so far
-- it does not terminate everything
pub not_all_terminated : ((es : List Entry) → (kernel es).kind ≡ decision → get_or (kernel es).payload 0 0 ≡ 3) → ⊥
not_all_terminated = not_terminating kernel (right (zeros longest) room)

-- it does not always ask AAC
pub not_all_aac : ((es : List Entry) → (kernel es).kind ≡ command → get_or (kernel es).payload 1 0 ≡ 0xAE
    → get_or (kernel es).payload 2 0 ≡ aac) → ⊥
not_all_aac = not_always_aac kernel (right (zeros longest) room)

-- its commands do not all stand in one buffer that nobody writes
pub not_unwritten : (buffer : List ℕ) → ((es : List Entry) → (kernel es).kind ≡ command → (n : ℕ)
    × ((kernel es).payload ≡ take n buffer)) → ⊥
not_unwritten = not_idle kernel (right (zeros longest) room)

-- it does not settle all at START: wherever two sessions of the rulebook part, it parts too. There are such places at each command
-- after SELECT: `options_depend`, `records_depend`, `first_depends` and `second_depends` of the rulebook
pub not_settled_at_start : (s : Entry) → Parts s → (f : Entry → ℕ → Entry)
    → ((t : Entry) (es : List Entry) → kernel (t ∷ es) ≡ f t (length es)) → ⊥
not_settled_at_start s p = not_settled s p kernel (right (zeros longest) room)

-- ---- by the calls themselves
-- the session of a terminal of type 2 that is approved offline
abbrev approved_calls : List Call
approved_calls = calls_in (zeros longest) (offline 2 tc 1)

approved : outcome_of (plays approved_calls).session.state.waiting ≡ 1
unfolding decision_in
approved =
    let it = session_logged (zeros longest) room (offline 2 tc 1) approved_offline.0 offline_begins in
    let last = decision_last approved_calls it.bytes it.decides in
    let bytes : List ℕ = 1 ∷ 0 ∷ 0x80 ∷ 0 ∷ 0 ∷ 0 ∷ 0 ∷ 0x20 ∷ 0 ∷ [] in
    let same =
    snoc_same last.0 (opening 2 ++ exchange (first_asked tc) (cryptogram tc))
    (entry decision (decision_in (plays approved_calls).session.state))
    (entry decision bytes) (sym last.1 ∙ it.log)
    in
    ap (λ (e : Entry). get_or e.payload 0 0) same.1

pub not_every_outcome_3 : ((cs : List Call) → all_bytes cs ≡ true → is_decided (plays cs).session.state.waiting ≡ true
    → outcome_of (plays cs).session.state.waiting ≡ 3) → ⊥
not_every_outcome_3 wrong =
    let it = session_logged (zeros longest) room (offline 2 tc 1) approved_offline.0 offline_begins in
    let said = wrong approved_calls it.bytes it.decides in
    let due = approved in
    omega arith

-- a START that is valid, and a buffer that begins with no command
abbrev begin : List ℕ
begin = start_of 2

valid : begins_session begin ≡ true
unfolding begins_session valid_start is_length every pick between valid_kind valid_digits digits_only decimal_byte valid_start_date
    month_and_day valid_random valid_percentages valid_threshold valid_aid zeros_only reading_of decimal decimal_from
valid = refl

held : is_payload begin ≡ true
unfolding is_payload
held = refl

abbrev lent : List ℕ
lent = 1 ∷ zeros 260

also_room : longest ≤ length lent
also_room = let size = zeros_length 260 in omega arith

-- it writes the command into the buffer: SELECT stands there after START
pub not_left_alone : ((s : Session) (c : Call) → (made s c).buffer ≡ c.buffer) → ⊥
unfolding made fresh_session fresh state_at accepted opened after due_kind Gives command_of select_command speaker_of kind_of
    taken_by allowed
not_left_alone wrong =
    let e = entry (due_kind terminal) begin in
    let free = word_free fresh_session lent also_room Terminal refl begin valid in
    let m = step fresh_session.state begin lent in
    let same : made fresh_session (record { event = e; buffer = lent }) ≡ accepted 0 m =
    call_taken fresh_session e lent free ∙ taken_step fresh_session e lent (λ k. omega arith)
    in
    let steps = word_step_lem fresh_session.state terminal begin lent fresh_stands (begins_valid begin valid) held in
    let gives = step_gives (at opens) e lent m also_room 0 (opened (reading_of begin)) steps in
    let left : m.buffer ≡ lent = ap (λ (r : Called). r.buffer) (sym same) ∙ wrong fresh_session (record { event = e; buffer = lent }) in
    let select = command_of (selecting (begun (reading_of begin))) in
    let there : take (length select) lent ≡ select = ap (take (length select)) (sym left) ∙ gives.1 in
    let first : ◌≡◌ {A = ℕ} 1 0 = ap (λ (l : List ℕ). get_or l 0 0) there in
    omega arith
