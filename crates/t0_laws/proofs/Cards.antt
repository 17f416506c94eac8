-- The answer to a command is the right card's data and status, all of it and nothing else: each step of its script is one turn, or a
-- turn and the bytes that it announces, and keeps exactly the script's data. Assumes nothing.
use mathlib.Core.Path.{◌≡◌, refl, sym, ap, subst, ◌∙◌}
use mathlib.Core.Bool.{true, false}
use mathlib.Core.List.{List, [], ◌∷◌, ◌++◌, append_assoc, append-nil}
use Prim.Native.Nat.{ℕ, ◌+◌, ◌-◌, ◌<◌, ◌≤◌}
use native.Mathlib.Omega.{arith}
use lib.Dec.{eqb}
use lib.ListN.{length}
use borrow.Author.Tests.{eq-eqb, ne_eqb, lt-ltb, le-leb, lt-leb}
use Rattle.slices.specs.Choice.{pick}
use Rattle.slices.proofs.Choice.{pick_yes, pick_no}
use Rattle.apdu.specs.Commands.{asked}
use Rattle.apdu.specs.Answers.{is_status}
use Rattle.t0_state.specs.Bytes.{ins_of, complement, meaning_of, comes_in, may_get, may_repeat, goes_on}
use Rattle.t0_state.specs.Changes.{at_phase, with_received, with_trailer, asking}
use Rattle.t0_state.specs.declared.Sent.TheVariants.{GetResponse}
use Rattle.apdu.specs.declared.Trailer.{Trailer}
use Rattle.t0_state.specs.declared.Phase.{Phase}
use Rattle.t0_state.specs.declared.Phase.TheVariants.{Procedure, Length61, Length6C, Status, Data, Over}
use Rattle.t0_state.specs.declared.State.{State}
use Rattle.t0_state.specs.declared.Act.TheVariants.{Nothing, Header, Send, Keep}
use Rattle.t0_state.specs.declared.Turn.{Turn}
use Rattle.t0_state.specs.declared.bytes.Meaning.{Meaning}
use Rattle.t0_state.specs.declared.bytes.Meaning.TheVariants.{All, Next, Wait, Get, Repeat, Status as Begins}
use Rattle.t0_procedure.specs.Procedure.{waits_most, gets_most, onward, less_left, moving, on_all}
use Rattle.t0_procedure.specs.Procedure.{on_next, waited, on_wait, got, on_get, repeats}
use Rattle.t0_procedure.specs.Procedure.{on_six_c, by_meaning, on_procedure}
use Rattle.t0_turns.specs.Turns.{data_most, on_length, on_repeat, ending_in, on_status, phase_after, on_data, by_phase, after_byte}
use Rattle.t0_begin.specs.Begin.{begun_by}
use Rattle.t0.specs.Steps.{kept_by}
use Rattle.t0_laws.specs.Outcomes.{opened, playing, turned, Bytes}
use Rattle.t0_laws.specs.Bounds.{Sound}
use Rattle.t0_laws.specs.Moves.{kept, answered}
use Rattle.t0_laws.specs.Cards.{Script, waits, gives, gives_one, takes, takes_one, fetches, corrects, warns, ends, says, told}
use Rattle.t0_laws.specs.Cards.{ending, status_of, First, Right}
use Rattle.t0_laws.proofs.Apart.{apart, status_read, command_kept, ins_accepted}
use Rattle.t0_laws.proofs.Ends.{sound_on}
use Rattle.t0_laws.proofs.Beginning.{started}
use Rattle.t0_laws.proofs.Received.{answer_room}
use Rattle.t0_laws.proofs.Answered.{whole_answer}
use Rattle.t0_laws.proofs.Collide.{Accepted, ins_byte, accepted}
use Rattle.t0_laws.proofs.Counting.{sixty, sixty_one, six_c, turn_is}
use Rattle.apdu.specs.Answers.{trailer_of}
use Rattle.std.specs.Prelude.{Option, None, Some, Ok}

few_in : (s : State) → Sound s → s.received ≤ data_most
few_in s f = let r = f.room in omega arith

-- a byte whose turn is known
module _ (s : State) (b : ℕ) (t : Turn) (e : after_byte s b ≡ t) (byte : b < 256) (ok : Accepted s.command) (sound : Sound s) where
  pub after_sound : Sound t.state
  unfolding turned
  after_sound = subst (λ (u : Turn). Sound u.state) e (sound_on (b ∷ []) s (byte, tt) sound)

  pub after_ok : Accepted t.state.command
  after_ok = subst (λ (u : Turn). Accepted u.state.command) e (subst Accepted (sym (command_kept s b)) ok)

  pub one_kept : (bs : List ℕ) → kept s (b ∷ bs) ≡ kept_by t.act ++ kept t.state bs
  unfolding kept
  one_kept bs = ap (λ (u : Turn). kept_by u.act ++ kept u.state bs) e

-- where a procedure byte is due
module _ (s : State) (due : s.phase ≡ Procedure) (ok : Accepted s.command) (sound : Sound s) where
  low : ins_of s < 256
  unfolding ins_of
  low = ins_byte s.header.sent s.command ok.0

  fine : is_status (ins_of s) ≡ false
  fine = ins_accepted s ok.1

  meant : (b : ℕ) (m : Meaning) → meaning_of (ins_of s) b ≡ m → after_byte s b ≡ by_meaning m s b
  unfolding by_phase on_procedure
  meant b m e = turn_is s b (few_in s sound) Procedure due ∙ ap (λ (x : Meaning). by_meaning x s b) e

  all_meant : meaning_of (ins_of s) (ins_of s) ≡ All
  unfolding meaning_of
  all_meant = pick_yes _ _ _ (eq-eqb (ins_of s) (ins_of s) refl)

  next_meant : meaning_of (ins_of s) (complement (ins_of s)) ≡ Next
  unfolding meaning_of
  next_meant =
      pick_no _ _ _ (ne_eqb (complement (ins_of s)) (ins_of s) (λ e. apart (ins_of s) low fine (sym e)))
      ∙ pick_yes _ _ _ (eq-eqb (complement (ins_of s)) (complement (ins_of s)) refl)

  first_meant : (a : ℕ) → First a → meaning_of (ins_of s) a ≡ Begins
  first_meant a f =
      status_read (ins_of s) low fine a f.status ∙ (pick_no _ _ _ f.not60 ∙ (pick_no _ _ _ f.not61 ∙ pick_no _ _ _ f.not6_c))

  moved_in : (n : ℕ) → 1 ≤ n → comes_in s.header.sent ≡ true → moving n s ≡ onward (Data n) (less_left n s)
  unfolding moving
  moved_in n h e = pick_no _ _ _ (ne_eqb n 0 (λ z. omega arith)) ∙ pick_yes _ _ _ e

  moved_out : (n : ℕ) → 1 ≤ n → comes_in s.header.sent ≡ false
      → moving n s ≡ record { state = less_left n s; act = Ok (Send (s.header.size - s.header.left) n) }
  unfolding moving
  moved_out n h e = pick_no _ _ _ (ne_eqb n 0 (λ z. omega arith)) ∙ pick_no _ _ _ e

  one_left : 1 ≤ s.header.left → ◌≡◌ {A = ℕ} (pick (eqb s.header.left 0) 0 1) 1
  one_left h = pick_no _ _ _ (ne_eqb s.header.left 0 (λ z. omega arith))

  pub waits_turn : s.counts.waits < waits_most → after_byte s 0x60 ≡ record { state = waited s; act = Ok Nothing }
  unfolding by_meaning on_wait
  waits_turn h = meant 0x60 Wait (sixty (ins_of s) low fine) ∙ pick_yes _ _ _ (lt-ltb s.counts.waits waits_most h)

  pub gives_turn : 1 ≤ s.header.left → comes_in s.header.sent ≡ true
      → after_byte s (ins_of s) ≡ onward (Data s.header.left) (less_left s.header.left s)
  unfolding by_meaning on_all
  gives_turn h e = meant (ins_of s) All all_meant ∙ moved_in s.header.left h e

  pub gives_one_turn : 1 ≤ s.header.left → comes_in s.header.sent ≡ true
      → after_byte s (complement (ins_of s)) ≡ onward (Data 1) (less_left 1 s)
  unfolding by_meaning on_next
  gives_one_turn h e =
      meant (complement (ins_of s)) Next next_meant ∙ (ap (λ (n : ℕ). moving n s) (one_left h) ∙ moved_in 1 (omega arith) e)

  pub takes_turn : 1 ≤ s.header.left → comes_in s.header.sent ≡ false
      → after_byte s (ins_of s)
      ≡ record { state = less_left s.header.left s; act = Ok (Send (s.header.size - s.header.left) s.header.left) }
  unfolding by_meaning on_all
  takes_turn h e = meant (ins_of s) All all_meant ∙ moved_out s.header.left h e

  pub takes_one_turn : 1 ≤ s.header.left → comes_in s.header.sent ≡ false
      → after_byte s (complement (ins_of s)) ≡ record { state = less_left 1 s; act = Ok (Send (s.header.size - s.header.left) 1) }
  unfolding by_meaning on_next
  takes_one_turn h e =
      meant (complement (ins_of s)) Next next_meant ∙ (ap (λ (n : ℕ). moving n s) (one_left h) ∙ moved_out 1 (omega arith) e)

  pub fetches_turn : s.counts.gets < gets_most → may_get s.header ≡ true → after_byte s 0x61 ≡ onward Length61 (got s)
  unfolding by_meaning on_get
  fetches_turn h e =
      meant 0x61 Get (sixty_one (ins_of s) low fine) ∙ (pick_no _ _ _ (lt-leb gets_most s.counts.gets h) ∙ pick_yes _ _ _ e)

  pub corrects_turn : s.counts.repeated ≡ false → may_repeat s.header ≡ true → after_byte s 0x6C ≡ onward Length6C (repeats s)
  unfolding by_meaning on_six_c
  corrects_turn h e = meant 0x6C Repeat (six_c (ins_of s) low fine) ∙ (pick_no _ _ _ h ∙ pick_yes _ _ _ e)

  pub first_turn : (a : ℕ) → First a → after_byte s a ≡ onward (Status a) s
  unfolding by_meaning
  first_turn a f = meant a Begins (first_meant a f)

-- the second byte
module _ (s : State) (b : ℕ) (sound : Sound s) where
  pub length_turn : s.phase ≡ Length61 → after_byte s b ≡ record { state = asking GetResponse (asked b) s; act = Ok (Header b) }
  unfolding by_phase on_length
  length_turn e = turn_is s b (few_in s sound) Length61 e

  pub repeat_turn : s.phase ≡ Length6C → after_byte s b ≡ record { state = asking s.header.sent (asked b) s; act = Ok (Header b) }
  unfolding by_phase on_repeat on_length
  repeat_turn e = turn_is s b (few_in s sound) Length6C e

  pub warns_turn : (a : ℕ) → s.phase ≡ Status a → goes_on s.header (trailer_of a b) ≡ true
      → after_byte s b ≡ record { state = asking GetResponse 256 (with_trailer (trailer_of a b) s); act = Ok (Header 0) }
  unfolding by_phase on_status
  warns_turn a e f = turn_is s b (few_in s sound) (Status a) e ∙ pick_yes _ _ _ f

  pub ends_turn : (a : ℕ) → s.phase ≡ Status a → goes_on s.header (trailer_of a b) ≡ false
      → after_byte s b ≡ record { state = at_phase Over s; act = Ok (ending_in s.trailer (trailer_of a b)) }
  unfolding by_phase on_status
  ends_turn a e f = turn_is s b (few_in s sound) (Status a) e ∙ pick_no _ _ _ f

  pub data_turn : (n : ℕ) → s.phase ≡ Data n → after_byte s b ≡ on_data n s b
  unfolding by_phase
  data_turn n e = turn_is s b (few_in s sound) (Data n) e

ending_kept : (t : Option Trailer) (a b : ℕ) → kept_by (Ok (ending_in t (trailer_of a b))) ≡ ending t a b
unfolding kept_by ending_in
ending_kept None a b = refl
ending_kept (Some t) a b = refl

-- the data that a procedure byte announces
abbrev filled : ℕ → State → State
filled n u = at_phase Procedure (with_received (u.received + n) u)

last_byte : (n : ℕ) → n ≡ 1 → phase_after n ≡ Procedure
unfolding phase_after
last_byte n e = pick_yes _ _ _ (le-leb n 1 (omega arith))

more_bytes : (n k : ℕ) → n ≡ 2 + k → phase_after n ≡ Data (n - 1)
unfolding phase_after
more_bytes n k e = pick_no _ _ _ (lt-leb n 1 (omega arith))

data_in : (b : ℕ) (d rest : List ℕ) (u : State) (n : ℕ) → u.phase ≡ Data n → n ≡ 1 + length d → Bytes (b ∷ d) → Accepted u.command
    → Sound u
    → (kept u (b ∷ (d ++ rest)) ≡ b ∷ (d ++ kept (filled n u) rest)) × Sound (filled n u)
unfolding on_data kept_by
data_in b [] rest u n e h bytes ok sound =
    let t : after_byte u b ≡ record { state = filled n u; act = Ok (Keep b) }
    = data_turn u b sound n e
    ∙ (ap (λ (p : Phase). record { state = at_phase p (with_received (u.received + 1) u); act = Ok (Keep b) }) (last_byte n (omega arith))
    ∙ ap (λ (k : ℕ). record { state = at_phase Procedure (with_received (u.received + k) u); act = Ok (Keep b) })
    (let z : 1 ≡ n = omega arith in z))
    in
    (one_kept u b _ t bytes.0 ok sound rest, after_sound u b _ t bytes.0 ok sound)
data_in b (c ∷ d) rest u n e h bytes ok sound =
    let t : after_byte u b ≡ record { state = at_phase (Data (n - 1)) (with_received (u.received + 1) u); act = Ok (Keep b) }
    = data_turn u b sound n e
    ∙ ap (λ (p : Phase). record { state = at_phase p (with_received (u.received + 1) u); act = Ok (Keep b) })
    (more_bytes n (length d) (omega arith))
    in
    let on = data_in c d rest (at_phase (Data (n - 1)) (with_received (u.received + 1) u)) (n - 1) refl (omega arith) bytes.1
    (after_ok u b _ t bytes.0 ok sound) (after_sound u b _ t bytes.0 ok sound)
    in
    let same : u.received + 1 + (n - 1) ≡ u.received + n = omega arith in (
      one_kept u b _ t bytes.0 ok sound (c ∷ (d ++ rest))
          ∙ (ap (λ (l : List ℕ). b ∷ l) on.0
          ∙ ap (λ (k : ℕ). b ∷ c ∷ (d ++ kept (at_phase Procedure (with_received k u)) rest)) same),
      subst (λ (k : ℕ). Sound (at_phase Procedure (with_received k u))) same on.1,
    )

split : (x y : List ℕ) → Bytes (x ++ y) → Bytes x × Bytes y
split [] y h = (tt, h)
split (b ∷ x) y h = let r = split x y h.1 in ((h.0, r.0), r.1)

nothing_more : (s : State) (l : List ℕ) → l ++ kept s [] ≡ l
unfolding kept
nothing_more s l = append-nil l

-- the whole script
follows : (sc : Script) (s : State) → s.phase ≡ Procedure → Right sc s.header s.counts → Accepted s.command → Sound s
    → Bytes (says sc s.header.sent s.command) → kept s (says sc s.header.sent s.command) ≡ told sc ++ status_of sc s.trailer
unfolding Right says told status_of kept_by ins_of
follows (waits sc) s due right ok sound bytes =
    let t = waits_turn s due ok sound right.0 in
    one_kept s 0x60 _ t bytes.0 ok sound _
    ∙ follows sc (waited s) due right.1 ok (after_sound s 0x60 _ t bytes.0 ok sound) bytes.1
follows (gives [] sc) s due right ok sound bytes = absurd (let z = right.2 in omega arith)
follows (gives (b ∷ d) sc) s due right ok sound bytes =
    let n = s.header.left in
    let x = s.header.sent in
    let size = right.1 in
    let t = gives_turn s due ok sound (omega arith) right.0 in
    let two = split (b ∷ d) (says sc x s.command) bytes.1 in
    let in' = data_in b d (says sc x s.command) (at_phase (Data n) (less_left n s)) n refl (omega arith) two.0 ok
    (after_sound s _ _ t bytes.0 ok sound)
    in
    one_kept s _ _ t bytes.0 ok sound _
    ∙ (in'.0
    ∙ (ap (λ (l : List ℕ). b ∷ (d ++ l))
    (follows sc (filled n (at_phase (Data n) (less_left n s))) refl right.3 ok in'.1 two.1)
    ∙ ap (λ (l : List ℕ). b ∷ l) (sym (append_assoc d (told sc) (status_of sc s.trailer)))))
follows (gives_one b sc) s due right ok sound bytes =
    let x = s.header.sent in
    let t = gives_one_turn s due ok sound right.1 right.0 in
    let in' = data_in b [] (says sc x s.command) (at_phase (Data 1) (less_left 1 s)) 1 refl refl (bytes.1.0, tt) ok
    (after_sound s _ _ t bytes.0 ok sound)
    in
    one_kept s _ _ t bytes.0 ok sound _
    ∙ (in'.0
    ∙ ap (λ (l : List ℕ). b ∷ l)
    (follows sc (filled 1 (at_phase (Data 1) (less_left 1 s))) refl right.2 ok in'.1 bytes.1.1))
follows (takes sc) s due right ok sound bytes =
    let t = takes_turn s due ok sound right.1 right.0 in
    one_kept s _ _ t bytes.0 ok sound _
    ∙ follows sc (less_left s.header.left s) due right.2 ok (after_sound s _ _ t bytes.0 ok sound) bytes.1
follows (takes_one sc) s due right ok sound bytes =
    let t = takes_one_turn s due ok sound right.1 right.0 in
    one_kept s _ _ t bytes.0 ok sound _
    ∙ follows sc (less_left 1 s) due right.2 ok (after_sound s _ _ t bytes.0 ok sound) bytes.1
follows (fetches n sc) s due right ok sound bytes =
    let t = fetches_turn s due ok sound right.0 right.1 in
    let u = at_phase Length61 (got s) in
    let sound' = after_sound s 0x61 _ t bytes.0 ok sound in
    let t' = length_turn u n sound' refl in
    one_kept s 0x61 _ t bytes.0 ok sound _
    ∙ (one_kept u n _ t' bytes.1.0 ok sound' _
    ∙ follows sc (asking GetResponse (asked n) u) refl right.2 ok (after_sound u n _ t' bytes.1.0 ok sound') bytes.1.1)
follows (corrects n sc) s due right ok sound bytes =
    let t = corrects_turn s due ok sound right.0 right.1 in
    let u = at_phase Length6C (repeats s) in
    let sound' = after_sound s 0x6C _ t bytes.0 ok sound in
    let t' = repeat_turn u n sound' refl in
    one_kept s 0x6C _ t bytes.0 ok sound _
    ∙ (one_kept u n _ t' bytes.1.0 ok sound' _
    ∙ follows sc (asking s.header.sent (asked n) u) refl right.2 ok (after_sound u n _ t' bytes.1.0 ok sound') bytes.1.1)
follows (warns a b sc) s due right ok sound bytes =
    let t = first_turn s due ok sound a right.0 in
    let u = at_phase (Status a) s in
    let sound' = after_sound s a _ t bytes.0 ok sound in
    let t' = warns_turn u b sound' a refl right.1 in
    one_kept s a _ t bytes.0 ok sound _
    ∙ (one_kept u b _ t' bytes.1.0 ok sound' _
    ∙ follows sc (asking GetResponse 256 (with_trailer (trailer_of a b) u)) refl right.2 ok (after_sound u b _ t' bytes.1.0 ok sound') bytes.1.1)
follows (ends a b) s due right ok sound bytes =
    let t = first_turn s due ok sound a right.0 in
    let u = at_phase (Status a) s in
    let sound' = after_sound s a _ t bytes.0 ok sound in
    let t' = ends_turn u b sound' a refl right.1 in
    one_kept s a _ t bytes.0 ok sound _
    ∙ (one_kept u b _ t' bytes.1.0 ok sound' []
    ∙ (ap (λ (l : List ℕ). l ++ kept (at_phase Over u) []) (ending_kept s.trailer a b)
    ∙ nothing_more (at_phase Over u) (ending s.trailer a b)))

-- the law: a command that is taken, and a right card
module _ (c out w : List ℕ) (bytes : Bytes c) (room : answer_room ≤ length w) where
  abbrev first : State
  first = (begun_by c out).state

  pub right_card : first.phase ≡ Procedure → (sc : Script) → Right sc first.header first.counts
      → Bytes (says sc first.header.sent first.command)
      → answered (playing (opened c out w) (says sc first.header.sent first.command)) ≡ told sc ++ status_of sc first.trailer
  right_card due sc right card =
      whole_answer c out w _ bytes card room ∙ follows sc first due right (accepted c out bytes) (started c bytes out).0 card
