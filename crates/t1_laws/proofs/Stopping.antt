-- No block goes out a fourth time, whatever happens: each sending is counted, and none goes out where the count is at its limit.
-- Assumes nothing.
use mathlib.Core.Path.{◌≡◌, refl, sym, subst}
use mathlib.Core.Bool.{Bool}
use mathlib.Core.List.{List, [], ◌∷◌}
use Prim.Native.Nat.{ℕ, ◌≤◌}
use native.Mathlib.Omega.{arith}
use lib.ListN.{get_or}
use borrow.Author.Tests.{ltb-true}
use Rattle.std.specs.Prelude.{Ok, Err}
use Rattle.slices.proofs.Choice.{picked}
use Rattle.t1_block.specs.Blocks.{len_of}
use Rattle.t1_block.specs.Faults.{Heard, heard_of}
use Rattle.t1_block.specs.declared.What.{What}
use Rattle.t1_block.specs.declared.What.TheVariants.{Resynch, Ifs, Abort, Wtx}
use Rattle.t1_block.specs.declared.Kind.{Kind}
use Rattle.t1_block.specs.declared.Kind.TheVariants.{Information as I, Ready as R, Request as Asks, Response as Answers}
use Rattle.t1_state.specs.Limits.{information_limit, card_limit, asking_limit, same_limit}
use Rattle.t1_state.specs.declared.Role.{Role}
use Rattle.t1_state.specs.declared.Role.TheVariants.{Terminal, Card}
use Rattle.t1_state.specs.declared.Phase.{Phase}
use Rattle.t1_state.specs.declared.Phase.TheVariants.{Start, Asking, Due, Sent, Receiving, Over}
use Rattle.t1_state.specs.declared.Last.{Last}
use Rattle.t1_state.specs.declared.Last.TheVariants.{Nothing, Information, Ready, Request, Response}
use Rattle.t1_state.specs.declared.Counts.{Counts}
use Rattle.t1_state.specs.declared.State.{State}
use Rattle.t1_state.specs.declared.Turn.{Turn}
use Rattle.t1_again.specs.Again.{ready_for, exhausted, same_again, information_again, wrong_after, wrong, for_role}
use Rattle.t1_line.specs.Line.{answers, on_request, sends_piece, sends_next, on_ready, keeps, on_information, on_kind, on_line}
use Rattle.t1_asking.specs.Asking.{settled, asked_instead, on_response, asked_kind, on_asking}
use Rattle.t1_turns.specs.Turns.{by_phase, on_block, silent_in, on_silence, asks_for, hello_in}
use Rattle.t1_turns.specs.Turns.{on_hello, card_asks, ask_in, on_ask, sends_message, send_in, on_send}
use Rattle.t1.specs.Steps.{Event, block, silence, hello, ask, send, turn_of, fresh_end}
use Rattle.t1_laws.specs.Stopping.{Bounded, after}

asking_limit_lem : (w : What) → asking_limit w ≤ 3
asking_limit_lem Resynch = omega arith
asking_limit_lem Ifs = omega arith
asking_limit_lem Abort = omega arith
asking_limit_lem Wtx = omega arith

card_limit_lem : (l : Last) → card_limit l ≤ 3
card_limit_lem Nothing = omega arith
card_limit_lem Information = omega arith
card_limit_lem (Ready pcb) = omega arith
card_limit_lem (Request w v) = asking_limit_lem w
card_limit_lem (Response w v) = omega arith

pub same_limit_lem : (r : Role) (l : Last) → same_limit r l ≤ 3
same_limit_lem Terminal l = omega arith
same_limit_lem Card l = card_limit_lem l

information_limit_lem : (r : Role) → information_limit r ≤ 3
information_limit_lem Terminal = omega arith
information_limit_lem Card = omega arith

abbrev Keeps : Turn → Type 0
Keeps t = Bounded t.state

module _ (s : State) (b : Bounded s) where
  for_role_lem : (r : Role) (t c : Turn) → Keeps t → Keeps c → Keeps (for_role r t c)
  unfolding for_role
  for_role_lem Terminal t c p q = p
  for_role_lem Card t c p q = q

  exhausted_keeps : Keeps (exhausted s)
  unfolding exhausted
  exhausted_keeps = picked Keeps _ _ _ (λ e. b) (λ e. record { information = b.information; same = b.same })

  same_again_lem : Keeps (same_again s)
  unfolding same_again
  same_again_lem =
      picked Keeps _ _ _
      (λ e. let below = ltb-true s.counts.same (same_limit s.role s.last) e in
      let limit = same_limit_lem s.role s.last in
      record { information = b.information; same = omega arith })
      (λ e. exhausted_keeps)

  information_again_lem : Keeps (information_again s)
  unfolding information_again
  information_again_lem =
      picked Keeps _ _ _
      (λ e. let below = ltb-true s.counts.information (information_limit s.role) e in
      let limit = information_limit_lem s.role in
      record { information = omega arith; same = b.same })
      (λ e. record { information = b.information; same = b.same })

  wrong_after_lem : (l : Last) (code : ℕ) → Keeps (wrong_after l code s)
  unfolding wrong_after ready_for
  wrong_after_lem Nothing code = record { information = b.information; same = omega arith }
  wrong_after_lem Information code = record { information = b.information; same = omega arith }
  wrong_after_lem (Ready pcb) code = same_again_lem
  wrong_after_lem (Request w v) code = same_again_lem
  wrong_after_lem (Response w v) code = record { information = b.information; same = omega arith }

  wrong_keeps : (code : ℕ) → Keeps (wrong code s)
  unfolding wrong
  wrong_keeps code = wrong_after_lem s.last code

  unmoved : {x : State} → x.counts ≡ s.counts → Bounded x
  unmoved e =
      record {
        information = subst (λ (c : Counts). c.information ≤ 3) (sym e) b.information;
        same = subst (λ (c : Counts). c.same ≤ 3) (sym e) b.same;
      }

  request_keeps : (w : What) (v : ℕ) → Keeps (on_request w v s)
  unfolding on_request answers
  request_keeps Resynch v = wrong_keeps 2
  request_keeps Ifs v = picked Keeps _ _ _ (λ e. unmoved refl) (λ e. wrong_keeps 2)
  request_keeps Abort v = for_role_lem s.role _ _ (unmoved refl) (wrong_keeps 2)
  request_keeps Wtx v = for_role_lem s.role _ _ (unmoved refl) (wrong_keeps 2)

  ready_keeps : (n : Bool) → Keeps (on_ready n s)
  unfolding on_ready sends_next sends_piece
  ready_keeps n =
      picked Keeps _ _ _
      (λ e. picked Keeps _ _ _
      (λ f. picked Keeps _ _ _ (λ g. record { information = omega arith; same = b.same }) (λ g. wrong_keeps 2))
      (λ f. information_again_lem))
      (λ e. wrong_keeps 2)

  field_keeps : (more : Bool) (n : ℕ) → Keeps (keeps more n s)
  unfolding keeps ready_for
  field_keeps more n =
      picked Keeps more _ _ (λ e. record { information = b.information; same = omega arith }) (λ e. unmoved refl)

  kind_keeps : (k : Kind) (v n : ℕ) → Keeps (on_kind k v n s)
  unfolding on_kind on_information
  kind_keeps (I number more) v n =
      picked Keeps _ _ _
      (λ e. picked Keeps _ _ _ (λ f. picked Keeps _ _ _ (λ g. unmoved refl) (λ g. field_keeps more n)) (λ f. wrong_keeps 2))
      (λ e. wrong_keeps 2)
  kind_keeps (R number) v n = ready_keeps number
  kind_keeps (Asks w) v n = request_keeps w v
  kind_keeps (Answers w) v n = wrong_keeps 2

  line_keeps : (h : Heard) (v n : ℕ) → Keeps (on_line h v n s)
  unfolding on_line
  line_keeps (Ok k) v n = kind_keeps k v n
  line_keeps (Err code) v n = wrong_keeps code

  settled_counts : (w : What) (v : ℕ) → (settled w v s).counts ≡ s.counts
  settled_counts Resynch v = refl
  settled_counts Ifs v = refl
  settled_counts Abort v = refl
  settled_counts Wtx v = refl

  asked_keeps : (k : Kind) (v : ℕ) → Keeps (asked_kind k v s)
  unfolding asked_kind on_response asked_instead
  asked_keeps (I number more) v = same_again_lem
  asked_keeps (R number) v = same_again_lem
  asked_keeps (Asks Resynch) v = same_again_lem
  asked_keeps (Asks Ifs) v = same_again_lem
  asked_keeps (Asks Abort) v = for_role_lem s.role _ _ (unmoved refl) same_again_lem
  asked_keeps (Asks Wtx) v = same_again_lem
  asked_keeps (Answers w) v = picked Keeps _ _ _ (λ e. unmoved (settled_counts w v)) (λ e. same_again_lem)

  asking_keeps : (h : Heard) (v : ℕ) → Keeps (on_asking h v s)
  unfolding on_asking
  asking_keeps (Ok k) v = asked_keeps k v
  asking_keeps (Err code) v = same_again_lem

  block_keeps : (p : Phase) (h : Heard) (v n : ℕ) → Keeps (by_phase p h v n s)
  unfolding by_phase
  block_keeps Start h v n = unmoved refl
  block_keeps Asking h v n = asking_keeps h v
  block_keeps Due h v n = unmoved refl
  block_keeps Sent h v n = line_keeps h v n
  block_keeps Receiving h v n = line_keeps h v n
  block_keeps Over h v n = unmoved refl

  silence_keeps : (p : Phase) → Keeps (silent_in p s)
  unfolding silent_in
  silence_keeps Start = unmoved refl
  silence_keeps Asking = unmoved refl
  silence_keeps Due = unmoved refl
  silence_keeps Sent = unmoved refl
  silence_keeps Receiving = unmoved refl
  silence_keeps Over = unmoved refl

  hello_keeps : (p : Phase) → Keeps (hello_in p s)
  unfolding hello_in asks_for
  hello_keeps Start = record { information = b.information; same = omega arith }
  hello_keeps Asking = unmoved refl
  hello_keeps Due = unmoved refl
  hello_keeps Sent = unmoved refl
  hello_keeps Receiving = unmoved refl
  hello_keeps Over = unmoved refl

  ask_keeps : (p : Phase) (w : What) (v : ℕ) → Keeps (ask_in p w v s)
  unfolding ask_in card_asks asks_for
  ask_keeps Start w v = unmoved refl
  ask_keeps Asking w v = unmoved refl
  ask_keeps Due w v =
      for_role_lem s.role _ _ (unmoved refl)
      (picked Keeps _ _ _ (λ e. record { information = b.information; same = omega arith }) (λ e. unmoved refl))
  ask_keeps Sent w v = unmoved refl
  ask_keeps Receiving w v = unmoved refl
  ask_keeps Over w v = unmoved refl

  send_keeps : (p : Phase) (m : List ℕ) → Keeps (send_in p m s)
  unfolding send_in sends_message sends_piece
  send_keeps Start m = unmoved refl
  send_keeps Asking m = unmoved refl
  send_keeps Due m = picked Keeps _ _ _ (λ e. record { information = omega arith; same = b.same }) (λ e. unmoved refl)
  send_keeps Sent m = unmoved refl
  send_keeps Receiving m = unmoved refl
  send_keeps Over m = unmoved refl

  -- the law, for one event
  pub event_keeps : (e : Event) → Keeps (turn_of e s)
  unfolding turn_of on_block on_silence on_hello on_ask on_send
  event_keeps (block x) = block_keeps s.phase (heard_of x s.sizes.ours) (get_or x 3 0) (len_of x)
  event_keeps silence = silence_keeps s.phase
  event_keeps hello = hello_keeps s.phase
  event_keeps (ask w v) = ask_keeps s.phase w v
  event_keeps (send m) = send_keeps s.phase m

-- and for any events from the beginning
pub bounded_after : (es : List Event) (s : State) → Bounded s → Bounded (after es s)
unfolding after
bounded_after [] s b = b
bounded_after (e ∷ es) s b = bounded_after es (turn_of e s).state (event_keeps s b e)

pub never_four : (role : Role) (theirs ours : ℕ) (es : List Event) → Bounded (after es (fresh_end role theirs ours))
unfolding fresh_end
never_four role theirs ours es = bounded_after es _ (record { information = omega arith; same = omega arith })
