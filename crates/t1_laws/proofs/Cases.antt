-- The turns that an event can bring at one end, each with what led to it: what holds of all of them holds of every turn. Assumes nothing.
use mathlib.Core.Path.{◌≡◌, refl, ap, subst}
use mathlib.Core.Bool.{Bool, true, false, false≢true}
use mathlib.Core.List.{List}
use Prim.Native.Nat.{ℕ, ◌+◌, ◌<◌, ◌≤◌}
use lib.ListN.{length, get_or}
use borrow.Author.Tests.{ltb-true, ltb-false}
use Rattle.std.specs.Prelude.{Ok, Err}
use Rattle.slices.specs.Tests.{between}
use Rattle.slices.proofs.Choice.{picked}
use Rattle.t1_block.specs.Blocks.{len_of}
use Rattle.t1_block.specs.Faults.{Heard, heard_of}
use Rattle.t1_block.specs.declared.What.{What}
use Rattle.t1_block.specs.declared.What.TheVariants.{Resynch, Ifs, Abort, Wtx}
use Rattle.t1_block.specs.declared.Kind.{Kind}
use Rattle.t1_block.specs.declared.Kind.TheVariants.{Information as I, Ready as R, Request as Asks, Response as Answers}
use Rattle.t1_state.specs.Limits.{message_most, information_limit, same_limit, more_of}
use Rattle.t1_state.specs.Changes.{at_phase, sending, with_sizes}
use Rattle.t1_state.specs.declared.Role.{Role}
use Rattle.t1_state.specs.declared.Role.TheVariants.{Terminal, Card}
use Rattle.t1_state.specs.declared.Phase.{Phase}
use Rattle.t1_state.specs.declared.Phase.TheVariants.{Start, Asking, Due, Sent, Receiving, Over}
use Rattle.t1_state.specs.declared.Last.{Last}
use Rattle.t1_state.specs.declared.Last.TheVariants.{Nothing, Information, Ready, Request, Response}
use Rattle.t1_state.specs.declared.State.{State}
use Rattle.t1_state.specs.declared.End.{End}
use Rattle.t1_state.specs.declared.End.TheVariants.{Limit, Silence, Abort as Aborted}
use Rattle.t1_state.specs.declared.Refusal.{Refusal}
use Rattle.t1_state.specs.declared.Refusal.TheVariants.{Closed, NotDue, Value, Message as NoMessage}
use Rattle.t1_state.specs.declared.Act.TheVariants.{Nothing as Quiet}
use Rattle.t1_state.specs.declared.Turn.{Turn}
use Rattle.t1_again.specs.Again.{goes_out, ended_by, refused_as, ready_for, stays_open, remains, exhausted, same_again}
use Rattle.t1_again.specs.Again.{information_again, wrong_after, wrong, for_role}
use Rattle.t1_line.specs.Line.{is_ifs, answers, on_request, sends_piece, sends_next, is_sent, on_ready, takes_fields}
use Rattle.t1_line.specs.Line.{keeps, on_information, on_kind, on_line}
use Rattle.t1_asking.specs.Asking.{is_response, settled, asked_instead, on_response, asked_kind, on_asking}
use Rattle.t1_turns.specs.Turns.{by_phase, on_block, silent_in, on_silence, asks_for, hello_in}
use Rattle.t1_turns.specs.Turns.{on_hello, may_ask, card_asks, ask_in, on_ask}
use Rattle.t1_turns.specs.Turns.{message_of, sends_message, send_in, on_send}
use Rattle.t1_laws.specs.Stopping.{awaits, is_same}
use Rattle.t1_laws.specs.Conduct.{listens, fits}

module _ (s : State) (orderly : fits s.phase s.last ≡ true) (P : Turn → Type 0)
    (refuses : (why : Refusal) → awaits s.phase ≡ false → P (refused_as why s))
    (ends : (e : End) → awaits s.phase ≡ true → P (ended_by e s))
    (stands : s.phase ≡ Asking → s.role ≡ Card → same_limit s.role s.last ≤ s.counts.same → P (remains s))
    (readies : (code : ℕ) → listens s.phase ≡ true → P (goes_out (ready_for code s)))
    (same : awaits s.phase ≡ true → is_same s.last ≡ true → s.counts.same < same_limit s.role s.last
    → P (goes_out (sending s.last (record { information = s.counts.information; same = s.counts.same + 1 }) s)))
    (again : s.phase ≡ Sent → s.counts.information < information_limit s.role
    → P (goes_out (sending Information (record { information = s.counts.information + 1; same = s.counts.same }) s)))
    (responds : (w : What) (v : ℕ) → listens s.phase ≡ true → P (answers w v s))
    (resizes : (v : ℕ) → listens s.phase ≡ true → is_ifs v ≡ true → P (answers Ifs v (with_sizes v s.sizes.ours s)))
    (goes_on : s.phase ≡ Sent → more_of s.message ≡ true → P (goes_out (sends_next s)))
    (takes : (more : Bool) (n : ℕ) → listens s.phase ≡ true → takes_fields s.phase (more_of s.message) ≡ true
    → P (keeps more n s))
    (settles : (w : What) (v : ℕ) → s.phase ≡ Asking → is_response s.last w v ≡ true
    → P (record { state = at_phase Due (settled w v s); act = Quiet }))
  where
    -- what has gone out as often as it may
    spent : awaits s.phase ≡ true → same_limit s.role s.last ≤ s.counts.same
        → ((stays_open s.role s.last ≡ true) → (s.phase ≡ Asking) × (s.role ≡ Card)) → P (exhausted s)
    unfolding exhausted
    spent w h f =
        picked P (stays_open s.role s.last) (remains s) (ended_by Limit s) (λ e. let g = f e in stands g.0 g.1 h) (λ e. ends Limit w)

    once_more : awaits s.phase ≡ true → is_same s.last ≡ true
        → ((stays_open s.role s.last ≡ true) → (s.phase ≡ Asking) × (s.role ≡ Card)) → P (same_again s)
    unfolding same_again
    once_more w i f =
        picked P _ _ _ (λ e. same w i (ltb-true s.counts.same (same_limit s.role s.last) e))
        (λ e. spent w (ltb-false s.counts.same (same_limit s.role s.last) e) f)

    card_is : (r : Role) (l : Last) → stays_open r l ≡ true → r ≡ Card
    card_is Terminal l e = absurd (false≢true e)
    card_is Card l e = refl

    -- a block where no request of our own is open
    module _ (listening : listens s.phase ≡ true) where
      waiting : awaits s.phase ≡ true
      waiting = by s.phase listening
        where
          by : (p : Phase) → listens p ≡ true → awaits p ≡ true
          by Start e = absurd (false≢true e)
          by Asking e = refl
          by Due e = absurd (false≢true e)
          by Sent e = refl
          by Receiving e = refl
          by Over e = absurd (false≢true e)

      no_request : (w : What) (v : ℕ) → s.last ≡ Request w v → {A : Type 0} → A
      no_request w v e = by s.phase listening (subst (λ (l : Last). fits s.phase l ≡ true) e orderly)
        where
          by : (p : Phase) → listens p ≡ true → fits p (Request w v) ≡ true → {A : Type 0} → A
          by Start f g = absurd (false≢true f)
          by Asking f g = absurd (false≢true f)
          by Due f g = absurd (false≢true f)
          by Sent f g = absurd (false≢true g)
          by Receiving f g = absurd (false≢true g)
          by Over f g = absurd (false≢true f)

      wrong_case : (l : Last) (code : ℕ) → s.last ≡ l → P (wrong_after l code s)
      unfolding wrong_after
      wrong_case Nothing code e = readies code listening
      wrong_case Information code e = readies code listening
      wrong_case (Ready pcb) code e =
          once_more waiting (ap is_same e) (λ f. absurd (not_open s.role (subst (λ (l : Last). stays_open s.role l ≡ true) e f)))
        where
          not_open : (r : Role) → stays_open r (Ready pcb) ≡ true → ⊥
          not_open Terminal f = false≢true f
          not_open Card f = false≢true f
      wrong_case (Request w v) code e = no_request w v e
      wrong_case (Response w v) code e = readies code listening

      wrong_one : (code : ℕ) → P (wrong code s)
      unfolding wrong
      wrong_one code = wrong_case s.last code refl

      role_case : (r : Role) (t c : Turn) → P t → P c → P (for_role r t c)
      unfolding for_role
      role_case Terminal t c p q = p
      role_case Card t c p q = q

      request_case : (w : What) (v : ℕ) → P (on_request w v s)
      unfolding on_request
      request_case Resynch v = wrong_one 2
      request_case Ifs v = picked P _ _ _ (λ e. resizes v listening e) (λ e. wrong_one 2)
      request_case Abort v = role_case s.role _ _ (ends Aborted waiting) (wrong_one 2)
      request_case Wtx v = role_case s.role _ _ (responds Wtx v listening) (wrong_one 2)

      sent_is : (p : Phase) → is_sent p ≡ true → p ≡ Sent
      sent_is Start e = absurd (false≢true e)
      sent_is Asking e = absurd (false≢true e)
      sent_is Due e = absurd (false≢true e)
      sent_is Sent e = refl
      sent_is Receiving e = absurd (false≢true e)
      sent_is Over e = absurd (false≢true e)

      again_case : s.phase ≡ Sent → P (information_again s)
      unfolding information_again
      again_case f =
          picked P _ _ _ (λ e. again f (ltb-true s.counts.information (information_limit s.role) e)) (λ e. ends Limit waiting)

      ready_case : (n : Bool) → P (on_ready n s)
      unfolding on_ready
      ready_case n =
          picked P _ _ _
          (λ e. picked P _ _ _ (λ f. picked P _ _ _ (λ g. goes_on (sent_is s.phase e) g) (λ g. wrong_one 2))
          (λ f. again_case (sent_is s.phase e)))
          (λ e. wrong_one 2)

      kind_case : (k : Kind) (v n : ℕ) → P (on_kind k v n s)
      unfolding on_kind on_information
      kind_case (I number more) v n =
          picked P _ _ _
          (λ e. picked P _ _ _ (λ f. picked P _ _ _ (λ g. ends Limit waiting) (λ g. takes more n listening e)) (λ f. wrong_one 2))
          (λ e. wrong_one 2)
      kind_case (R number) v n = ready_case number
      kind_case (Asks w) v n = request_case w v
      kind_case (Answers w) v n = wrong_one 2

      line_case : (h : Heard) (v n : ℕ) → P (on_line h v n s)
      unfolding on_line
      line_case (Ok k) v n = kind_case k v n
      line_case (Err code) v n = wrong_one code

    -- a block where one is open
    module _ (asking : s.phase ≡ Asking) where
      asked_again : P (same_again s)
      asked_again =
          once_more (ap awaits asking) (request s.last (subst (λ (p : Phase). fits p s.last ≡ true) asking orderly))
          (λ e. (asking, card_is s.role s.last e))
        where
          request : (l : Last) → fits Asking l ≡ true → is_same l ≡ true
          request Nothing e = absurd (false≢true e)
          request Information e = absurd (false≢true e)
          request (Ready pcb) e = absurd (false≢true e)
          request (Request w v) e = refl
          request (Response w v) e = absurd (false≢true e)

      instead_case : (w : What) → P (asked_instead w s)
      unfolding asked_instead for_role
      instead_case Resynch = asked_again
      instead_case Ifs = asked_again
      instead_case Abort = by s.role
        where
          by : (r : Role) → P (for_role r (ended_by Aborted s) (same_again s))
          by Terminal = ends Aborted (ap awaits asking)
          by Card = asked_again
      instead_case Wtx = asked_again

      asked_case : (h : Heard) (v : ℕ) → P (on_asking h v s)
      unfolding on_asking asked_kind on_response
      asked_case (Ok (I number more)) v = asked_again
      asked_case (Ok (R number)) v = asked_again
      asked_case (Ok (Asks w)) v = instead_case w
      asked_case (Ok (Answers w)) v = picked P _ _ _ (λ e. settles w v asking e) (λ e. asked_again)
      asked_case (Err code) v = asked_again

    pub every_block : (b : List ℕ) → P (on_block b s)
    unfolding on_block by_phase
    every_block b = by s.phase refl
      where
        by : (p : Phase) → s.phase ≡ p → P (by_phase p (heard_of b s.sizes.ours) (get_or b 3 0) (len_of b) s)
        by Start e = refuses NotDue (ap awaits e)
        by Asking e = asked_case e (heard_of b s.sizes.ours) (get_or b 3 0)
        by Due e = refuses NotDue (ap awaits e)
        by Sent e = line_case (ap listens e) (heard_of b s.sizes.ours) (get_or b 3 0) (len_of b)
        by Receiving e = line_case (ap listens e) (heard_of b s.sizes.ours) (get_or b 3 0) (len_of b)
        by Over e = refuses Closed (ap awaits e)

    pub every_silence : P (on_silence s)
    unfolding on_silence silent_in
    every_silence = by s.phase refl
      where
        by : (p : Phase) → s.phase ≡ p → P (silent_in p s)
        by Start e = refuses NotDue (ap awaits e)
        by Asking e = ends Silence (ap awaits e)
        by Due e = refuses NotDue (ap awaits e)
        by Sent e = ends Silence (ap awaits e)
        by Receiving e = ends Silence (ap awaits e)
        by Over e = refuses Closed (ap awaits e)

-- what an end does of itself
module _ (s : State) (P : Turn → Type 0) (refuses : (why : Refusal) → P (refused_as why s)) where
  pub every_hello : (s.phase ≡ Start → P (goes_out (asks_for Ifs 0xFE s))) → P (on_hello s)
  unfolding on_hello hello_in
  every_hello f = by s.phase refl
    where
      by : (p : Phase) → s.phase ≡ p → P (hello_in p s)
      by Start e = f e
      by Asking e = refuses NotDue
      by Due e = refuses NotDue
      by Sent e = refuses NotDue
      by Receiving e = refuses NotDue
      by Over e = refuses Closed

  pub every_ask : (w : What) (v : ℕ) → (s.phase ≡ Due → s.role ≡ Card → may_ask w v ≡ true → P (goes_out (asks_for w v s)))
      → P (on_ask w v s)
  unfolding on_ask ask_in card_asks for_role
  every_ask w v f = by s.phase refl
    where
      role : s.phase ≡ Due → (r : Role) → s.role ≡ r → P (for_role r (refused_as NotDue s) (card_asks w v s))
      role e Terminal g = refuses NotDue
      role e Card g = picked P _ _ _ (λ h. f e g h) (λ h. refuses Value)

      by : (p : Phase) → s.phase ≡ p → P (ask_in p w v s)
      by Start e = refuses NotDue
      by Asking e = refuses NotDue
      by Due e = role e s.role refl
      by Sent e = refuses NotDue
      by Receiving e = refuses NotDue
      by Over e = refuses Closed

  pub every_send : (m : List ℕ) → (s.phase ≡ Due → between 1 message_most (length m) ≡ true
      → P (goes_out (sends_piece (message_of s.sizes.theirs m) s))) → P (on_send m s)
  unfolding on_send send_in sends_message
  every_send m f = by s.phase refl
    where
      by : (p : Phase) → s.phase ≡ p → P (send_in p m s)
      by Start e = refuses NotDue
      by Asking e = refuses NotDue
      by Due e = picked P _ _ _ (λ g. f e g) (λ g. refuses NoMessage)
      by Sent e = refuses NotDue
      by Receiving e = refuses NotDue
      by Over e = refuses Closed
