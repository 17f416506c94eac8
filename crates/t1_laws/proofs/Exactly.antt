-- What a block that comes as it was sent brings, turn by turn: a request its response, a response the end of the request, an R-block the
-- next piece, the same piece or the request again. And what a block that is not valid brings. Assumes nothing.
use mathlib.Core.Path.{◌≡◌, refl, sym, ap, subst, ◌∙◌}
use mathlib.Core.Bool.{Bool, true, false, not, false≢true}
use mathlib.Core.List.{List, [], ◌∷◌}
use Prim.Native.Nat.{ℕ, ◌+◌, ◌≤◌}
use native.Mathlib.Omega.{arith}
use lib.ListN.{get_or}
use borrow.Author.Tests.{eq-eqb, lt-ltb}
use Rattle.std.specs.Prelude.{Ok, Err}
use Rattle.slices.proofs.Choice.{pick_yes, pick_no, picked}
use Rattle.t1_block.specs.Blocks.{len_of, what_number, pcb_of_s, framed}
use Rattle.t1_block.specs.Faults.{Heard, sized, heard_of}
use Rattle.t1_block.proofs.Framing.{not_too_long}
use Rattle.t1_block.specs.declared.What.{What}
use Rattle.t1_block.specs.declared.What.TheVariants.{Resynch, Ifs, Abort, Wtx}
use Rattle.t1_block.specs.declared.Kind.TheVariants.{Ready as R, Request as Asks, Response as Answers}
use Rattle.t1_state.specs.Limits.{information_limit, asking_limit, same_limit, more_of}
use Rattle.t1_state.specs.Changes.{at_phase, sending, with_sizes}
use Rattle.t1_state.specs.declared.Role.{Role}
use Rattle.t1_state.specs.declared.Role.TheVariants.{Terminal, Card}
use Rattle.t1_state.specs.declared.Phase.{Phase}
use Rattle.t1_state.specs.declared.Phase.TheVariants.{Asking, Due, Sent}
use Rattle.t1_state.specs.declared.Last.{Last}
use Rattle.t1_state.specs.declared.Last.TheVariants.{Nothing, Information, Ready, Request, Response}
use Rattle.t1_state.specs.declared.State.{State}
use Rattle.t1_state.specs.declared.Act.TheVariants.{Nothing as Quiet}
use Rattle.t1_state.specs.declared.Turn.{Turn}
use Rattle.t1_again.specs.Again.{goes_out, ready_for, same_again, information_again, wrong_after, wrong, for_role}
use Rattle.t1_line.specs.Line.{is_ifs, answers, on_request, sends_next, equal, is_sent, on_ready, takes_fields, on_kind, on_line}
use Rattle.t1_asking.specs.Asking.{is_response, settled, on_response, asked_kind, on_asking}
use Rattle.t1_turns.specs.Turns.{by_phase, on_block}
use Rattle.t1.specs.Steps.{block_for, block_of}
use Rattle.t1_laws.specs.Stopping.{is_bad}
use Rattle.t1_laws.proofs.Reading.{heard_back, kind_request, kind_response}
use Rattle.t1_laws.proofs.Rounds.{equal_same, on_line_lem}
use Rattle.t1_laws.proofs.Still.{Says}
use Rattle.t1_laws.proofs.Hearing.{equal_not}
use Rattle.t1_laws.proofs.Lossy.{sent_more}

-- twice is always allowed
two_asking : (w : What) → 2 ≤ asking_limit w
two_asking Resynch = omega arith
two_asking Ifs = omega arith
two_asking Abort = omega arith
two_asking Wtx = omega arith

pub twice : (r : Role) (l : Last) → 2 ≤ same_limit r l
twice Terminal l = omega arith
twice Card Nothing = omega arith
twice Card Information = omega arith
twice Card (Ready p) = omega arith
twice Card (Request w v) = two_asking w
twice Card (Response w v) = omega arith

pub twice_information : (r : Role) → 2 ≤ information_limit r
twice_information Terminal = omega arith
twice_information Card = omega arith

-- once more
abbrev pub repeated : State → Turn
repeated s = goes_out (sending s.last (record { information = s.counts.information; same = s.counts.same + 1 }) s)

abbrev pub resent : State → Turn
resent s = goes_out (sending Information (record { information = s.counts.information + 1; same = s.counts.same }) s)

pub same_again_lem : (s : State) → s.counts.same ≤ 1 → same_again s ≡ repeated s
unfolding same_again
same_again_lem s h = pick_yes _ _ _ (lt-ltb s.counts.same (same_limit s.role s.last) (let t = twice s.role s.last in omega arith))

pub information_again_lem : (s : State) → s.counts.information ≤ 1 → information_again s ≡ resent s
unfolding information_again
information_again_lem s h = pick_yes _ _ _ (lt-ltb s.counts.information (information_limit s.role)
    (let t = twice_information s.role in omega arith))

-- after a block that is not taken: an R-block for the first time, or again
pub wrong_ready : (s : State) (p code : ℕ) → s.last ≡ Ready p → s.counts.same ≤ 1 → wrong code s ≡ repeated s
unfolding wrong wrong_after
wrong_ready s p code e h = ap (λ (l : Last). wrong_after l code s) e ∙ same_again_lem s h

abbrev pub opens : Last → Bool
opens Nothing = true
opens Information = true
opens (Ready p) = false
opens (Request w v) = false
opens (Response w v) = true

pub wrong_opens : (s : State) (code : ℕ) → opens s.last ≡ true → wrong code s ≡ goes_out (ready_for code s)
unfolding wrong wrong_after
wrong_opens s code e = by s.last e
  where
    by : (l : Last) → opens l ≡ true → wrong_after l code s ≡ goes_out (ready_for code s)
    by Nothing f = refl
    by Information f = refl
    by (Ready p) f = absurd (false≢true f)
    by (Request w v) f = absurd (false≢true f)
    by (Response w v) f = refl

-- what may be asked of an end
pub data Askable (y : State) (v : What) (u : ℕ) : Type 0 where
  a_size : v ≡ Ifs → is_ifs u ≡ true → Askable y v u
  some_time : v ≡ Wtx → y.role ≡ Terminal → Askable y v u

abbrev pub resized : What → ℕ → State → State
resized Resynch u y = y
resized Ifs u y = with_sizes u y.sizes.ours y
resized Abort u y = y
resized Wtx u y = y

-- a request comes
module _ (x y : State) (v : What) (u : ℕ) (asks : x.last ≡ Request v u) (takes : takes_fields y.phase (more_of y.message) ≡ true) where
  request_block : block_of x ≡ framed (pcb_of_s false v) (u ∷ [])
  unfolding block_of block_for
  request_block = ap (λ (l : Last). block_for l x) asks ∙ not_too_long (pcb_of_s false v) (u ∷ []) (omega arith)

  line_of : (h : Heard) → heard_of (framed (pcb_of_s false v) (u ∷ [])) y.sizes.ours ≡ h → on_block (block_of x) y ≡ on_line h u 1 y
  unfolding on_block framed
  line_of h e =
      ap (λ (b : List ℕ). on_block b y) request_block
      ∙ (on_line_lem y.phase (more_of y.message) (heard_of (framed (pcb_of_s false v) (u ∷ [])) y.sizes.ours) u 1 y takes
      ∙ ap (λ (g : Heard). on_line g u 1 y) e)

  pub request_heard : Askable y v u → on_block (block_of x) y ≡ answers v u (resized v u y)
  unfolding on_line on_kind on_request sized for_role
  request_heard (a_size e f) =
      line_of (Ok (Asks v))
      (heard_back (pcb_of_s false v) (u ∷ []) y.sizes.ours (Asks v) (omega arith) (kind_request v)
      (subst (λ (z : What). sized (Asks z) 1 y.sizes.ours ≡ Ok (Asks z)) (sym e) (pick_yes _ _ _ refl)))
      ∙ (ap (λ (z : What). on_request z u y) e ∙ (pick_yes _ _ _ f ∙ ap (λ (z : What). answers z u (resized z u y)) (sym e)))
  request_heard (some_time e f) =
      line_of (Ok (Asks v))
      (heard_back (pcb_of_s false v) (u ∷ []) y.sizes.ours (Asks v) (omega arith) (kind_request v)
      (subst (λ (z : What). sized (Asks z) 1 y.sizes.ours ≡ Ok (Asks z)) (sym e) (pick_yes _ _ _ refl)))
      ∙ (ap (λ (z : What). on_request z u y) e
      ∙ (ap (λ (r : Role). for_role r (answers Wtx u y) (wrong 2 y)) f ∙ ap (λ (z : What). answers z u (resized z u y)) (sym e)))

-- its response comes
module _ (x y : State) (v : What) (u : ℕ) (asking : x.phase ≡ Asking) (asks : x.last ≡ Request v u) (responds : y.last ≡ Response v u)
    (fits : sized (Answers v) 1 x.sizes.ours ≡ Ok (Answers v)) where
  response_block : block_of y ≡ framed (pcb_of_s true v) (u ∷ [])
  unfolding block_of block_for
  response_block = ap (λ (l : Last). block_for l y) responds ∙ not_too_long (pcb_of_s true v) (u ∷ []) (omega arith)

  is_response_lem : is_response x.last v u ≡ true
  unfolding is_response
  is_response_lem = ap (λ (l : Last). is_response l v u) asks
      ∙ (pick_yes _ _ _ (eq-eqb (what_number v) (what_number v) refl) ∙ eq-eqb u u refl)

  pub response_heard : on_block (block_of y) x ≡ record { state = at_phase Due (settled v u x); act = Quiet }
  unfolding on_block by_phase on_asking asked_kind on_response framed
  response_heard =
      ap (λ (b : List ℕ). on_block b x) response_block
      ∙ (ap (λ (p : Phase). by_phase p (heard_of (framed (pcb_of_s true v) (u ∷ [])) x.sizes.ours) u 1 x) asking
      ∙ (ap (λ (h : Heard). on_asking h u x)
      (heard_back (pcb_of_s true v) (u ∷ []) x.sizes.ours (Answers v) (omega arith) (kind_response v) fits)
      ∙ pick_yes _ _ _ is_response_lem))

-- an R-block comes
module _ (y x : State) (p : ℕ) (w : Says y) (out : y.last ≡ Ready p) where
  ready_block : block_of y ≡ framed p []
  unfolding block_of block_for
  ready_block = ap (λ (l : Last). block_for l y) out ∙ not_too_long p [] (omega arith)

  ready_hears : heard_of (framed p []) x.sizes.ours ≡ Ok (R y.numbers.expected)
  unfolding sized
  ready_hears =
      heard_back p [] x.sizes.ours (R y.numbers.expected) (omega arith) (w.numbered p out) (pick_yes _ _ _ (eq-eqb 0 0 refl))

  -- where fields are taken, or pieces sent
  pub ready_on_line : (h : (v n : ℕ) → by_phase x.phase (Ok (R y.numbers.expected)) v n x ≡ on_ready y.numbers.expected x)
      → on_block (block_of y) x ≡ on_ready y.numbers.expected x
  unfolding on_block
  ready_on_line h =
      ap (λ (b : List ℕ). on_block b x) ready_block
      ∙ (ap (λ (g : Heard). by_phase x.phase g (get_or (framed p []) 3 0) (len_of (framed p [])) x) ready_hears ∙ h _ _)

  sent_line : x.phase ≡ Sent → (v n : ℕ) → by_phase x.phase (Ok (R y.numbers.expected)) v n x ≡ on_ready y.numbers.expected x
  unfolding by_phase on_line on_kind
  sent_line e v n = ap (λ (q : Phase). by_phase q (Ok (R y.numbers.expected)) v n x) e

  -- the next piece
  pub next_asked : x.phase ≡ Sent → y.numbers.expected ≡ x.numbers.next → more_of x.message ≡ true
      → on_block (block_of y) x ≡ goes_out (sends_next x)
  unfolding on_ready
  next_asked e n more =
      ready_on_line (sent_line e)
      ∙ (pick_yes _ _ _ (ap is_sent e)
      ∙ (pick_yes _ _ _ (ap (λ (z : Bool). equal z x.numbers.next) n ∙ equal_same x.numbers.next) ∙ pick_yes _ _ _ more))

  -- the same piece
  pub again_asked : x.phase ≡ Sent → y.numbers.expected ≡ not x.numbers.next → x.counts.information ≤ 1
      → on_block (block_of y) x ≡ resent x
  unfolding on_ready
  again_asked e n few =
      ready_on_line (sent_line e)
      ∙ (pick_yes _ _ _ (ap is_sent e)
      ∙ (pick_no _ _ _ (ap (λ (z : Bool). equal z x.numbers.next) n ∙ equal_not x.numbers.next) ∙ information_again_lem x few))

  -- a request again
  pub request_asked : x.phase ≡ Asking → x.counts.same ≤ 1 → on_block (block_of y) x ≡ repeated x
  unfolding on_block by_phase on_asking asked_kind
  request_asked e few =
      ap (λ (b : List ℕ). on_block b x) ready_block
      ∙ (ap (λ (g : Heard). by_phase x.phase g (get_or (framed p []) 3 0) (len_of (framed p [])) x) ready_hears
      ∙ (ap (λ (q : Phase). by_phase q (Ok (R y.numbers.expected)) (get_or (framed p []) 3 0) (len_of (framed p [])) x) e
      ∙ same_again_lem x few))

  -- the R-block for a piece again
  pub ready_asked : (q : ℕ) → takes_fields x.phase (more_of x.message) ≡ true → y.numbers.expected ≡ x.numbers.next
      → x.last ≡ Ready q → x.counts.same ≤ 1 → on_block (block_of y) x ≡ repeated x
  unfolding on_ready on_line on_kind
  ready_asked q takes n l few =
      ready_on_line (λ v k. on_line_lem x.phase (more_of x.message) (Ok (R y.numbers.expected)) v k x takes)
      ∙ picked (λ (t : Turn). t ≡ repeated x) _ _ _
      (λ i.
      pick_yes _ _ _ (ap (λ (z : Bool). equal z x.numbers.next) n ∙ equal_same x.numbers.next)
      ∙ picked (λ (t : Turn). t ≡ repeated x) _ _ _ (λ j. absurd (sent_more x.phase (more_of x.message) i takes j))
      (λ j. wrong_ready x q 2 l few))
      (λ i. wrong_ready x q 2 l few)

-- a block that is not valid
pub heard_bad : (h : Heard) → is_bad h ≡ true → (code : ℕ) × (h ≡ Err code)
heard_bad (Ok k) e = absurd (false≢true e)
heard_bad (Err c) e = (c, refl)

module _ (b : List ℕ) (x : State) (bad : is_bad (heard_of b x.sizes.ours) ≡ true) where
  abbrev pub code : ℕ
  code = (heard_bad (heard_of b x.sizes.ours) bad).0

  pub bad_line : takes_fields x.phase (more_of x.message) ≡ true → on_block b x ≡ wrong code x
  unfolding on_block on_line
  bad_line takes =
      on_line_lem x.phase (more_of x.message) (heard_of b x.sizes.ours) (get_or b 3 0) (len_of b) x takes
      ∙ ap (λ (h : Heard). on_line h (get_or b 3 0) (len_of b) x) (heard_bad (heard_of b x.sizes.ours) bad).1

  pub bad_sent : x.phase ≡ Sent → on_block b x ≡ wrong code x
  unfolding on_block by_phase on_line
  bad_sent e =
      ap (λ (p : Phase). by_phase p (heard_of b x.sizes.ours) (get_or b 3 0) (len_of b) x) e
      ∙ ap (λ (h : Heard). on_line h (get_or b 3 0) (len_of b) x) (heard_bad (heard_of b x.sizes.ours) bad).1

  pub bad_asking : x.phase ≡ Asking → x.counts.same ≤ 1 → on_block b x ≡ repeated x
  unfolding on_block by_phase on_asking
  bad_asking e few =
      ap (λ (p : Phase). by_phase p (heard_of b x.sizes.ours) (get_or b 3 0) (len_of b) x) e
      ∙ (ap (λ (h : Heard). on_asking h (get_or b 3 0) x) (heard_bad (heard_of b x.sizes.ours) bad).1 ∙ same_again_lem x few)
