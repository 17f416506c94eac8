-- A field is kept only from an I-block with the number that is expected, and then the other number is expected; nothing else moves
-- that number. So a block that comes again is not kept again, whatever came between, and no field is kept out of its turn.
-- Assumes nothing.
use mathlib.Core.Path.{◌≡◌, refl, sym, ap, ◌∙◌}
use mathlib.Core.Bool.{Bool, true, false, not, false≢true}
use mathlib.Core.List.{List}
use Prim.Native.Nat.{ℕ}
use lib.ListN.{get_or}
use Rattle.std.specs.Prelude.{Ok, Err}
use Rattle.slices.specs.Choice.{pick}
use Rattle.slices.proofs.Choice.{picked}
use Rattle.t1_block.specs.Blocks.{len_of}
use Rattle.t1_block.specs.Faults.{Heard, heard_of}
use Rattle.t1_block.specs.declared.What.{What}
use Rattle.t1_block.specs.declared.What.TheVariants.{Resynch, Ifs, Abort, Wtx}
use Rattle.t1_block.specs.declared.Kind.{Kind}
use Rattle.t1_block.specs.declared.Kind.TheVariants.{Information as I, Ready as R, Request as Asks, Response as Answers}
use Rattle.t1_state.specs.declared.Role.{Role}
use Rattle.t1_state.specs.declared.Role.TheVariants.{Terminal, Card}
use Rattle.t1_state.specs.declared.Phase.{Phase}
use Rattle.t1_state.specs.declared.Phase.TheVariants.{Start, Asking, Due, Sent, Receiving, Over}
use Rattle.t1_state.specs.declared.Last.{Last}
use Rattle.t1_state.specs.declared.Last.TheVariants.{Nothing, Information, Ready, Request, Response}
use Rattle.t1_state.specs.declared.State.{State}
use Rattle.t1_state.specs.declared.Turn.{Turn}
use Rattle.t1_again.specs.Again.{ready_for, exhausted, same_again, information_again, wrong_after, wrong, for_role}
use Rattle.t1_line.specs.Line.{answers, on_request, sends_piece, sends_next, equal, on_ready, keeps, on_information, on_kind, on_line}
use Rattle.t1_asking.specs.Asking.{settled, asked_instead, on_response, asked_kind, on_asking}
use Rattle.t1_turns.specs.Turns.{by_phase, on_block}
use Rattle.t1_laws.specs.Keeping.{is_kept, carries}

-- a turn that keeps nothing, and expects what was expected
record Quiet (s : State) (t : Turn) : Type 0 where
  kept : is_kept t.act ≡ false
  same : t.state.numbers.expected ≡ s.numbers.expected

-- what a block can do to an end
pub record Fate (s : State) (h : Heard) (t : Turn) : Type 0 where
  pub takes : is_kept t.act ≡ true
      → (carries s.numbers.expected h ≡ true) × (t.state.numbers.expected ≡ not s.numbers.expected)
  pub leaves : is_kept t.act ≡ false → t.state.numbers.expected ≡ s.numbers.expected

quietly : (s : State) (h : Heard) (t : Turn) → Quiet s t → Fate s h t
quietly s h t q = record { takes = λ e. absurd (false≢true (sym q.kept ∙ e)); leaves = λ e. q.same }

module _ (s : State) where
  both : (r : Role) (t c : Turn) → Quiet s t → Quiet s c → Quiet s (for_role r t c)
  unfolding for_role
  both Terminal t c p q = p
  both Card t c p q = q

  exhausted_quiet : Quiet s (exhausted s)
  unfolding exhausted
  exhausted_quiet = picked (Quiet s) _ _ _ (λ e. record { kept = refl; same = refl }) (λ e. record { kept = refl; same = refl })

  same_quiet : Quiet s (same_again s)
  unfolding same_again
  same_quiet = picked (Quiet s) _ _ _ (λ e. record { kept = refl; same = refl }) (λ e. exhausted_quiet)

  again_quiet : Quiet s (information_again s)
  unfolding information_again
  again_quiet = picked (Quiet s) _ _ _ (λ e. record { kept = refl; same = refl }) (λ e. record { kept = refl; same = refl })

  wrong_after_lem : (l : Last) (code : ℕ) → Quiet s (wrong_after l code s)
  unfolding wrong_after ready_for
  wrong_after_lem Nothing code = record { kept = refl; same = refl }
  wrong_after_lem Information code = record { kept = refl; same = refl }
  wrong_after_lem (Ready pcb) code = same_quiet
  wrong_after_lem (Request w v) code = same_quiet
  wrong_after_lem (Response w v) code = record { kept = refl; same = refl }

  wrong_quiet : (code : ℕ) → Quiet s (wrong code s)
  unfolding wrong
  wrong_quiet code = wrong_after_lem s.last code

  request_quiet : (w : What) (v : ℕ) → Quiet s (on_request w v s)
  unfolding on_request answers
  request_quiet Resynch v = wrong_quiet 2
  request_quiet Ifs v = picked (Quiet s) _ _ _ (λ e. record { kept = refl; same = refl }) (λ e. wrong_quiet 2)
  request_quiet Abort v = both s.role _ _ (record { kept = refl; same = refl }) (wrong_quiet 2)
  request_quiet Wtx v = both s.role _ _ (record { kept = refl; same = refl }) (wrong_quiet 2)

  ready_quiet : (n : Bool) → Quiet s (on_ready n s)
  unfolding on_ready sends_next sends_piece
  ready_quiet n =
      picked (Quiet s) _ _ _
      (λ e. picked (Quiet s) _ _ _
      (λ f. picked (Quiet s) _ _ _ (λ g. record { kept = refl; same = refl }) (λ g. wrong_quiet 2)) (λ f. again_quiet))
      (λ e. wrong_quiet 2)

  -- a field that is kept, where its number is the one expected
  keeps_fate : (more : Bool) (n : ℕ) (h : Heard) → carries s.numbers.expected h ≡ true → Fate s h (keeps more n s)
  unfolding keeps ready_for
  keeps_fate more n h c =
      picked (Fate s h) more _ _ (λ e. record { takes = λ f. (c, refl); leaves = λ f. absurd (false≢true (sym f)) })
      (λ e. record { takes = λ f. (c, refl); leaves = λ f. absurd (false≢true (sym f)) })

  information_fate : (number more : Bool) (n : ℕ) → Fate s (Ok (I number more)) (on_information number more n s)
  unfolding on_information
  information_fate number more n =
      let h = Ok (I number more) in
      picked (Fate s h) _ _ _
      (λ e. picked (Fate s h) _ _ _
      (λ f. picked (Fate s h) _ _ _ (λ g. quietly s h _ (record { kept = refl; same = refl })) (λ g. keeps_fate more n h f))
      (λ f. quietly s h _ (wrong_quiet 2)))
      (λ e. quietly s h _ (wrong_quiet 2))

  kind_fate : (k : Kind) (v n : ℕ) → Fate s (Ok k) (on_kind k v n s)
  unfolding on_kind
  kind_fate (I number more) v n = information_fate number more n
  kind_fate (R number) v n = quietly s (Ok (R number)) _ (ready_quiet number)
  kind_fate (Asks w) v n = quietly s (Ok (Asks w)) _ (request_quiet w v)
  kind_fate (Answers w) v n = quietly s (Ok (Answers w)) _ (wrong_quiet 2)

  line_fate : (h : Heard) (v n : ℕ) → Fate s h (on_line h v n s)
  unfolding on_line
  line_fate (Ok k) v n = kind_fate k v n
  line_fate (Err code) v n = quietly s (Err code) _ (wrong_quiet code)

  instead_quiet : (w : What) → Quiet s (asked_instead w s)
  unfolding asked_instead
  instead_quiet Resynch = same_quiet
  instead_quiet Ifs = same_quiet
  instead_quiet Abort = both s.role _ _ (record { kept = refl; same = refl }) same_quiet
  instead_quiet Wtx = same_quiet

  settled_same : (w : What) (v : ℕ) → (settled w v s).numbers.expected ≡ s.numbers.expected
  settled_same Resynch v = refl
  settled_same Ifs v = refl
  settled_same Abort v = refl
  settled_same Wtx v = refl

  response_quiet : (w : What) (v : ℕ) → Quiet s (on_response w v s)
  unfolding on_response
  response_quiet w v = picked (Quiet s) _ _ _ (λ e. record { kept = refl; same = settled_same w v }) (λ e. same_quiet)

  asked_quiet : (k : Kind) (v : ℕ) → Quiet s (asked_kind k v s)
  unfolding asked_kind
  asked_quiet (I number more) v = same_quiet
  asked_quiet (R number) v = same_quiet
  asked_quiet (Asks w) v = instead_quiet w
  asked_quiet (Answers w) v = response_quiet w v

  asking_quiet : (h : Heard) (v : ℕ) → Quiet s (on_asking h v s)
  unfolding on_asking
  asking_quiet (Ok k) v = asked_quiet k v
  asking_quiet (Err code) v = same_quiet

  phase_fate : (p : Phase) (h : Heard) (v n : ℕ) → Fate s h (by_phase p h v n s)
  unfolding by_phase
  phase_fate Start h v n = quietly s h _ (record { kept = refl; same = refl })
  phase_fate Asking h v n = quietly s h _ (asking_quiet h v)
  phase_fate Due h v n = quietly s h _ (record { kept = refl; same = refl })
  phase_fate Sent h v n = line_fate h v n
  phase_fate Receiving h v n = line_fate h v n
  phase_fate Over h v n = quietly s h _ (record { kept = refl; same = refl })

  -- the law: any bytes, any end
  pub block_fate : (b : List ℕ) → Fate s (heard_of b s.sizes.ours) (on_block b s)
  unfolding on_block
  block_fate b = phase_fate s.phase (heard_of b s.sizes.ours) (get_or b 3 0) (len_of b)

-- a number is not its opposite
other : (a b : Bool) → equal a b ≡ true → equal a (not b) ≡ false
unfolding equal pick
other true true e = refl
other true false e = absurd (false≢true e)
other false true e = absurd (false≢true e)
other false false e = refl

apart : (h : Heard) (n : Bool) → carries n h ≡ true → carries (not n) h ≡ false
apart (Ok (I m more)) n e = other m n e
apart (Ok (R m)) n e = absurd (false≢true e)
apart (Ok (Asks w)) n e = absurd (false≢true e)
apart (Ok (Answers w)) n e = absurd (false≢true e)
apart (Err code) n e = absurd (false≢true e)

untrue : (t : Bool) → (t ≡ true → ⊥) → t ≡ false
untrue true k = absurd (k refl)
untrue false k = refl

-- a block that was kept is not kept again by an end that still expects what was expected after it
pub once : (b : List ℕ) (s r : State) → is_kept (on_block b s).act ≡ true → r.numbers.expected ≡ (on_block b s).state.numbers.expected
    → r.sizes.ours ≡ s.sizes.ours → is_kept (on_block b r).act ≡ false
once b s r k e o =
    let first = (block_fate s b).takes k in
    let h = heard_of b s.sizes.ours in
    untrue _ (λ j.
    false≢true (sym (apart h s.numbers.expected first.0)
    ∙ (ap (λ (n : Bool). carries n h) (sym (e ∙ first.1))
    ∙ (ap (λ (m : ℕ). carries r.numbers.expected (heard_of b m)) (sym o) ∙ ((block_fate r b).takes j).0))))
