-- What a call of `takes` left comes to what the piece comes to. Assumes nothing.
use mathlib.Core.Path.{◌≡◌, sym, ap, ◌∙◌}
use mathlib.Core.Bool.{true}
use mathlib.Core.List.{List}
use Prim.Native.Nat.{ℕ, ◌≤◌}
use native.Mathlib.Omega.{arith}
use lib.ListN.{length, drop, drop_of_length-le}
use Rattle.t0_pieces.specs.Pieces.{is_closed, Took, took, Gone, gone, taken_all}
use Rattle.t0_pieces.proofs.Whole.{closed_all, none_all, called_on, takes_some}
use Rattle.exchange_t0.proofs.turn.Bench.card.Goals as goal
use Rattle.exchange_t0.proofs.turn.Bench.card.Goals.{then-is_closed-via-then-is_closed, then-is_closed-via-else-is_closed+then-rest-t}

-- after the last call, where what is left comes to g: the exchange is over, or nothing is left
module _ (t : Took) (rest : List ℕ) (g : Gone) (left : taken_all t.state (drop t.taken rest) t.out t.answer ≡ g) where
  over : is_closed t.state ≡ true → gone t.state t.out t.answer ≡ g
  over e = sym (closed_all (drop t.taken rest) t.state t.out t.answer e) ∙ left

  no_more : length rest ≤ t.taken → gone t.state t.out t.answer ≡ g
  no_more h =
      sym (none_all t.state t.out t.answer)
      ∙ (ap (λ (l : List ℕ). taken_all t.state l t.out t.answer) (sym (drop_of_length-le rest h)) ∙ left)

pub returns-then-is_closed : goal.returns-then-is_closed
returns-then-is_closed g c =
    let t : Took = took c.takes-t.result c.takes-t.new.out c.takes-t.new.answer in
    let on = sym (called_on _ _ _ _ t c.takes-t.ensures) ∙ c.loop-self.invariant in
    elim c.then-is_closed.branch [
      | then-is_closed-via-then-is_closed w ↦ over t _ _ on (sym c.is_closed.ensures ∙ w.if-is_closed.true)
      | then-is_closed-via-else-is_closed+then-rest-t w ↦ no_more t _ _ on w.if-rest-t.true
    ]

pub loop-self-smaller : goal.loop-self-smaller
loop-self-smaller g c =
    let t = c.takes-t in
    let l = c.loop-self in
    let more = c.if-rest-t.false in
    let some = takes_some l.rest.now l.self.state l.self.out l.self.answer (took t.result t.new.out t.new.answer) t.ensures
    (sym c.is_closed.ensures ∙ c.if-is_closed.false) (omega arith) in
    omega (arith, c.split_at.ensures.back_len)

pub loop-self-preserved : goal.loop-self-preserved
loop-self-preserved g c =
    let t = c.takes-t in
    ap (λ (l : List ℕ). taken_all t.result.state l t.new.out t.new.answer) c.split_at.ensures.back
    ∙ (sym (called_on _ _ _ _ (took t.result t.new.out t.new.answer) t.ensures) ∙ c.loop-self.invariant)
