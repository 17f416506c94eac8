-- A call of `takes` goes through a capture as byte by byte does: what is left of the piece, taken from where the call ended, leads to
-- the outcome of the whole. Assumes nothing.
use mathlib.Core.Path.{◌≡◌, refl, sym, ap, ap₂, ◌∙◌}
use mathlib.Core.Bool.{true, false}
use mathlib.Core.List.{List, [], ◌∷◌}
use Prim.Native.Nat.{ℕ, suc, ◌+◌, ◌-◌, ◌≤◌}
use native.Mathlib.Omega.{arith}
use lib.ListN.{drop}
use Rattle.slices.proofs.Choice.{pick_yes, pick_no, picked, either}
use Rattle.t0_state.specs.declared.State.{State}
use Rattle.t0_begin.specs.declared.Reply.{Reply}
use Rattle.t0_begin.specs.declared.Reply.TheVariants.{Go, Answer}
use Rattle.t0_begin.specs.Begin.{wait_for}
use Rattle.t0.specs.Steps.{Stepped, done, step_of}
use Rattle.t0_pieces.specs.Pieces.{is_closed, waiting_in, is_quiet, Took, here, ends, takes_from}
use Rattle.t0_laws.specs.Outcomes.{Outcome, logged, settled, stepped_to, playing, called_to}
use Rattle.t0_laws.proofs.Cutting.{going}
use Rattle.t0_laws.proofs.Quiet.{quiet_open}
use Rattle.std.specs.Prelude.{Result, Err, Ok}
use Rattle.t0_state.specs.declared.Refusal.{Refusal}

-- a quiet reply adds nothing to what was sent
unlogged : (y : Result Reply Refusal) (out : List ℕ) (sent : List (List ℕ)) → is_quiet y ≡ true → logged y out sent ≡ sent
unfolding logged is_quiet
unlogged (Ok (Go n w)) out sent e = pick_yes _ _ _ e
unlogged (Ok (Answer n)) out sent e = refl
unlogged (Err why) out sent e = refl

-- after a quiet step
module _ (s : State) (b : ℕ) (out answer : List ℕ) (q : is_quiet (step_of s b out answer).reply ≡ true) where
  opens : is_closed (step_of s b out answer).state ≡ false
  unfolding is_closed step_of done
  opens = (quiet_open s b _ _ q).0

  pub says : settled (step_of s b out answer).reply ≡ waiting_in (step_of s b out answer).state
  unfolding step_of done waiting_in
  says = (quiet_open s b _ _ q).1 ∙ sym (pick_no _ _ _ opens)

-- a call takes no byte back
pub grows : (piece : List ℕ) (n : ℕ) (s : State) (out answer : List ℕ) → n ≤ (takes_from n s piece out answer).taken
unfolding takes_from
grows [] n s out answer = omega arith
grows (b ∷ piece) n s out answer =
    let r = step_of s b out answer in
    picked (λ (t : Took). n ≤ t.taken) (is_closed s) _ _ (λ e. omega arith)
    (λ e. picked (λ (t : Took). n ≤ t.taken) (is_quiet r.reply) _ _
    (λ f. let more = grows piece (n + 1) r.state r.out r.answer in omega arith) (λ f. omega arith))

waits : (s : State) → is_closed s ≡ false → waiting_in s ≡ Ok (Go 0 (wait_for s.phase))
unfolding waiting_in
waits s e = pick_no _ _ _ e

-- a call that takes no byte
called_here : (o : Outcome) → (is_closed o.state ≡ false → o.said ≡ waiting_in o.state)
    → called_to o (here o.taken o.state o.out o.answer) ≡ o
unfolding called_to is_quiet settled
called_here o w =
    picked (λ (x : Outcome). x ≡ o) (is_closed o.state) _ _ (λ e. refl)
    (λ e. ap₂ (λ (x : List (List ℕ))
    (y : Result Reply Refusal). record { state = o.state; taken = o.taken; sent = x; said = y; out = o.out; answer = o.answer })
    (unlogged (waiting_in o.state) o.out o.sent (ap is_quiet (waits o.state e)))
    (ap settled (waits o.state e) ∙ (sym (waits o.state e) ∙ sym (w e))))

-- a call from an exchange that is not over
called_open : (o : Outcome) (t : Took) → is_closed o.state ≡ false
    → called_to o t ≡ record {
      state = t.state;
      taken = t.taken;
      sent = logged t.reply t.out o.sent;
      said = settled
          t.reply;
      out = t.out;
      answer = t.answer;
    }
unfolding called_to
called_open o t e = pick_no _ _ _ e

-- where a call leads, with what is left of its piece
abbrev on_from : Outcome → List ℕ → Took → Outcome
on_from o piece t = playing (called_to o t) (drop (t.taken - o.taken) piece)

pub called : (piece : List ℕ) (o : Outcome) → (is_closed o.state ≡ false → o.said ≡ waiting_in o.state)
    → playing o piece ≡ on_from o piece (takes_from o.taken o.state piece o.out o.answer)
unfolding takes_from playing
called [] o w =
    let none : o.taken - o.taken ≡ 0 = omega arith in
    sym (ap₂ (λ (x : Outcome) (k : ℕ). playing x (drop k [])) (called_here o w) none)
called (b ∷ piece) o w =
    either (is_closed o.state) over
    (λ e. either (is_quiet r.reply) (λ f. quiet e f (called piece next (λ g. says o.state b o.out o.answer f))) (loud e))
  where
    r : Stepped
    r = step_of o.state b o.out o.answer

    next : Outcome
    next = stepped_to o r

    t : Took
    t = takes_from (o.taken + 1) r.state piece r.out r.answer

    over : is_closed o.state ≡ true
        → playing o (b ∷ piece) ≡ on_from o (b ∷ piece) (takes_from o.taken o.state (b ∷ piece) o.out o.answer)
    over e =
        let none : o.taken - o.taken ≡ 0 = omega arith in
        sym (ap (on_from o (b ∷ piece)) (pick_yes _ _ _ e)
        ∙ ap₂ (λ (x : Outcome) (k : ℕ). playing x (drop k (b ∷ piece))) (called_here o w) none)

    loud : is_closed o.state ≡ false → is_quiet r.reply ≡ false
        → playing o (b ∷ piece) ≡ on_from o (b ∷ piece) (takes_from o.taken o.state (b ∷ piece) o.out o.answer)
    loud e f =
        let one : o.taken + 1 - o.taken ≡ 1 = omega arith in
        going o b piece e
        ∙ sym (ap (on_from o (b ∷ piece)) (pick_no _ _ _ e ∙ pick_no _ _ _ f)
        ∙ ap₂ (λ (x : Outcome) (k : ℕ). playing x (drop k (b ∷ piece))) (called_open o (ends (o.taken + 1) r) e) one)

    quiet : is_closed o.state ≡ false → is_quiet r.reply ≡ true → playing next piece ≡ on_from next piece t
        → playing o (b ∷ piece) ≡ on_from o (b ∷ piece) (takes_from o.taken o.state (b ∷ piece) o.out o.answer)
    quiet e f rest =
        let more = grows piece (o.taken + 1) r.state r.out r.answer in
        let k = t.taken - (o.taken + 1) in
        let behind : t.taken - o.taken ≡ suc k = omega arith in
        let same : called_to next t ≡ called_to o t
        = called_open next t (opens o.state b o.out o.answer f)
        ∙ (ap (λ (x : List (List ℕ)). record {
          state = t.state;
          taken = t.taken;
          sent = logged t.reply t.out x;
          said = settled
              t.reply;
          out = t.out;
          answer = t.answer;
        })
        (unlogged r.reply r.out o.sent f) ∙ sym (called_open o t e)) in
        going o b piece e
        ∙ (rest
        ∙ (ap (λ (x : Outcome). playing x (drop k piece)) same
        ∙ sym (ap (on_from o (b ∷ piece)) (pick_no _ _ _ e ∙ pick_yes _ _ _ f)
        ∙ ap (λ (j : ℕ). playing (called_to o t) (drop j (b ∷ piece))) behind)))
