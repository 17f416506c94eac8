-- A call of `takes`, then what is left of the piece from where it ended, comes to the whole piece. Assumes nothing.
use mathlib.Core.Path.{◌≡◌, refl, sym, ap, subst, ◌∙◌}
use mathlib.Core.Bool.{true, false, false≢true}
use mathlib.Core.List.{List, [], ◌∷◌}
use Prim.Native.Nat.{ℕ, suc, ◌+◌, ◌-◌, ◌≤◌}
use native.Mathlib.Omega.{arith}
use lib.ListN.{length, drop}
use Rattle.slices.proofs.Choice.{pick_yes, pick_no, picked, either}
use Rattle.t0_state.specs.declared.State.{State}
use Rattle.t0.specs.Steps.{Stepped, step_of}
use Rattle.t0_pieces.specs.Pieces.{is_closed, is_quiet, Took, takes_from, Gone, gone, taken_all}

-- an exchange that is over takes nothing
pub closed_all : (piece : List ℕ) (s : State) (out answer : List ℕ) → is_closed s ≡ true → taken_all s piece out answer ≡ gone s out answer
unfolding taken_all
closed_all [] s out answer e = refl
closed_all (b ∷ piece) s out answer e = pick_yes _ _ _ e

abbrev rest_of : List ℕ → ℕ → Took → Gone
rest_of piece n t = taken_all t.state (drop (t.taken - n) piece) t.out t.answer

grows : (piece : List ℕ) (n : ℕ) (s : State) (out answer : List ℕ) → n ≤ (takes_from n s piece out answer).taken
unfolding takes_from
grows [] n s out answer = omega arith
grows (b ∷ piece) n s out answer =
    let r = step_of s b out answer in
    picked (λ (t : Took). n ≤ t.taken) (is_closed s) _ _ (λ e. omega arith)
    (λ e. picked (λ (t : Took). n ≤ t.taken) (is_quiet r.reply) _ _
    (λ f. let more = grows piece (n + 1) r.state r.out r.answer in omega arith) (λ f. omega arith))

drop_none : (n : ℕ) (l : List ℕ) → n ≡ 0 → drop n l ≡ l
drop_none n l e = ap (λ (k : ℕ). drop k l) e

went : (s : State) (b : ℕ) (piece out answer : List ℕ) → is_closed s ≡ false
    → taken_all s (b ∷ piece) out answer
    ≡ taken_all (step_of s b out answer).state piece (step_of s b out answer).out (step_of s b out answer).answer
unfolding taken_all
went s b piece out answer e = pick_no _ _ _ e

-- where a call stops
on_from_lem : (piece : List ℕ) (n : ℕ) (s : State) (out answer : List ℕ)
    → taken_all s piece out answer ≡ rest_of piece n (takes_from n s piece out answer)
unfolding takes_from
on_from_lem [] n s out answer = sym (ap (λ (k : ℕ). taken_all s (drop k []) out answer) (let z : n - n ≡ 0 = omega arith in z))
on_from_lem (b ∷ piece) n s out answer =
    either (is_closed s)
    (λ e. ap (λ (l : List ℕ). taken_all s l out answer) (sym (drop_none (n - n) (b ∷ piece) (omega arith)))
    ∙ sym (ap (rest_of (b ∷ piece) n) (pick_yes _ _ _ e)))
    (λ e. either (is_quiet r.reply) (λ f. quiet e f (on_from_lem piece (n + 1) r.state r.out r.answer)) (λ f. loud e f))
  where
    r : Stepped
    r = step_of s b out answer

    t : Took
    t = takes_from (n + 1) r.state piece r.out r.answer

    step : is_closed s ≡ false → taken_all s (b ∷ piece) out answer ≡ taken_all r.state piece r.out r.answer
    step e = went s b piece out answer e

    loud : is_closed s ≡ false → is_quiet r.reply ≡ false
        → taken_all s (b ∷ piece) out answer ≡ rest_of (b ∷ piece) n (takes_from n s (b ∷ piece) out answer)
    loud e f =
        step e
        ∙ (ap (λ (k : ℕ). taken_all r.state (drop k (b ∷ piece)) r.out r.answer) (let z : 1 ≡ n + 1 - n = omega arith in z)
        ∙ sym (ap (rest_of (b ∷ piece) n) (pick_no _ _ _ e ∙ pick_no _ _ _ f)))

    quiet : is_closed s ≡ false → is_quiet r.reply ≡ true → taken_all r.state piece r.out r.answer ≡ rest_of piece (n + 1) t
        → taken_all s (b ∷ piece) out answer ≡ rest_of (b ∷ piece) n (takes_from n s (b ∷ piece) out answer)
    quiet e f i =
        let g = grows piece (n + 1) r.state r.out r.answer in
        step e
        ∙ (i
        ∙ (ap (λ (k : ℕ). taken_all t.state (drop k (b ∷ piece)) t.out t.answer)
        (let z : suc (t.taken - (n + 1)) ≡ t.taken - n = omega arith in z)
        ∙ sym (ap (rest_of (b ∷ piece) n) (pick_no _ _ _ e ∙ pick_yes _ _ _ f))))

-- the law, for one call
pub called_on : (piece : List ℕ) (s : State) (out answer : List ℕ) (t : Took) → t ≡ takes_from 0 s piece out answer
    → taken_all s piece out answer ≡ taken_all t.state (drop t.taken piece) t.out t.answer
called_on piece s out answer t e =
    on_from_lem piece 0 s out answer
    ∙ (sym (ap (rest_of piece 0) e)
    ∙ ap (λ (k : ℕ). taken_all t.state (drop k piece) t.out t.answer) (let z : t.taken - 0 ≡ t.taken = omega arith in z))

-- a call takes at least one byte, where there is one and the exchange is not over afterwards
pub takes_some : (piece : List ℕ) (s : State) (out answer : List ℕ) (t : Took) → t ≡ takes_from 0 s piece out answer
    → is_closed t.state ≡ false → 1 ≤ length piece → 1 ≤ t.taken
unfolding takes_from
takes_some [] s out answer t e f h = absurd (omega arith)
takes_some (b ∷ piece) s out answer t e f h =
    subst (λ (x : Took). 1 ≤ x.taken) (sym e)
    (either (is_closed s)
    (λ g. absurd (false≢true (sym f ∙ (ap (λ (x : Took). is_closed x.state) (e ∙ pick_yes _ _ _ g) ∙ g))))
    (λ g. subst (λ (x : Took). 1 ≤ x.taken) (sym (pick_no _ _ _ g))
    (picked (λ (x : Took). 1 ≤ x.taken) _ _ _
    (λ i. let k = grows piece 1 (step_of s b out answer).state (step_of s b out answer).out (step_of s b out answer).answer in omega arith)
    (λ i. omega arith))))

pub none_all : (s : State) (out answer : List ℕ) → taken_all s [] out answer ≡ gone s out answer
unfolding taken_all
none_all s out answer = refl
