-- In every place exactly one thing is due: a block is to come, an end is to move, or the conversation is over. Assumes nothing.
use mathlib.Core.Path.{◌≡◌, refl, sym, ap, ◌∙◌}
use mathlib.Core.Bool.{Bool, true, false, false≢true}
use mathlib.Core.List.{List}
use Prim.Native.Nat.{ℕ}
use native.Mathlib.Omega.{arith}
use Rattle.slices.specs.Choice.{pick}
use Rattle.t1_state.specs.declared.Phase.{Phase}
use Rattle.t1_state.specs.declared.Phase.TheVariants.{Start, Asking, Due, Sent, Receiving, Over}
use Rattle.t1_line.specs.Line.{takes_fields}
use Rattle.t1.specs.Steps.{block_of}
use Rattle.t1_laws.specs.Stopping.{awaits}
use Rattle.t1_laws.specs.Talks.{Side, Line, clear, forth, back, Talk, Happens}
use Rattle.t1_laws.specs.Talks.{talk, begun, is_clear, may_move, is_mute, due_in, due}
use Rattle.t1_laws.proofs.Meeting.{Way, empty, there, here, Flies, to_y, to_x, idle, asking, sending, takes_awaits}
use Rattle.t1_laws.proofs.Talking.{from_terminal, from_card, Place, starts, terminals, cards, silenced, over}
use Rattle.t1_laws.proofs.Talking.{clear_terminal, clear_card}
use Rattle.t1_laws.proofs.Schedule.{always, begun_holds}

-- what is due in each place
phase_due : (c : Bool) (p q : Phase) (c' : Bool) (p' q' : Phase) → c ≡ c' → p ≡ p' → q ≡ q' → due_in c' p' q' ≡ 1 → due_in c p q ≡ 1
phase_due c p q c' p' q' e f g h = ap₃ e f g ∙ h
  where
    ap₃ : c ≡ c' → p ≡ p' → q ≡ q' → due_in c p q ≡ due_in c' p' q'
    ap₃ e f g = ap (λ (x : Bool). due_in x p q) e ∙ (ap (λ (x : Phase). due_in c' x q) f ∙ ap (λ (x : Phase). due_in c' p' x) g)

-- the other end takes fields
mover_due : (p q : Phase) (more : Bool) → may_move p ≡ true → takes_fields q more ≡ true
    → (due_in true p q ≡ 1) × ((p ≡ Due) → due_in true q p ≡ 1)
unfolding pick
mover_due Start Start more e f = absurd (false≢true f)
mover_due Start Asking more e f = absurd (false≢true f)
mover_due Start Due more e f = absurd (false≢true f)
mover_due Start Sent more e f = (refl, λ g. absurd (let z : ◌≡◌ {A = ℕ} 0 1 = cc in omega arith))
mover_due Start Receiving more e f = (refl, λ g. absurd (let z : ◌≡◌ {A = ℕ} 0 1 = cc in omega arith))
mover_due Start Over more e f = absurd (false≢true f)
mover_due Due Start more e f = absurd (false≢true f)
mover_due Due Asking more e f = absurd (false≢true f)
mover_due Due Due more e f = absurd (false≢true f)
mover_due Due Sent more e f = (refl, λ g. refl)
mover_due Due Receiving more e f = (refl, λ g. refl)
mover_due Due Over more e f = absurd (false≢true f)
mover_due Asking q more e f = absurd (false≢true e)
mover_due Sent q more e f = absurd (false≢true e)
mover_due Receiving q more e f = absurd (false≢true e)
mover_due Over q more e f = absurd (false≢true e)

-- a block is under way where both await one
carried_due : (p q : Phase) → awaits p ≡ true → awaits q ≡ true → due_in false p q ≡ 1
unfolding pick
carried_due Start q e f = absurd (false≢true e)
carried_due Due q e f = absurd (false≢true e)
carried_due Over q e f = absurd (false≢true e)
carried_due Asking Start e f = absurd (false≢true f)
carried_due Asking Due e f = absurd (false≢true f)
carried_due Asking Over e f = absurd (false≢true f)
carried_due Asking Asking e f = refl
carried_due Asking Sent e f = refl
carried_due Asking Receiving e f = refl
carried_due Sent Start e f = absurd (false≢true f)
carried_due Sent Due e f = absurd (false≢true f)
carried_due Sent Over e f = absurd (false≢true f)
carried_due Sent Asking e f = refl
carried_due Sent Sent e f = refl
carried_due Sent Receiving e f = refl
carried_due Receiving Start e f = absurd (false≢true f)
carried_due Receiving Due e f = absurd (false≢true f)
carried_due Receiving Over e f = absurd (false≢true f)
carried_due Receiving Asking e f = refl
carried_due Receiving Sent e f = refl
carried_due Receiving Receiving e f = refl

mute_due : (p q : Phase) → awaits p ≡ true → is_mute q ≡ true → due_in true p q ≡ 1
unfolding pick
mute_due Start q e f = absurd (false≢true e)
mute_due Due q e f = absurd (false≢true e)
mute_due Over q e f = absurd (false≢true e)
mute_due Asking Start e f = absurd (false≢true f)
mute_due Asking Due e f = absurd (false≢true f)
mute_due Asking Sent e f = absurd (false≢true f)
mute_due Asking Receiving e f = absurd (false≢true f)
mute_due Asking Asking e f = refl
mute_due Asking Over e f = refl
mute_due Sent Start e f = absurd (false≢true f)
mute_due Sent Due e f = absurd (false≢true f)
mute_due Sent Sent e f = absurd (false≢true f)
mute_due Sent Receiving e f = absurd (false≢true f)
mute_due Sent Asking e f = refl
mute_due Sent Over e f = refl
mute_due Receiving Start e f = absurd (false≢true f)
mute_due Receiving Due e f = absurd (false≢true f)
mute_due Receiving Sent e f = absurd (false≢true f)
mute_due Receiving Receiving e f = absurd (false≢true f)
mute_due Receiving Asking e f = refl
mute_due Receiving Over e f = refl

over_due : (q : Phase) → due_in true Over q ≡ 1
unfolding pick
over_due q = refl

not_clear : (x y : Side) (l : Line) (w : Line → Way) → w clear ≡ empty → Flies x y (w l) → is_clear l ≡ false
not_clear x y clear w e (to_y f) = absurd (let z : ◌≡◌ {A = ℕ} 0 1 = apart (sym e ∙ f) in omega arith)
  where
    apart : empty ≡ there (block_of x.end) → ◌≡◌ {A = ℕ} 0 1
    apart g = cc
not_clear x y clear w e (to_x f) = absurd (let z : ◌≡◌ {A = ℕ} 0 1 = apart (sym e ∙ f) in omega arith)
  where
    apart : empty ≡ here (block_of y.end) → ◌≡◌ {A = ℕ} 0 1
    apart g = cc
not_clear x y (forth b) w e f = refl
not_clear x y (back b) w e f = refl

pub one_due : (t : Talk) → Place t → due t ≡ 1
one_due t (starts l p e) =
    phase_due _ _ _ true Start t.card.end.phase (ap is_clear e) p refl (mover_due Start t.card.end.phase _ refl l.ears).0
one_due t (terminals (idle l p e)) =
    phase_due _ _ _ true Due t.card.end.phase (ap is_clear (clear_terminal t.line e)) p refl
    (mover_due Due t.card.end.phase _ refl l.ears).0
one_due t (terminals (asking l p f)) =
    phase_due _ _ _ false Asking t.card.end.phase (not_clear _ _ t.line from_terminal refl f) p refl
    (carried_due Asking t.card.end.phase refl (takes_awaits t.card.end.phase _ l.ears))
one_due t (terminals (sending m rest g f)) =
    phase_due _ _ _ false Sent t.card.end.phase (not_clear _ _ t.line from_terminal refl f) g.live refl
    (carried_due Sent t.card.end.phase refl (takes_awaits t.card.end.phase _ g.ears))
one_due t (cards (idle l p e)) =
    phase_due _ _ _ true t.terminal.end.phase Due (ap is_clear (clear_card t.line e)) refl p
    ((mover_due Due t.terminal.end.phase _ refl l.ears).1 refl)
one_due t (cards (asking l p f)) =
    phase_due _ _ _ false t.terminal.end.phase Asking (not_clear _ _ t.line from_card refl f) refl p
    (carried_due t.terminal.end.phase Asking (takes_awaits t.terminal.end.phase _ l.ears) refl)
one_due t (cards (sending m rest g f)) =
    phase_due _ _ _ false t.terminal.end.phase Sent (not_clear _ _ t.line from_card refl f) refl g.live
    (carried_due t.terminal.end.phase Sent (takes_awaits t.terminal.end.phase _ g.ears) refl)
one_due t (silenced m e w o) =
    phase_due _ _ _ true t.terminal.end.phase t.card.end.phase (ap is_clear e) refl refl
    (mute_due t.terminal.end.phase t.card.end.phase w m)
one_due t (over p e o) = phase_due _ _ _ true Over t.card.end.phase (ap is_clear e) p refl (over_due t.card.end.phase)

-- the law: two ends never both wait while nothing is under way and the conversation goes on, and never both are to move
pub no_deadlock : (ifsc : ℕ) (hs : List Happens) → due (talk hs (begun ifsc)) ≡ 1
no_deadlock ifsc hs = one_due _ (always hs (begun ifsc) (begun_holds ifsc)).place
