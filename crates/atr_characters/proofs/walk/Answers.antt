-- `walk` meets its contract. The loop's invariant: the levels that are left, counted as the definition counts them, give what
-- all of them give; and the level at hand reaches no further than it can.
-- Assumes nothing.
use mathlib.Core.Path.{◌≡◌, sym, ap, ◌∙◌}
use mathlib.Core.Bool.{◌||◌, not}
use Prim.Native.Nat.{ℕ, ◌+◌, ◌-◌}
use native.Mathlib.Omega.{arith}
use lib.Dec.{eqb}
use lib.ListN.{length}
use Rattle.atr_characters.specs.Data.{data_of}
use Rattle.atr_characters.specs.Levels.{level_of, first_of, after_of, names_other, walked, interface_of}
use Rattle.atr_characters.specs.declared.Level.{Level}
use Rattle.atr_characters.proofs.Data.{data_length}
use Rattle.atr_characters.proofs.Reach.{first_reaches, next_reaches, walked_on, walked_end}
use Rattle.atr_characters.proofs.walk.Goals as goal

pub loop-init : goal.loop-init
unfolding interface_of first_of
loop-init c =
    let a = c.args in
    let s = data_of a.inverse a.capture.now in
    let l = c.level_at-l.ensures.0 ∙ ap (λ (y : ℕ). level_of s y 2) c.character.ensures in
    let all : length s - 0 ≡ length s = omega arith in (
      first_reaches s _ _ c.character.ensures c.level_at-l.ensures.0,
      ap (λ (k : ℕ). walked k s c.level_at-l.result (not (eqb c.protocol-other.result 0))) all
          ∙ ap (λ (p : ℕ). walked (length s) s c.level_at-l.result (not (eqb p 0))) c.protocol-other.ensures
          ∙ ap (λ (l : Level). walked (length s) s l (names_other l.td)) l,
    )

pub level_at-l-requires-in-loop : goal.level_at-l-requires-in-loop
level_at-l-requires-in-loop c =
    let a = c.args in
    let near = c.loop.invariant.0.near in
    omega (arith, data_length a.inverse a.capture.now)

pub loop-preserved : goal.loop-preserved
unfolding after_of
loop-preserved c =
    let a = c.args in
    let s = data_of a.inverse a.capture.now in
    let turn = c.loop in
    let l = c.level_at-l-in-loop.ensures.0 ∙ ap (λ (y : ℕ). level_of s y turn.l.next) c.value.ensures in
    let size = data_length a.inverse a.capture.now in (
      next_reaches s turn.l _ _ turn.invariant.0 c.value.ensures c.level_at-l-in-loop.ensures.0,
      ap (λ (p : ℕ). walked (length s - (turn.index + 1)) s c.level_at-l-in-loop.result (turn.other || not (eqb p 0))) c.protocol.ensures
          ∙ (ap (λ (l : Level). walked (length s - (turn.index + 1)) s l (turn.other || names_other l.td)) l
          ∙ (sym (walked_on s turn.l turn.other (length s) turn.index (omega arith)) ∙ turn.invariant.1)),
    )

pub returns : goal.returns
returns c =
    let a = c.args in
    let s = data_of a.inverse a.capture.now in
    let turn = c.loop in
    let size = data_length a.inverse a.capture.now in
    let end : length s - turn.index ≡ length s - length s = omega arith in
    let near = turn.invariant.0.near in
    let last = ap (λ (k : ℕ). walked k s turn.l turn.other) end ∙ walked_end s turn.l turn.other (length s) in
    (sym last ∙ turn.invariant.1, omega arith)
