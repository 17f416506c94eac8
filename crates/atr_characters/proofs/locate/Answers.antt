-- `locate` meets its contract: the levels one after the other, the walk over all of them, and the bytes from T0 to TCK joined.
-- Assumes nothing.
use mathlib.Core.Path.{sym, ap, ◌∙◌}
use Prim.Native.Nat.{ℕ, ◌+◌, ◌%◌}
use native.Mathlib.Omega.{arith}
use Rattle.atr_characters.specs.Data.{data_of, joined_from}
use Rattle.atr_characters.specs.Levels.{level_of}
use Rattle.atr_characters.proofs.Data.{data_length, data_part}
use Rattle.atr_characters.proofs.Reach.{first_reaches, next_reaches, located_made}
use Rattle.atr_characters.proofs.locate.Goals as goal

pub level_at-second-requires : goal.level_at-second-requires
level_at-second-requires c =
    let a = c.args in
    let first = first_reaches (data_of a.inverse a.capture.now) _ _ c.character-t0.ensures c.level_at-first.ensures.0 in
    let near = first.near in
    omega (arith, data_length a.inverse a.capture.now)

pub level_at-third-requires : goal.level_at-third-requires
level_at-third-requires c =
    let a = c.args in
    let first = first_reaches (data_of a.inverse a.capture.now) _ _ c.character-t0.ensures c.level_at-first.ensures.0 in
    let second = next_reaches _ c.level_at-first.result _ _ first c.value.ensures c.level_at-second.ensures.0 in
    let near = second.near in
    omega (arith, data_length a.inverse a.capture.now)

pub returns-clause-located : goal.returns-clause-located
returns-clause-located c =
    let a = c.args in
    let s = data_of a.inverse a.capture.now in
    let end = c.walk-found.result.next + c.character-t0.result % 16 in
    located_made s _ _ _ _ _ _ _ _
    (sym (data_length a.inverse a.capture.now))
    c.character-t0.ensures
    c.level_at-first.ensures.0
    (c.level_at-second.ensures.0 ∙ ap (λ (y : ℕ). level_of s y c.level_at-first.result.next) c.value.ensures)
    (c.level_at-third.ensures.0 ∙ ap (λ (y : ℕ). level_of s y c.level_at-second.result.next) c.value-2.ensures)
    c.walk-found.ensures.0
    c.one.ensures.0
    (c.joined.ensures
    ∙ ap (joined_from 0) (ap (data_of a.inverse) c.part.ensures ∙ data_part a.inverse a.capture.now end 1))
