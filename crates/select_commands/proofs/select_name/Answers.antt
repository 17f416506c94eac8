-- `select_name` meets its contract: it has no room, or its three pieces are laid.
-- Assumes nothing.
use mathlib.Core.Path.{ap, ◌∙◌}
use mathlib.Core.List.{[], ◌∷◌}
use Prim.Native.Nat.{◌+◌}
use lib.ListN.{length}
use Rattle.slices.specs.Writing.{laid}
use Rattle.select_commands.proofs.Sending.{unsent, sent}
use Rattle.select_commands.proofs.select_name.Goals as goal

pub returns-then-buf-n : goal.returns-then-buf-n
returns-then-buf-n c =
    let a = c.args in
    let both = unsent a.p2 a.name.now a.buf.now c.if-buf-n.true in
    record { size = both.0; buffer = both.1 }

pub returns : goal.returns
returns c =
    let a = c.args in
    let name = a.name.now in
    let both = sent a.p2 name a.buf.now c.if-buf-n.false c.lay-3.new.buf
    (c.lay-3.ensures
    ∙ ap (laid (0 ∷ []) (5 + length name)) (c.lay-2.ensures ∙ ap (laid name 5) c.lay.ensures)) in
    record { size = both.0; buffer = both.1 }
