-- `data::lay_data` meets its contract: the filled list, and '00' where it ends.
-- Assumes nothing.
use mathlib.Core.Path.{ap, ◌∙◌}
use mathlib.Core.List.{[], ◌∷◌}
use Prim.Native.Nat.{◌+◌}
use Rattle.slices.specs.Writing.{laid}
use Rattle.start_fields.specs.Reading.{reading_of}
use Rattle.session_records.specs.Slots.{told_in}
use Rattle.dol_fill.specs.Filled.{filling}
use Rattle.commands.proofs.Sizes.{data_length, two_laid}
use native.Mathlib.Omega.{arith}
use Rattle.commands.proofs.data.lay_data.Goals as goal

pub returns : goal.returns
returns c =
    let a = c.args in
    let t = reading_of a.from.start.now in
    let n = c.data_size.ensures.0 in
    let long = data_length t (told_in a.from.known.now) a.list.now in
    let h = c.requires in
    c.lay.ensures
    ∙ (ap (laid (0 ∷ []) (a.at + c.data_size.result))
    c.fill.ensures
    ∙ two_laid (filling t (told_in a.from.known.now) a.list.now) (0 ∷ []) a.buf.now a.at
    (a.at + c.data_size.result) (omega arith) (omega arith))
