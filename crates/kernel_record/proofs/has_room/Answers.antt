-- `has_room` meets its contract: the number of blocks is tested first, so that the sum of the bytes cannot wrap.
-- Assumes nothing.
use mathlib.Core.Path.{sym}
use native.Mathlib.Omega.{arith}
use Rattle.kernel_record.specs.Recording.{blocks_of_call}
use Rattle.kernel_record.proofs.Refusing.{room_last, room_none}
use Rattle.kernel_record.proofs.has_room.Goals as goal

pub returns-then-used : goal.returns-then-used
returns-then-used c = let a = c.args in sym (room_none blocks_of_call a.writer.used a.tape.now (omega arith))

pub returns : goal.returns
returns c = let a = c.args in sym (room_last blocks_of_call a.writer.used a.tape.now (omega arith))
