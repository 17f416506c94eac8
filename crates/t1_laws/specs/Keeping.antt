-- Which turns keep the field of a block, and which blocks carry a number.
-- Assumes nothing.
use Rattle.std.specs.Prelude.{Ok, Err, Bool, true, false}
use Rattle.t1_block.specs.Faults.{Heard}
use Rattle.t1_block.specs.declared.Kind.{Kind}
use Rattle.t1_block.specs.declared.Kind.TheVariants.{Information, Ready, Request, Response}
use Rattle.t1_state.specs.declared.Act.{Act}
use Rattle.t1_state.specs.declared.Act.TheVariants.{Nothing, Send, Keep, Value, Whole, End, Refuse}
use Rattle.t1_line.specs.Line.{equal}

-- whether the field belongs to the message that comes in
abbrev pub is_kept : Act → Bool
is_kept Nothing = false
is_kept Send = false
is_kept Keep = true
is_kept Value = false
is_kept (Whole n) = true
is_kept (End e) = false
is_kept (Refuse why) = false

-- whether this is a valid I-block with the number
abbrev pub carries_in : Bool → Kind → Bool
carries_in number (Information n more) = equal n number
carries_in number (Ready n) = false
carries_in number (Request w) = false
carries_in number (Response w) = false

abbrev pub carries : Bool → Heard → Bool
carries number (Ok kind) = carries_in number kind
carries number (Err code) = false
