-- `start_fields::fields::has_capabilities` meets its contract: the field is there where its bytes are.
-- Assumes nothing.
use mathlib.Core.Path.{sym, ap, ◌∙◌}
use mathlib.Core.Bool.{not}
use mathlib.Core.List.{List}
use Prim.Native.Nat.{ℕ}
use lib.Dec.{eqb}
use lib.ListN.{length}
use Rattle.slices.proofs.Choice.{is_there_lem}
use Rattle.start_fields.specs.declared.fields.Field.TheVariants.{Capabilities}
use Rattle.start_fields.specs.Reading.{reading_of, run_in}
use Rattle.start_fields.proofs.Reading.{bytes_read}
use Rattle.start_fields.proofs.fields.has_capabilities.Goals as goal

pub returns : goal.returns
unfolding reading_of
returns c =
    let s = c.args.s.now in
    ap not c.is_empty.ensures
    ∙ ap (λ (v : List ℕ). not (eqb (length v) 0)) (c.bytes.ensures ∙ bytes_read Capabilities s) ∙ sym (is_there_lem (run_in Capabilities s))
