-- `value_at` meets its contract: each arm has what `next` found, and `value_in` says which part of the bytes that is.
-- Assumes nothing.
use mathlib.Core.Path.{sym, ap, ◌∙◌}
use Rattle.tlv_list.specs.Objects.{between}
use Rattle.tlv_reader.specs.Held.{value_in, value_at}
use Rattle.tlv_reader.proofs.value_at.Goals as goal

pub returns-in-Member : goal.returns-in-Member
unfolding value_at value_in
returns-in-Member c =
    c.value.ensures ∙ ap (value_in c.args.s.now) (sym c.in-Member.is ∙ c.next.ensures)

pub returns-in-End : goal.returns-in-End
unfolding value_at value_in between
returns-in-End c =
    c.value-in-End.ensures ∙ ap (value_in c.args.s.now) (sym c.in-End.is ∙ c.next.ensures)

pub returns-in-Broken : goal.returns-in-Broken
unfolding value_at value_in between
returns-in-Broken c =
    c.value-in-Broken.ensures ∙ ap (value_in c.args.s.now) (sym c.in-Broken.is ∙ c.next.ensures)
