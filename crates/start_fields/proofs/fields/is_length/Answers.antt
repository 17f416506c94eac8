-- `fields::is_length` meets its contract: the first length that is the number settles it, else the second decides.
-- Assumes nothing.
use mathlib.Core.Path.{sym, ap, ◌∙◌}
use mathlib.Core.Bool.{Bool, ◌||◌}
use borrow.Author.Tests.{eq-eqb, ne_eqb}
use lib.Dec.{eqb}
use Rattle.start_fields.specs.Layout.{start_length, full_length, is_length}
use Rattle.start_fields.proofs.fields.is_length.Goals as goal

pub returns-then-n-eq-LENGTH : goal.returns-then-n-eq-LENGTH
unfolding is_length
returns-then-n-eq-LENGTH c =
    let n = c.args.n in
    let shorter = eq-eqb n start_length c.if-n-eq-LENGTH.true in
    shorter ∙ sym (ap (λ (t : Bool). t || eqb n full_length) shorter)

pub returns-else-n-eq-LENGTH : goal.returns-else-n-eq-LENGTH
unfolding is_length
returns-else-n-eq-LENGTH c = let n = c.args.n in sym
    (ap (λ (t : Bool). t || eqb n full_length) (ne_eqb n start_length c.if-n-eq-LENGTH.false))
