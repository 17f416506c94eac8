-- The definitions that a promise is made of, opened under one name. Assumes nothing.
use Rattle.std.specs.Prelude.{⊤}
use Rattle.slices.specs.Choice.{pick}
use Rattle.t0_begin.specs.Begin.{begun, begun_as, begun_in, begun_by}

unfoldable pub beginning : ⊤
unfolding pick begun begun_as begun_in begun_by
beginning = tt
