-- What is due today, as it is due by the rules with choosing (02, R-12).
-- Assumes nothing.
use Rattle.rulebook.specs.Later.{HeardLater}
use Rattle.rulebook_due.specs.Due as Today
use Rattle.choosing_due.specs.Due.{Due, asking, answering, saying, deciding, nothing}

unfoldable pub was_due : Today.Due → Due
was_due (asking c) = asking c
was_due answering = answering
was_due (saying h) = saying (HeardLater.was h)
was_due (deciding d) = deciding d
was_due nothing = nothing
