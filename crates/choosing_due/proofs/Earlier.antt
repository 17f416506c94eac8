-- On a tape with an earlier START what is due by the rules with choosing is what is due today (02, R-12).
-- Assumes nothing.
use mathlib.Core.Path.{◌≡◌, refl, ap, ◌∙◌}
use mathlib.Core.List.{List}
use mathlib.Core.Option.{Option, none, some}
use Rattle.tape_read.specs.Entries.{Entry}
use Rattle.sessions.specs.Machine.{run}
use Rattle.rulebook.specs.Phase.{Heard, opens, asks, hears, decides}
use Rattle.rulebook.specs.Session.{rules as today}
use Rattle.rulebook.specs.Machine.{Machine, at, owes, done}
use Rattle.rulebook.specs.Later.{HeardLater, as_was, command_later, Earlier}
use Rattle.rulebook_choosing.specs.Choosing.{choosing}
use Rattle.due_under.specs.After as Under
use Rattle.rulebook_due.specs.Due as Today
use Rattle.rulebook_due.specs.After as TodayAfter
use Rattle.verdict_editions.specs.Editions.{First}
use Rattle.verdict_editions.specs.Was.{was_state, was_next}
use Rattle.verdict_editions.proofs.Was.{run_was}
use Rattle.choosing_due.specs.Due.{count_in}
use Rattle.choosing_due.specs.After.{due_at, due_in, due_after}
use Rattle.choosing_due.specs.Was.{was_due}

pub due_was : (σ : Machine) → due_at (was_state σ) ≡ was_due (TodayAfter.due_at σ)
unfolding Under.due_at was_state was_due as_was command_later
due_was (at (asks w)) = refl
due_was (at (hears h)) = refl
due_was (at (decides outcome reason s)) = refl
due_was (owes w) = refl
due_was done = refl

in_was : (o : Option Machine) → due_in (was_next o) ≡ was_due (TodayAfter.due_in o)
unfolding Under.due_in was_next was_due
in_was none = refl
in_was (some σ) = due_was σ

pub due_earlier : (es : List Entry) → First (Earlier choosing) es → due_after es ≡ was_due (TodayAfter.due_after es)
unfolding Under.due_after
due_earlier es first = ap due_in (run_was choosing es first) ∙ in_was (run today es (at opens))

pub count_was : (h : Heard) → count_in (HeardLater.was h) ≡ Today.count_in h
unfolding count_in
count_was h = refl
