-- What was is counted as it was; and a selection counts nothing but the list 9F38 of the application that runs, where GPO becomes due:
-- after an answer, and never after a choice (02, R-6 and R-12).
-- Assumes nothing.
use mathlib.Core.Path.{◌≡◌, refl}
use mathlib.Core.List.{List}
use Prim.Native.Nat.{ℕ}
use Rattle.sessions.specs.Rules.{asks, hears, decides}
use Rattle.rulebook.specs.Phase.{Phase, optioning}
use Rattle.rulebook.specs.Later.{AskedLater, as_was}
use Rattle.rulebook_choosing.specs.Choosing.{Choosing, ChoosingPhase, chose, listed, following}
use Rattle.rulebook_choosing.specs.Stated.{Takes, sent, stopped}
use Rattle.rulebook_choosing.proofs.Selecting.{chose_on}
use Rattle.rulebook_zeros.specs.Zeros.{unsupplied_asking, unsupplied_in}
use Rattle.select_search.specs.Search.{runs}
use Rattle.choosing_zeros.specs.Zeros.{unsupplied_asking_later, unsupplied_later}

-- as it was, from GPO on and for a START of an earlier length
pub was_counted : (q : Phase) → unsupplied_later (as_was q) ≡ unsupplied_in q
unfolding unsupplied_later unsupplied_asking_later unsupplied_in as_was
was_counted (asks w) = refl
was_counted (hears h) = refl
was_counted (decides outcome reason s) = refl

-- nothing at START
pub start_counts : (p : List ℕ) → unsupplied_later (asks (AskedLater.new (listed p))) ≡ 0
unfolding unsupplied_later unsupplied_asking_later
start_counts p = refl

-- at an answer of the search: its list, where an application runs
pub answer_counts : (x : Choosing) (list : List ℕ)
    → unsupplied_later (following x (runs list)) ≡ unsupplied_asking (optioning x.situation list)
unfolding unsupplied_later unsupplied_asking_later following
answer_counts x list = refl

-- nothing at a choice
taken_counts : (x : Choosing) (q : ChoosingPhase) → Takes x q → unsupplied_later q ≡ 0
unfolding unsupplied_later unsupplied_asking_later
taken_counts x q (sent s e few) = refl
taken_counts x q (stopped reason one) = refl

pub choice_counts : (x : Choosing) (p : List ℕ) → unsupplied_later (chose x p) ≡ 0
choice_counts x p = taken_counts x (chose x p) (chose_on x p)
