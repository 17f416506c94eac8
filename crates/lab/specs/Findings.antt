-- What the judge finds, as numbers: verdict, place, code, and how many list entries were filled with zeros (01, "The tape"; 02, R-6). The
-- verdicts have the numbers of a campaign book (02, R-11).
-- Assumes nothing.
use Rattle.std.specs.Prelude.{◌≡◌, List, [], ◌∷◌, ℕ}
use Rattle.verdict.specs.declared.Finding.{Finding}
use Rattle.verdict_judged.specs.Judged.{Judged}
use Rattle.verdict_judged.specs.Zeroed.{Zeroed}
use Rattle.book_answer.specs.Answers.{verdict_number}

unfoldable pub laid_finding : Finding → List ℕ
laid_finding f = verdict_number f.ruling.verdict ∷ f.ruling.place ∷ f.ruling.code ∷ f.zeros ∷ []

-- the numbers of what the judge finds of a tape
pub record FoundOf (t : List ℕ) (numbers : List ℕ) : Type 0 where
  pub finding : Finding
  pub verdict : Judged t finding.ruling
  pub zeros : Zeroed t finding.zeros
  pub laid : numbers ≡ laid_finding finding
