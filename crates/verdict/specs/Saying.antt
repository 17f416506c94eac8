-- What is said of a tape (01, "The tape": verdict, place, code), and what is found beside it (02, R-6).
-- Assumes nothing.
use Rattle.std.specs.Prelude.{ℕ}
use Rattle.verdict.specs.declared.Verdict.{Verdict}
use Rattle.verdict.specs.declared.Ruling.{Ruling}
use Rattle.verdict.specs.declared.Finding.{Finding}

abbrev pub says : Verdict → ℕ → ℕ → Ruling
says verdict place code = record { verdict = verdict; place = place; code = code }

abbrev pub finds : Ruling → ℕ → Finding
finds ruling zeros = record { ruling = ruling; zeros = zeros }
