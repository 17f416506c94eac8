-- How the check of a long list is shared out (02, R-3). What the check is (Check) does not rest on it. Assumes nothing.
use Rattle.std.specs.Prelude.{ℕ}

-- two parts of so many bytes are taken in side by side; with four bytes more they are what the check of a block covers
abbrev pub part : ℕ
part = 252

abbrev pub pair : ℕ
pair = 504
