-- The machine finds the verdict of every tape by the rules with choosing, and the sum beside it the fourth number, as they do under any
-- rules (Meaning and Zeroing of verdict_under).
-- Assumes nothing.
use mathlib.Core.Path.{◌≡◌}
use mathlib.Core.List.{List}
use Prim.Native.Nat.{ℕ}
use Rattle.tape_read.specs.Tapes.{Reading, read_tape}
use Rattle.rulebook_choosing.specs.Session.{rules}
use Rattle.rulebook_choosing.proofs.Kept.{kept}
use Rattle.choosing_zeros.specs.Zeros.{unsupplied_later}
use Rattle.verdict.specs.declared.Ruling.{Ruling}
use Rattle.verdict_under.proofs.Meaning as Under
use Rattle.verdict_under.proofs.Zeroing as Numbers
use Rattle.verdict_choosing.specs.Judged.{Judged}
use Rattle.verdict_choosing.specs.Zeroed.{Zeroed}
use Rattle.verdict_choosing.specs.Progress.{verdict_of}

pub verdict_judged : (t : List ℕ) → Judged t (verdict_of t)
verdict_judged = Under.verdict_judged kept

-- so an answer is right exactly where it is the one that the machine finds
pub verdict_right : (t : List ℕ) (a : Ruling) → a ≡ verdict_of t → Judged t a
verdict_right = Under.verdict_right kept

pub right_verdict : (t : List ℕ) (a : Ruling) → Judged t a → a ≡ verdict_of t
right_verdict = Under.right_verdict kept

-- the fourth number of what a tape reads as
abbrev pub zeros_in : Reading → ℕ
zeros_in = Numbers.zeros_in rules unsupplied_later

pub zeroed_found : (t : List ℕ) → Zeroed t (zeros_in (read_tape t))
zeroed_found = Numbers.zeroed_found kept unsupplied_later

pub zeroed_right : (t : List ℕ) (n : ℕ) → n ≡ zeros_in (read_tape t) → Zeroed t n
zeroed_right = Numbers.zeroed_right kept unsupplied_later
