-- A tape has exactly one verdict by the rules with choosing, and one fourth number, as it has under any rules (Once and Zeroing of
-- verdict_under).
-- Assumes nothing.
use mathlib.Core.Path.{◌≡◌}
use mathlib.Core.List.{List}
use Prim.Native.Nat.{ℕ}
use Rattle.tape_read.specs.Entries.{Entry}
use Rattle.rulebook_choosing.proofs.Kept.{kept}
use Rattle.choosing_zeros.specs.Zeros.{unsupplied_later}
use Rattle.verdict.specs.declared.Ruling.{Ruling}
use Rattle.verdict_under.proofs.Once as Under
use Rattle.verdict_under.proofs.Zeroing as Numbers
use Rattle.verdict_choosing.specs.Judged.{Judges, Judged}
use Rattle.verdict_choosing.specs.Zeroed.{Zeroed}

pub judges_once : {es : List Entry} {a b : Ruling} → Judges es a → Judges es b → a ≡ b
judges_once = Under.judges_once kept

pub judged_once : {t : List ℕ} {v w : Ruling} → Judged t v → Judged t w → v ≡ w
judged_once = Under.judged_once kept

pub judged_some : (t : List ℕ) → (v : Ruling) × Judged t v
judged_some = Under.judged_some kept

pub zeroed_once : (t : List ℕ) (n m : ℕ) → Zeroed t n → Zeroed t m → n ≡ m
zeroed_once = Numbers.zeroed_once kept unsupplied_later
